use Rattle.std.proofs.Common.{◌≡◌, ℕ, Some, None, true, false, Option, option_map, subst, sym, ap, ◌∙◌}
use Rattle.al_world.specs.Channels.{channel}
use Rattle.al_world.specs.Talks.{Fired}
use Rattle.chan_book.specs.Named.{waiter_of}
use Rattle.alt_select.specs.Answer.{IsFired, is_buffered}
use Rattle.alt_select.proofs.Goes.{first_waits}
use Rattle.alt_select.proofs.Picks.{partner_there, picked_partner, picked_buffer, received_so}
use Rattle.alt_select.proofs.going.go.Goals as goal

pub meet-requires : goal.meet-requires
meet-requires c =
    let f = first_waits c.args.book.now.book c.args.branch c.args.place c.in-Some-opposite.waiter c.in-Some-opposite.ensures in
    record { offer = f.0; of = f.1.0 }

pub unreachable-requires : goal.unreachable-requires
unreachable-requires c =
    let there = partner_there c.args.book.now.book c.args.branch c.args.place c.requires (sym c.is_buffered.ensures ∙ c.if-is_buffered.false) in
    let none : Some (waiter_of there.0) ≡ None = sym (ap (option_map waiter_of) there.1) ∙ sym c.opposite.ensures ∙ c.in-None-opposite.is in
    cc

pub returns-in-None-clause-gone : goal.returns-in-None-clause-gone
returns-in-None-clause-gone c = λ t.
    let book = c.args.book.now.book in
    let b = c.args.branch in
    let buffered : is_buffered (channel book.channels b.chan) ≡ true = sym c.is_buffered.ensures ∙ c.if-is_buffered.true in
    let is = picked_buffer book b c.args.place c.requires buffered c.args.number t ∙ received_so book b c.args.place c.requires buffered c.args.number t c.in-None.is in
    subst (λ (x : Option (Fired ℕ)). IsFired x c.receive.new.book.book c.receive.result) (sym is) (c.receive.ensures.received t)

pub returns-in-Some-opposite-clause-gone : goal.returns-in-Some-opposite-clause-gone
returns-in-Some-opposite-clause-gone c = λ t.
    let book = c.args.book.now.book in
    let b = c.args.branch in
    let unbuffered : is_buffered (channel book.channels b.chan) ≡ false = sym c.is_buffered.ensures ∙ c.if-is_buffered.false in
    let f = first_waits book b c.args.place c.in-Some-opposite.waiter c.in-Some-opposite.ensures in
    subst (λ (x : Option (Fired ℕ)). IsFired x c.meet.new.book.book c.meet.result) (sym (picked_partner book b c.args.place c.requires unbuffered c.args.number t f.0 f.1.1)) (c.meet.ensures.met f.0 f.1.0 t)
