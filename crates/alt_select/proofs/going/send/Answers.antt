use Rattle.std.proofs.Common.{[], ℕ, Some, subst, sym, ◌∙◌}
use Rattle.al_world.specs.Channels.{channel, held_of}
use Rattle.al_world.specs.Talks.{Fired}
use Rattle.alt_select.specs.Answer.{IsFired, receivers}
use Rattle.alt_select.proofs.Goes.{first_waits, sends_over}
use Rattle.alt_select.proofs.going.send.Goals as goal

pub hand_over-requires : goal.hand_over-requires
hand_over-requires c =
    let f = first_waits c.args.book.now.book (record { chan = c.args.chan; words = 0; send = Some [] }) 0 c.in-Some.waiter (sym c.in-Some.is ∙ c.requires.first) in
    record { offer = f.0; of = f.1.0 }

pub returns-in-Some-clause-sent : goal.returns-in-Some-clause-sent
returns-in-Some-clause-sent c = λ t.
    let book = c.args.book.now.book in
    let f = first_waits book (record { chan = c.args.chan; words = 0; send = Some [] }) 0 c.in-Some.waiter (sym c.in-Some.is ∙ c.requires.first) in
    let is = sends_over book t c.args.number c.args.chan c.args.words (held_of (channel book.channels c.args.chan)) (receivers c.args.chan book) f.0 (sym c.is_empty.ensures ∙ c.if-is_empty.true) f.1.1 in
    subst (λ (x : Fired ℕ). IsFired (Some x) c.hand_over.new.book.book c.hand_over.result) (sym is) (c.hand_over.ensures.handed f.0 f.1.0 t c.args.chan)
