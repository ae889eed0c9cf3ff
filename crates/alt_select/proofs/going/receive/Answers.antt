use Rattle.std.proofs.Common.{◌≡◌, ◌∷◌, ℕ, None, true, Option, eqb, subst, sym, ap, ap₂, ◌∙◌}
use Rattle.al_world.specs.Channels.{channel, held_of}
use Rattle.al_world.specs.Talks.{Fired, receives}
use Rattle.alt_select.specs.Answer.{IsFired, senders, is_full}
use Rattle.alt_select.proofs.Goes.{first_waits, receives_in, held_parts}
use Rattle.alt_select.proofs.going.receive.Goals as goal

pub let_in-requires-clause-waits : goal.let_in-requires-clause-waits
let_in-requires-clause-waits c =
    let f = first_waits c.args.book.now.book (record { chan = c.args.chan; words = 0; send = None }) 0 c.in-Some.waiter (sym c.in-Some.is ∙ c.requires.first) in
    record { offer = f.0; of = f.1.0 }

pub returns-in-Some-clause-received : goal.returns-in-Some-clause-received
returns-in-Some-clause-received c = λ t.
    let book = c.args.book.now.book in
    let filled = c.requires.filled in
    let f = first_waits book (record { chan = c.args.chan; words = 0; send = None }) 0 c.in-Some.waiter (sym c.in-Some.is ∙ c.requires.first) in
    let parts = held_parts filled.at.held filled.some in
    let held : held_of (channel book.channels c.args.chan) ≡ parts.0 ∷ parts.1.0 = ap held_of filled.is ∙ parts.1.1 in
    let full : is_full (channel book.channels c.args.chan) ≡ true = sym c.is_full.ensures ∙ c.if-is_full.true in
    let is : receives eqb book t c.args.number c.args.chan (is_full (channel book.channels c.args.chan)) (held_of (channel book.channels c.args.chan)) (senders c.args.chan book) ≡ _ = ap₂ (λ x l. receives eqb book t c.args.number c.args.chan x l (senders c.args.chan book)) full held ∙ receives_in book t c.args.number c.args.chan parts.0 parts.1.0 (senders c.args.chan book) f.0 f.1.1 in
    subst (λ (x : Option (Fired ℕ)). IsFired x c.let_in.new.book.book c.let_in.result) (sym is) (c.let_in.ensures.let_in f.0 f.1.0 t parts.0 parts.1.0 held)
