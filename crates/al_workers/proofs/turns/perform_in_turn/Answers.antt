use Rattle.std.proofs.Common.{sym, refl, ◌∙◌}
use Rattle.store_lock.specs.Passes.{pass_number, turn_was}
use Rattle.al_workers.proofs.Lending.{asked_here, answered_follows, performed_own, performed_after}
use Rattle.al_workers.proofs.turns.perform_in_turn.Goals as goal

pub perform-answer-requires-clause-asked : goal.perform-answer-requires-clause-asked
perform-answer-requires-clause-asked c =
    rw (c.number.ensures, c.get_mut.ensures.value) (asked_here c.args.lock.now c.args.pass.now c.args.turn c.requires.taken c.args.asked c.requires.asked)

pub free-requires-clause-value : goal.free-requires-clause-value
free-requires-clause-value c =
    answered_follows (pass_number c.args.pass.now) c.args.asked.held.proc (turn_was c.args.turn) c.perform-answer.new.self c.perform-answer.result
    (rw (c.number.ensures, c.get_mut.ensures.value ∙ sym c.requires.taken.was) at c.perform-answer.ensures.entry) (rw (c.number.ensures, c.get_mut.ensures.value ∙ sym c.requires.taken.was) at c.perform-answer.ensures.late) (rw (c.number.ensures, c.get_mut.ensures.value ∙ sym c.requires.taken.was) at c.perform-answer.ensures.rest) (rw (c.get_mut.ensures.value ∙ sym c.requires.taken.was) at c.perform-answer.ensures.same)

pub returns-in-Ok-clause-own : goal.returns-in-Ok-clause-own
returns-in-Ok-clause-own c =
    performed_own c.args.lock.now _ c.args.pass.now c.free.new.pass (turn_was c.args.turn) c.perform-answer.new.self c.requires.taken.small refl refl c.free.ensures
    c.args.asked.held.proc (rw (c.number.ensures, c.get_mut.ensures.value ∙ sym c.requires.taken.was) at c.in-Ok.ensures.entry) (rw (c.number.ensures, c.get_mut.ensures.value ∙ sym c.requires.taken.was) at c.in-Ok.ensures.late)

pub returns-in-Ok-clause-after : goal.returns-in-Ok-clause-after
returns-in-Ok-clause-after c =
    performed_after c.args.lock.now _ c.args.pass.now c.free.new.pass (turn_was c.args.turn) c.perform-answer.new.self c.requires.taken.small refl refl c.free.ensures
    (rw c.requires.taken.was c.requires.taken.terms_are) (rw (c.number.ensures, c.get_mut.ensures.value ∙ sym c.requires.taken.was) at c.in-Ok.ensures.rest) _ c.in-Ok.after (rw c.number.ensures at c.in-Ok.ensures.after)
