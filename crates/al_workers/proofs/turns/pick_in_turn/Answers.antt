use Rattle.std.proofs.Common.{sym, refl, ◌∙◌}
use Rattle.store_lock.specs.Passes.{pass_number, turn_was}
use Rattle.al_workers.proofs.Lending.{picked_follows, picked_held}
use Rattle.al_workers.proofs.turns.pick_in_turn.Goals as goal

pub free-requires-clause-value : goal.free-requires-clause-value
free-requires-clause-value c =
    picked_follows (pass_number c.args.pass.now) (turn_was c.args.turn) c.pick-next.new.self c.pick-next.result
    (rw (c.number.ensures, c.get_mut.ensures.value ∙ sym c.requires.taken.was) at c.pick-next.ensures.lent) (rw (c.get_mut.ensures.value ∙ sym c.requires.taken.was) at c.pick-next.ensures.same)

pub returns-clause-held : goal.returns-clause-held
returns-clause-held c =
    picked_held c.args.lock.now _ c.args.pass.now c.free.new.pass (turn_was c.args.turn) c.pick-next.new.self c.requires.taken.small refl refl c.free.ensures
    (rw c.requires.taken.was c.requires.taken.terms_are) c.pick-next.result (rw (c.number.ensures, c.get_mut.ensures.value ∙ sym c.requires.taken.was) at c.pick-next.ensures.lent) (rw c.number.ensures at c.pick-next.ensures.held)
