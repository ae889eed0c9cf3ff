use Rattle.al_workers.proofs.Lending.{has_taken}
use Rattle.al_workers.proofs.turns.take.Goals as goal

pub returns-clause-taken : goal.returns-clause-taken
returns-clause-taken g c =
    has_taken c.args.lock.now c.args.pass.now c.turn.new.pass c.turn.result c.requires c.turn.ensures.pass c.turn.ensures.holds c.turn.ensures.same c.turn.ensures.turn c.turn.ensures.was c.turn.ensures.finds
