use Rattle.std.proofs.Common.{sym, ◌∙◌}
use Rattle.store_lock.specs.Passes.{pass_number, turn_was}
use Rattle.al_workers.proofs.Lending.{lent_here, settled_follows}
use Rattle.al_workers.proofs.turns.put_back_in_turn.Goals as goal

pub put_back-requires-clause-lent : goal.put_back-requires-clause-lent
put_back-requires-clause-lent c = rw (c.number.ensures, c.get_mut.ensures.value) (lent_here c.args.lock.now c.args.pass.now c.args.turn c.requires.taken c.args.held c.requires.lent)

pub free-requires-clause-value : goal.free-requires-clause-value
free-requires-clause-value c = settled_follows (pass_number c.args.pass.now) (turn_was c.args.turn) c.put_back.new.self (rw (c.number.ensures, c.get_mut.ensures.value ∙ sym c.requires.taken.was) at c.put_back.ensures)
