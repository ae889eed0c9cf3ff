use Rattle.al_control.specs.Models.{here_of}
use Rattle.al_walk_loops.proofs.Goings.{goes_same}
use Rattle.al_walk_statements.proofs.Turns.{turns_again}
use Rattle.al_walk_statements.proofs.iterators.next_turn.Goals as goal

pub returns : goal.returns
returns c =
    goes_same c.turns.result _ _
    (turns_again c.args.number c.args.bounds c.next_of_bounds.result c.args.rest c.push.new.self c.args.e.now (here_of c.args.h) c.next_of_bounds.ensures
    c.in_ok-push.ensures)
    c.turns.ensures
