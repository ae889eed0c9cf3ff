use Rattle.std.proofs.Common.{◌∙◌, map, sym}
use Rattle.al_control.specs.Models.{bounds_of, here_of}
use Rattle.al_walk_loops.proofs.Goings.{goes_same}
use Rattle.al_walk_statements.proofs.Turns.{begins_turn, ends_turns}
use Rattle.al_walk_statements.proofs.iterators.go_through.Goals as goal

pub returns-then-is_less-clause-next : goal.returns-then-is_less-clause-next
returns-then-is_less-clause-next c =
    goes_same c.begin_inner.result _ _
    (begins_turn c.args.number (bounds_of c.args.bounds) (map bounds_of c.args.rest) c.args.e.now (here_of c.args.h) (sym c.is_less.ensures ∙ c.if-is_less.true))
    c.begin_inner.ensures.next

pub returns-in_ok-moves-clause-next : goal.returns-in_ok-moves-clause-next
returns-in_ok-moves-clause-next c =
    c.in_ok-moves.ensures
    ∙ ends_turns c.args.number (bounds_of c.args.bounds) (map bounds_of c.args.rest) c.args.e.now (here_of c.args.h) (sym c.is_less.ensures ∙ c.if-is_less.false)
