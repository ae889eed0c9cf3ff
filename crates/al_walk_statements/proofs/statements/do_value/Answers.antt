use Rattle.std.proofs.Common.{◌∙◌, sym}
use Rattle.al_control.specs.Models.{here_of}
use Rattle.al_walk_loops.proofs.Goings.{goes_same}
use Rattle.al_walk_statements.proofs.PutBounds.{value_each, value_once}
use Rattle.al_walk_statements.proofs.statements.do_value.Goals as goal

pub returns-then-is_empty : goal.returns-then-is_empty
returns-then-is_empty c =
    goes_same c.do_once.result _ _
    (value_once c.args.iterators.now c.args.value.now (here_of c.args.h) (sym c.is_empty.ensures ∙ c.if-is_empty.true)) c.do_once.ensures

pub returns-else-is_empty : goal.returns-else-is_empty
returns-else-is_empty c =
    goes_same c.do_iterated.result _ _
    (value_each c.args.iterators.now c.args.value.now (here_of c.args.h) (sym c.is_empty.ensures ∙ c.if-is_empty.false)) c.do_iterated.ensures
