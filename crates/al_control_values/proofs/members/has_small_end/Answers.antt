use Rattle.std.proofs.Common.{None, Some, List, subst}
use Rattle.al_typed.specs.declared.program.Aggregate.{Aggregate}
use Rattle.al_typed.specs.Layout.{member}
use Rattle.al_control_values.specs.Reaches.{Finds}
use Rattle.al_control_values.proofs.Parts.{small_nothing, small_end}
use Rattle.al_control_values.proofs.members.has_small_end.Goals as goal

pub returns-in-None : goal.returns-in-None
returns-in-None c =
    small_nothing c.args.p.now (member c.args.p.now.aggregates c.args.path.now c.args.ty.now)
    (subst (λ (rows : List Aggregate). Finds None (member rows c.args.path.now c.args.ty.now)) c.as_slice.ensures.value c.in-None.ensures)

pub returns-in-Some : goal.returns-in-Some
returns-in-Some c =
    small_end c.args.p.now (member c.args.p.now.aggregates c.args.path.now c.args.ty.now) c.in-Some.reached c.is_small.result
    (subst (λ (rows : List Aggregate). Finds (Some c.in-Some.reached) (member rows c.args.path.now c.args.ty.now)) c.as_slice.ensures.value c.in-Some.ensures)
    c.is_small.ensures
