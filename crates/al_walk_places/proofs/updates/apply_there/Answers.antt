use Rattle.std.proofs.Common.{rules, ◌≡◌, ℕ, List, [], ◌∷◌, ◌++◌, Some, length, false}
use Rattle.al_meaning.specs.Here as step
use Rattle.al_meaning.specs.Items as item
use Rattle.al_typed.specs.declared.expression.Change.TheVariants as change
use Rattle.al_meaning.specs.Evaluate.{saves_updated, updated}
use Rattle.al_control.proofs.Takings.{goes_on}
use Rattle.al_walk_places.proofs.updates.apply_there.Goals as goal

pub returns-in-Took : goal.returns-in-Took
returns-in-Took c =
    goes_on c.apply_to.result _ c.in-Took.place c.in-Took.h _ _ (c.in_ok-next.ensures.taken (λ (f : item.Found) (h : step.Here). saves_updated h c.args.ty.now f (updated h.program c.args.ty.now (change.Apply c.args.op c.args.kind) c.args.both.0 c.args.both.1))) c.in-Took.is c.apply_to.ensures
