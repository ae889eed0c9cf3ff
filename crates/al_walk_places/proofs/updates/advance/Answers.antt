use Rattle.std.proofs.Common.{rules, ◌≡◌, ℕ, List, [], ◌∷◌, ◌++◌, Some, length, false}
use Rattle.al_meaning.specs.Here as step
use Rattle.al_typed.specs.declared.expression.Change.TheVariants as change
use Rattle.al_meaning.specs.Evaluate.{saves_updated, updated}
use Rattle.al_control.proofs.Takings.{goes_on}
use Rattle.al_walk_places.proofs.updates.advance.Goals as goal

pub returns-in-Took : goal.returns-in-Took
returns-in-Took c =
    goes_on c.advance_there.result _ c.in-Took.both c.in-Took.h _ _ (c.in_ok-next.ensures.taken (λ (old value : List ℕ) (h : step.Here). step.with_place h (λ f h. saves_updated h c.args.ty.now f (updated h.program c.args.ty.now (change.Move c.args.back) old value)))) c.in-Took.is c.advance_there.ensures
