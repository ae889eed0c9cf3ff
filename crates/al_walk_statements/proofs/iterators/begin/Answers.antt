use Rattle.std.proofs.Common.{ℕ, List, [], ◌∷◌}
use Rattle.al_meaning.specs.Here as step
use Rattle.al_meaning.specs.Execute.{bounds_of}
use Rattle.al_meaning.specs.Items as item
use Rattle.al_control.proofs.Takings.{goes_on}
use Rattle.al_walk_statements.proofs.iterators.begin.Goals as goal

pub returns-in-Took : goal.returns-in-Took
returns-in-Took c =
    goes_on c.begin_all.result _ c.in-Took.values c.in-Took.h _ _ (c.in_ok-next.ensures.taken (λ (values : List (List ℕ)) (h : step.Here). step.does h (item.Iterate 0 (bounds_of values) c.args.e.now ∷ []))) c.in-Took.is c.begin_all.ensures
