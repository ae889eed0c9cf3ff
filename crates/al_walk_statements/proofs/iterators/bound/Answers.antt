use Rattle.std.proofs.Common.{ℕ, [], ◌∷◌, ◌∙◌, ap}
use Rattle.al_meaning.specs.Execute.{bounds_of}
use Rattle.al_meaning.specs.Here as step
use Rattle.al_meaning.specs.Items as item
use Rattle.al_control.specs.Models.{here_of}
use Rattle.al_walk_statements.proofs.iterators.bound.Goals as goal

pub returns-clause-next : goal.returns-clause-next
returns-clause-next c =
    c.in_ok-begin-in-Some.ensures
    ∙ ap (λ (n : ℕ). step.with_values n (here_of c.args.h) (λ values h. step.does h (item.Iterate 0 (bounds_of values) c.args.e.now ∷ []))) c.in-Some.ensures.1
