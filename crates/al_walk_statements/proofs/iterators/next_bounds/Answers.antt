use Rattle.std.proofs.Common.{List, ℕ, ap}
use Rattle.al_meaning.specs.Execute.{bounds_of}
use Rattle.al_walk_statements.proofs.TakenBounds.{bounds_there}
use Rattle.al_walk_statements.proofs.iterators.next_bounds.Goals as goal

pub returns-in-None : goal.returns-in-None
returns-in-None c = ap (λ (l : List (List ℕ)). bounds_of l) c.in-None.ensures.0

pub returns-in-Some : goal.returns-in-Some
returns-in-Some c =
    bounds_there c.bounds_to.result c.in-Some.from c.args.values.now c.pop.new.self c.bounds_to.new.values c.in-Some.ensures c.bounds_to.ensures
