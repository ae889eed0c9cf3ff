-- The functions of a text with the par branches in them.
use Rattle.std.specs.Prelude.{ℕ, List, ◌++◌, length}
use Rattle.al_tree.specs.declared.item.Tree.{Tree}
use Rattle.al_rules.specs.Outcome.{Outcome, Good, and_then}
use Rattle.al_declare.specs.declared.function.Defined.{Defined}
use Rattle.al_environment.specs.declared.environment.Environment.{Environment}
use Rattle.al_branches.specs.Numbers.{branch_numbers}
use Rattle.al_bodies.specs.declared.found.Gathered.{Gathered}
use Rattle.al_bodies.specs.declared.found.Bodies.{Bodies}
use Rattle.al_bodies.specs.Gathering.{none, gathered}
use Rattle.al_bodies.specs.Placing.{in_order}

-- the branches stand behind the functions, by their numbers
abbrev pub completed : Gathered → Bodies
completed g = record { functions = g.functions ++ in_order (length g.functions) g.branches; texts = g.texts; types = g.types }

-- of a text with these functions, before which so many string constants stand
unfoldable pub bodies : Environment → Tree → List Defined → (texts : ℕ) → Outcome Bodies
bodies env tree ds texts =
    and_then (gathered env tree.names tree.items texts 0 ds (branch_numbers tree.items ds) none) (λ g. Good (completed g))
