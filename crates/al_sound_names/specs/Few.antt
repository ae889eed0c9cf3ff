-- A text has few functions and branches of pars.
use Rattle.std.specs.Prelude.{◌≡◌, ℕ, ◌≤◌, ◌^◌, List, length}
use Rattle.al_tree.specs.declared.item.Tree.{Tree}
use Rattle.al_rules.specs.Outcome.{Good}
use Rattle.al_poly.specs.declared.instance.Instance.{Instance}
use Rattle.al_declare.specs.Functions.{functions}
use Rattle.al_environment.specs.declared.environment.Environment.{Environment}
use Rattle.al_bodies.specs.declared.found.Bodies.{Bodies}
use Rattle.al_bodies.specs.Bodies.{bodies}
use Rattle.al_front.specs.Accepted.{IsRead}

-- with at most 256 instances
abbrev pub TextsHaveFewFunctions : Type 0
TextsHaveFewFunctions = (text : List ℕ) (tree : Tree) (is : List Instance) (env : Environment) (texts : ℕ) (b : Bodies) → IsRead text tree → length is ≤ 256
    → bodies env tree (functions tree.items is) texts ≡ Good b → length b.functions ≤ 2 ^ 30
