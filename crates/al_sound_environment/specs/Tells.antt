-- The environment of a text tells of any names, where a function has locals that are stored.
use Rattle.std.specs.Prelude.{◌≡◌, ℕ, ◌≤◌, true, List, length, Option, Some, slice_get}
use Rattle.al_tree.specs.declared.item.Tree.{Tree}
use Rattle.al_rules.specs.Outcome.{Good}
use Rattle.al_scope.specs.declared.declaration.Declaration.{Declaration}
use Rattle.al_scope.specs.declared.declaration.Scopes.{Scopes}
use Rattle.al_scope.specs.Items.{resolved}
use Rattle.al_typed.specs.declared.program.Aggregate.{Aggregate as AggregateRow}
use Rattle.al_typed.specs.WellTyped.{Scope, any_names, is_stored}
use Rattle.al_poly.specs.declared.instance.Instance.{Instance}
use Rattle.al_declare.specs.Functions.{functions as functions_of}
use Rattle.al_environment.specs.declared.environment.Environment.{Environment}
use Rattle.al_environment.specs.declared.environment.Here.{Here}
use Rattle.al_environment.specs.declared.environment.Round.{Round}
use Rattle.al_environment.specs.declared.environment.Variable.{Variable}
use Rattle.al_environment.specs.Lookups.{local, round}
use Rattle.al_build_environment.specs.Whole.{environment}
use Rattle.al_sound_nodes.specs.Nodes.{IsReached, Tells}

-- the locals of the function at hand, and of those round it, are stored
pub record HasStored (rows : List AggregateRow) (here : Here) : Type 0 where
  pub locals : (n : ℕ) (v : Variable) → local here n ≡ Some v → is_stored rows v.ty ≡ true
  pub outers : (k n : ℕ) (r : Round) (v : Variable) → round here k ≡ Some r → slice_get r.locals n ≡ Some v → is_stored rows v.ty ≡ true

-- any names with the types of an environment
abbrev pub any_scope : Environment → (strings functions iterators : ℕ) → Scope
any_scope env strings functions iterators = record { names = any_names env.aggregates strings functions; iterators = iterators }

-- so many functions have bodies in a text with these instances
abbrev pub bodies_in : Tree → List Instance → ℕ
bodies_in tree is = length (functions_of tree.items is)

pub record EnvironmentTells : Type 0 where
  pub tells : (tree : Tree) (is : List Instance) (scopes : Scopes) (env : Environment) → resolved tree ≡ Good scopes → environment tree is scopes ≡ Good env
      → (strings functions iterators : ℕ) → bodies_in tree is ≤ functions → (here : Here) → HasStored env.aggregates here
      → Tells (any_scope env strings functions iterators) env here
  pub reached : (env : Environment) (strings functions iterators : ℕ) (here : Here) → HasStored env.aggregates here → (d : Option Declaration)
      → IsReached (any_scope env strings functions iterators) here d
