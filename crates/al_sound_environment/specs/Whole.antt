-- The environment of a whole text: its types are sound, and its rows are laid out.
use Rattle.std.specs.Prelude.{◌≡◌, ℕ, ◌<◌, ◌≤◌, ◌^◌, true, All, List, [], length, slice_get, Some}
use Rattle.al_tree.specs.declared.item.Tree.{Tree}
use Rattle.al_rules.specs.Outcome.{Good}
use Rattle.al_scope.specs.declared.declaration.Scopes.{Scopes}
use Rattle.al_typed.specs.declared.program.Aggregate.{Aggregate as AggregateRow}
use Rattle.al_typed.specs.declared.ty.Ty.{Ty}
use Rattle.al_typed.specs.Layout.{IsLaidOut, members_of}
use Rattle.al_typed.specs.WellTyped.{is_sound, is_stored}
use Rattle.al_poly.specs.declared.instance.Instance.{Instance}
use Rattle.al_environment.specs.declared.environment.Environment.{Environment}
use Rattle.al_environment.specs.declared.environment.InstanceType.{InstanceType}
use Rattle.al_environment.specs.declared.environment.Variable.{Variable}
use Rattle.al_adt_functions.specs.Owned.{aggregate_named}
use Rattle.al_build_environment.specs.Whole.{environment}
use Rattle.al_tree_laws.specs.Unions.{tree_has_members}

-- what is true of the rows, and of what has a type
pub record IsSoundEnvironment (env : Environment) : Type 0 where
  pub laid_out : IsLaidOut env.aggregates
  pub small : (k : ℕ) (a : AggregateRow) → slice_get env.aggregates k ≡ Some a → a.size ≤ 2 ^ 28
  pub members : (k : ℕ) (a : AggregateRow) → slice_get env.aggregates k ≡ Some a → All (λ t. is_stored env.aggregates t ≡ true) (members_of (Some a))
  pub globals : All (λ (v : Variable). is_stored env.aggregates v.ty ≡ true) env.globals
  pub types : (name : ℕ) (t : Ty) → slice_get env.types name ≡ Some (Some t) → is_sound env.aggregates t ≡ true
  pub instances : (k : ℕ) (i : InstanceType) → slice_get env.instances k ≡ Some i → i.aggregate < length env.aggregates
  pub adts : (name n : ℕ) → aggregate_named env name ≡ Some n → n < length env.aggregates

-- each union with a body has a member
abbrev pub UnionsAreFilled : List AggregateRow → Type 0
UnionsAreFilled rows = (k : ℕ) (a : AggregateRow) → slice_get rows k ≡ Some a → a.is_union ≡ true → a.members ≡ Some [] → ⊥

pub record EnvironmentIsSound : Type 0 where
  pub sound : (tree : Tree) (is : List Instance) (scopes : Scopes) (env : Environment) → environment tree is scopes ≡ Good env → IsSoundEnvironment env
  pub unions : (tree : Tree) (is : List Instance) (scopes : Scopes) (env : Environment) → tree_has_members tree ≡ true → environment tree is scopes ≡ Good env
      → UnionsAreFilled env.aggregates
