-- The types of the functions that a text defines: no parameter is an array, and a result is void, or complete and no array.
use Rattle.std.specs.Prelude.{◌≡◌, ◌⊎◌, ℕ, true, false, All, List, None}
use Rattle.al_tree.specs.declared.type_tree.TypeTree.{TypeTree}
use Rattle.al_tree.specs.declared.item.Head.{Head}
use Rattle.al_tree.specs.declared.item.Tree.{Tree}
use Rattle.al_scope.specs.declared.declaration.Scopes.{Scopes}
use Rattle.al_typed.specs.declared.program.Aggregate.{Aggregate as AggregateRow}
use Rattle.al_typed.specs.declared.ty.Ty.{Ty}
use Rattle.al_typed.specs.declared.ty.Ty.TheVariants as ty
use Rattle.al_typed.specs.Types.{is_array, is_complete}
use Rattle.al_poly.specs.declared.instance.Instance.{Instance}
use Rattle.al_declare.specs.declared.function.Defined.{Defined}
use Rattle.al_declare.specs.Functions.{functions as functions_of}
use Rattle.al_environment.specs.declared.environment.Environment.{Environment}
use Rattle.al_environment.specs.declared.environment.Signature.{Signature}
use Rattle.al_sound_calls.specs.Calls.{HasInstances, IsChecked, IsDefinition}
use Rattle.al_sound_rows.specs.Units.{signature_of}

-- what a function may return
abbrev pub IsResult : List AggregateRow → Ty → Type 0
IsResult rows t = (t ≡ ty.Void) ⊎ ((is_complete rows t ≡ true) × (is_array t ≡ false))

-- what a function may take
abbrev pub AreParameters : List Ty → Type 0
AreParameters ts = All (λ t. is_array t ≡ false) ts

pub record IsPlain (rows : List AggregateRow) (s : Signature) : Type 0 where
  pub parameters : AreParameters s.parameters
  pub returns : IsResult rows s.returns

pub record SignaturesArePlain : Type 0 where
  pub parameters : (tree : Tree) (is : List Instance) (scopes : Scopes) (env : Environment) → IsChecked tree is scopes env
      → (number : ℕ) (d : Defined) (base : TypeTree) (head : Head) → IsDefinition tree (functions_of tree.items is) number d base head → AreParameters (signature_of env d base head).parameters
  -- of functions outside of adts, and of adts without parameters
  pub of_text : (tree : Tree) (is : List Instance) (scopes : Scopes) (env : Environment) → IsChecked tree is scopes env
      → (number : ℕ) (d : Defined) (base : TypeTree) (head : Head) → IsDefinition tree (functions_of tree.items is) number d base head
      → (head.owner ≡ None) ⊎ (d.instance ≡ None) → IsPlain env.aggregates (signature_of env d base head)
  -- of all functions, where each instance has a type
  pub of_all : (tree : Tree) (is : List Instance) (scopes : Scopes) (env : Environment) → IsChecked tree is scopes env → HasInstances env is
      → (number : ℕ) (d : Defined) (base : TypeTree) (head : Head) → IsDefinition tree (functions_of tree.items is) number d base head → IsPlain env.aggregates (signature_of env d base head)
