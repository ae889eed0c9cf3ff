-- The signature that a name has is that of the function that the text defines by the name, but for the capacities of channels.
use Rattle.std.specs.Prelude.{◌≡◌, ℕ, ◌⊎◌, All, true, false, List, [], ◌∷◌, ◌++◌, length, slice_get, Option, Some, None}
use Rattle.al_base.specs.declared.place.Place.{Place}
use Rattle.al_tree.specs.declared.type_tree.TypeTree.{TypeTree}
use Rattle.al_tree.specs.declared.statement.Stmt.{Stmt}
use Rattle.al_tree.specs.declared.item.Scope.{Scope}
use Rattle.al_tree.specs.declared.item.Head.{Head}
use Rattle.al_tree.specs.declared.item.Item.TheVariants as item
use Rattle.al_tree.specs.declared.item.Tree.{Tree}
use Rattle.al_rules.specs.Outcome.{Good}
use Rattle.al_scope.specs.declared.declaration.Scopes.{Scopes}
use Rattle.al_scope.specs.Items.{resolved}
use Rattle.al_typed.specs.declared.ty.Ty.TheVariants as ty
use Rattle.al_typed.specs.Types.{byte_pointer, int, is_array}
use Rattle.al_typed.specs.WellTyped.{LeadsTo, passes}
use Rattle.al_convert.specs.Same.{same, same_list}
use Rattle.al_poly.specs.declared.instance.Instance.{Instance}
use Rattle.al_declare.specs.declared.function.Defined.{Defined}
use Rattle.al_declare.specs.Functions.{functions as functions_of}
use Rattle.al_declare.specs.Items.{names_hold}
use Rattle.al_environment.specs.declared.environment.Environment.{Environment}
use Rattle.al_environment.specs.declared.environment.Signature.{Signature}
use Rattle.al_environment.specs.declared.environment.NamedFunction.{NamedFunction}
use Rattle.al_environment.specs.Lookups.{function, function_named}
use Rattle.al_globals.specs.Globals.{main_of}
use Rattle.al_globals.specs.Rules.{same_signature}
use Rattle.al_sound_rows.specs.Units.{signature_of}
use Rattle.al_build_environment.specs.Whole.{environment}
use Rattle.al_tree_places.specs.Entries.{IsFound}

-- a text without faults in its names and in what its items declare
pub record IsChecked (tree : Tree) (is : List Instance) (scopes : Scopes) (env : Environment) : Type 0 where
  pub resolved : resolved tree ≡ Good scopes
  pub found : IsFound tree scopes
  pub named : names_hold tree ≡ Good tt
  pub environment : environment tree is scopes ≡ Good env

-- ---- definitions

-- the function of that number has that head
pub record IsDefinition (tree : Tree) (ds : List Defined) (number : ℕ) (d : Defined) (base : TypeTree) (head : Head) : Type 0 where
  pub numbered : slice_get ds number ≡ Some d
  pub at : Place
  pub scope : Option Scope
  pub body : Stmt
  pub stands : slice_get tree.items d.item ≡ Some (item.Function at scope base head body)

-- ---- functions outside of adts

pub record LeadsToFunction (env : Environment) (tree : Tree) (ds : List Defined) (number : ℕ) (f : Signature) : Type 0 where
  pub defined : Defined
  pub base : TypeTree
  pub head : Head
  pub is : IsDefinition tree ds number defined base head
  pub outside : head.owner ≡ None
  pub types : same_signature f (signature_of env defined base head) ≡ true

-- the types of main
pub record HasMainTypes (f : Signature) : Type 0 where
  pub returns : f.returns ≡ ty.Void
  pub parameters : (f.parameters ≡ []) ⊎ (f.parameters ≡ int ∷ ty.Pointer byte_pointer ∷ [])

pub record LeadsToMain (env : Environment) (tree : Tree) (ds : List Defined) (number : ℕ) : Type 0 where
  pub defined : Defined
  pub base : TypeTree
  pub head : Head
  pub is : IsDefinition tree ds number defined base head
  pub types : HasMainTypes (signature_of env defined base head)

pub record FunctionsLead : Type 0 where
  pub functions : (tree : Tree) (is : List Instance) (scopes : Scopes) (env : Environment) → IsChecked tree is scopes env
      → (n number : ℕ) (f : Signature) → function env n ≡ Some f → f.number ≡ Some number → LeadsToFunction env tree (functions_of tree.items is) number f
  pub main : (tree : Tree) (is : List Instance) (scopes : Scopes) (env : Environment) → IsChecked tree is scopes env
      → (n number : ℕ) (f : Signature) → main_of tree.names env.scopes.functions ≡ Some n → function env n ≡ Some f → f.number ≡ Some number
      → LeadsToMain env tree (functions_of tree.items is) number

-- ---- functions of adts

-- each instance of the text has a type
abbrev pub HasInstances : Environment → List Instance → Type 0
HasInstances env is = length env.instances ≡ length is

-- The path of a function leads to an adt. The function of that number takes what is passed of it, and then the parameters.
pub record LeadsToMethod (env : Environment) (tree : Tree) (ds : List Defined) (aggregate number : ℕ) (f : NamedFunction) : Type 0 where
  pub adt : ℕ
  pub leads : LeadsTo env.aggregates f.path (ty.Aggregate aggregate) (ty.Aggregate adt)
  pub defined : Defined
  pub base : TypeTree
  pub head : Head
  pub is : IsDefinition tree ds number defined base head
  pub returns : same false f.signature.returns (signature_of env defined base head).returns ≡ true
  pub parameters : same_list false (passes f.passed (ty.Aggregate adt) ++ f.signature.parameters) (signature_of env defined base head).parameters ≡ true

abbrev pub MethodsLead : Type 0
MethodsLead = (tree : Tree) (is : List Instance) (scopes : Scopes) (env : Environment) → IsChecked tree is scopes env → HasInstances env is
    → (aggregate name number : ℕ) (f : NamedFunction) → function_named env aggregate name ≡ Some f → f.signature.number ≡ Some number
    → LeadsToMethod env tree (functions_of tree.items is) aggregate number f

-- ---- all definitions

-- no parameter is an array, and no result is one
pub record HasNoArrays (f : Signature) : Type 0 where
  pub returns : is_array f.returns ≡ false
  pub parameters : All (λ t. is_array t ≡ false) f.parameters

abbrev pub NoArrays : Type 0
NoArrays = (tree : Tree) (is : List Instance) (scopes : Scopes) (env : Environment) → IsChecked tree is scopes env → HasInstances env is
    → (number : ℕ) (d : Defined) (base : TypeTree) (head : Head) → IsDefinition tree (functions_of tree.items is) number d base head → HasNoArrays (signature_of env d base head)
