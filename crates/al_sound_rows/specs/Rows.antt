-- Each row of the functions of a text is a unit, and its number is that of the unit.
use Rattle.std.specs.Prelude.{◌≡◌, ℕ, ◌+◌, ◌≤◌, true, false, All, Contains, List, ◌∷◌, length, slice_get, Option, Some}
use Rattle.std.specs.List.{AllPairs}
use Rattle.al_base.specs.declared.place.Place.{Place}
use Rattle.al_tree.specs.declared.type_tree.TypeTree.{TypeTree}
use Rattle.al_tree.specs.declared.statement.Stmt.{Stmt}
use Rattle.al_tree.specs.declared.item.Head.{Head}
use Rattle.al_tree.specs.declared.item.Item.{Item}
use Rattle.al_tree.specs.declared.item.Item.TheVariants as item
use Rattle.al_tree.specs.declared.item.Scope.{Scope}
use Rattle.al_tree.specs.declared.item.Tree.{Tree}
use Rattle.al_tree_walks.specs.Statements.{branches as all_branches}
use Rattle.al_rules.specs.Outcome.{Good, same_place}
use Rattle.al_flow.specs.Flow.{targets}
use Rattle.al_typed.specs.declared.program.Function.{Function}
use Rattle.al_typed.specs.Typed.{parameter_types}
use Rattle.al_environment.specs.declared.environment.Environment.{Environment}
use Rattle.al_environment.specs.declared.environment.Here.{Here}
use Rattle.al_environment.specs.declared.environment.Round.{Round}
use Rattle.al_declare.specs.declared.function.Defined.{Defined}
use Rattle.al_declare.specs.Functions.{is_definition}
use Rattle.al_branches.specs.Law.{branch_count}
use Rattle.al_branches.specs.Statements.{branch_places}
use Rattle.al_type_stmt.specs.declared.within.Within.{Within}
use Rattle.al_bodies.specs.declared.found.Bodies.{Bodies}
use Rattle.al_bodies.specs.Bodies.{bodies}
use Rattle.al_sound_rows.specs.Units.{HasBranches, IsFunction, IsKnown, IsRoundOf, IsUnit, signature_of}

-- ---- premises

-- each definition is of an item that has a body
abbrev pub HaveBodies : List Item → List Defined → Type 0
HaveBodies items ds = All (λ (d : Defined). (i : Item) × (slice_get items d.item ≡ Some i) × (is_definition i ≡ true)) ds

-- the branches of pars in a function stand at places of their own
abbrev pub BranchesAreApart : List Item → Type 0
BranchesAreApart items = (k : ℕ) (at : Place) (scope : Option Scope) (base : TypeTree) (head : Head) (body : Stmt) → slice_get items k ≡ Some (item.Function at scope base head body)
    → AllPairs (λ (a b : Place). same_place a b ≡ false) (branch_places body)

-- ---- a row

-- The unit of a row, with the body of the function that it is or stands in. A program has so many strings.
pub record Unit (env : Environment) (tree : Tree) (ds : List Defined) (strings : ℕ) (rows : List Function) (number : ℕ) (f : Function) : Type 0 where
  pub within : Within
  pub here : Here
  pub statement : Stmt
  pub is : IsUnit env tree ds strings rows number f within here statement
  pub branches : HasBranches rows number f within statement
  pub body : Stmt
  pub flow : targets body ≡ Good within.targets
  pub among : Contains (body ∷ all_branches body) statement

-- the unit of a row that is the body of a function
pub record FunctionUnit (env : Environment) (tree : Tree) (ds : List Defined) (strings : ℕ) (rows : List Function) (number : ℕ) : Type 0 where
  pub row : Function
  pub within : Within
  pub here : Here
  pub body : Stmt
  pub stands : slice_get rows number ≡ Some row
  pub is : IsFunction env tree ds strings number row within here body

-- ---- the laws

-- of the functions of a text, before which so many string constants stand
pub record RowsAreUnits : Type 0 where
  -- the rows of the functions that are defined stand first, in the order of the definitions
  pub functions : (env : Environment) (tree : Tree) (ds : List Defined) (texts : ℕ) (b : Bodies) → bodies env tree ds texts ≡ Good b → HaveBodies tree.items ds
      → (number : ℕ) (d : Defined) → slice_get ds number ≡ Some d → FunctionUnit env tree ds (texts + length b.texts) b.functions number
  -- they take values of the types that their heads say
  pub parameters : (env : Environment) (tree : Tree) (ds : List Defined) (strings number : ℕ) (f : Function) (w : Within) (here : Here) (body : Stmt)
      (is : IsFunction env tree ds strings number f w here body) → length is.head.parameters ≤ 4294967295 → parameter_types f ≡ (signature_of env is.defined is.base is.head).parameters
  -- what is known of each unit alike
  pub known : (env : Environment) (tree : Tree) (ds : List Defined) (strings : ℕ) (rows : List Function) (number : ℕ) (f : Function) (w : Within) (here : Here) (statement : Stmt)
      → IsUnit env tree ds strings rows number f w here statement → IsKnown env tree strings rows number f w here statement
  -- what is round it
  pub rounds : (env : Environment) (tree : Tree) (ds : List Defined) (strings : ℕ) (rows : List Function) (number : ℕ) (f : Function) (w : Within) (here : Here) (statement : Stmt)
      → IsUnit env tree ds strings rows number f w here statement → (k : ℕ) (r : Round) → slice_get here.around k ≡ Some r → IsRoundOf env tree ds strings rows f statement k r
  -- there is a row for each function, and for each branch in each
  pub count : (env : Environment) (tree : Tree) (ds : List Defined) (texts : ℕ) (b : Bodies) → bodies env tree ds texts ≡ Good b → HaveBodies tree.items ds
      → BranchesAreApart tree.items → length b.functions ≡ length ds + branch_count tree.items ds
  -- each row is a unit's, where the numbers of rows have room in 32 bits
  pub units : (env : Environment) (tree : Tree) (ds : List Defined) (texts : ℕ) (b : Bodies) → bodies env tree ds texts ≡ Good b → HaveBodies tree.items ds
      → BranchesAreApart tree.items → length b.functions ≤ 4294967296 → (number : ℕ) (f : Function) → slice_get b.functions number ≡ Some f
      → Unit env tree ds (texts + length b.texts) b.functions number f
