-- What the functions of a text were typed from. A unit is the body of a function, or a branch of a par in another unit: it has a row of its own among the
-- functions of the program, and labels, locals and branches of its own.
use Rattle.std.specs.Prelude.{◌≡◌, ◌⊎◌, ℕ, ◌<◌, ◌≤◌, true, false, All, Contains, List, [], ◌∷◌, ◌++◌, length, map, slice_get, Option, Some}
use Rattle.al_base.specs.declared.place.Place.{Place}
use Rattle.al_tree.specs.declared.type_tree.TypeTree.{TypeTree}
use Rattle.al_tree.specs.declared.statement.Stmt.{Stmt, out-Stmt}
use Rattle.al_tree.specs.declared.statement.Stmt.TheOpen.{Stmt-F}
use Rattle.al_tree.specs.declared.item.Head.{Head}
use Rattle.al_tree.specs.declared.item.Scope.{Scope}
use Rattle.al_tree.specs.declared.item.Tree.{Tree}
use Rattle.al_tree.specs.declared.item.Item.TheVariants as item
use Rattle.al_tree_walks.specs.Statements.{Standing, branches, own_branches, standing}
use Rattle.al_rules.specs.Outcome.{Good}
use Rattle.al_flow.specs.Flow.{targets}
use Rattle.al_shared.specs.Statements.{shared}
use Rattle.al_typed.specs.declared.program.Function.{Function}
use Rattle.al_typed.specs.declared.program.Local.{Local}
use Rattle.al_typed.specs.declared.ty.Ty.TheVariants as ty
use Rattle.al_typed.specs.Types.{may_be_private}
use Rattle.al_typed.specs.WellTyped.{is_sound, is_stored}
use Rattle.al_sound_types.specs.Types.{types_hold}
use Rattle.al_environment.specs.declared.numbered.Numbered.{Numbered}
use Rattle.al_environment.specs.declared.environment.Environment.{Environment}
use Rattle.al_environment.specs.declared.environment.Here.{Here}
use Rattle.al_environment.specs.declared.environment.Round.{Round}
use Rattle.al_environment.specs.declared.environment.Signature.{Signature}
use Rattle.al_type_rules.specs.Types.{signature}
use Rattle.al_adt_functions.specs.Owned.{here_in}
use Rattle.al_declare.specs.declared.function.Defined.{Defined}
use Rattle.al_branches.specs.Numbers.{numbers_of}
use Rattle.al_branches.specs.Statements.{place}
use Rattle.al_body_parts.specs.Statements.{parts}
use Rattle.al_type_stmt.specs.declared.within.Within.{Within}
use Rattle.al_type_stmt.specs.Statements.{branch_at, of_each, statement}
use Rattle.al_type_function.specs.Numbers.{capped}
use Rattle.al_type_function.specs.Own.{own_adt}
use Rattle.al_type_function.specs.Locals.{declared_local, locals, rule_18_locals, variables}
use Rattle.al_type_function.specs.Branches.{inside, round_of}
use Rattle.al_type_function.specs.Functions.{declared, in_branches}
use Rattle.al_sound_rows.specs.Unnamed.{Declared}

-- ---- one unit

-- A row that was typed from that statement, where `here` is at hand and these are the unit's parameters and locals. What its body declares and writes was
-- gathered where `outside` is at hand, in a function of the same adt.
pub record IsTypedFrom (env : Environment) (names : List (List ℕ)) (w : Within) (outside here : Here) (ds : List Declared) (tree : Stmt) (f : Function) : Type 0 where
  pub body : statement w env here tree ≡ Good f.body
  pub returns : f.returns ≡ w.returns
  pub locals : f.locals ≡ locals names (shared env.scopes.names (length here.around) (length ds) tree) ds
  pub variables : here.locals ≡ variables ds
  pub labels : f.labels ≡ capped (length (parts env outside tree).labels)
  pub own : outside.own ≡ here.own
  pub iterators : here.iterators ≡ []
  pub small : rule_18_locals env.aggregates f.locals ≡ true
  pub sound : types_hold env.aggregates f.locals (parts env outside tree).types ≡ true

-- what is at hand where the head of a function stands
abbrev pub at_head : Environment → Head → Defined → Here
at_head env head d = here_in (own_adt env head.owner d.instance)

-- its types
abbrev pub signature_of : Environment → Defined → TypeTree → Head → Signature
signature_of env d base head = signature env (at_head env head d) base head.stars head.parameters

-- its parameters and locals
abbrev pub declared_in : Environment → Defined → TypeTree → Head → Stmt → List Declared
declared_in env d base head body = declared head (signature_of env d base head) (parts env (at_head env head d) body)

-- The row of a function that the text defines, in a program of so many strings: that of the definition of its number.
pub record IsFunction (env : Environment) (tree : Tree) (ds : List Defined) (strings number : ℕ) (f : Function) (w : Within) (here : Here) (body : Stmt) : Type 0 where
  pub defined : Defined
  pub is : slice_get ds number ≡ Some defined
  pub at : Place
  pub scope : Option Scope
  pub base : TypeTree
  pub head : Head
  pub stands : slice_get tree.items defined.item ≡ Some (item.Function at scope base head body)
  pub flow : targets body ≡ Good w.targets
  pub branches : w.branches ≡ numbers_of tree.items ds number defined
  pub typed : IsTypedFrom env tree.names w (at_head env head defined) here (declared_in env defined base head body) body f
  pub faultless : (parts env (at_head env head defined) body).faults ≡ []
  pub returns : f.returns ≡ (signature_of env defined base head).returns
  pub sound : is_sound env.aggregates f.returns ≡ true
  pub parameters : f.parameters ≡ capped (length head.parameters)
  pub around : f.around ≡ []
  pub outermost : here.around ≡ []
  pub texts : All (λ (n : Numbered). n.number < strings) here.texts

-- The row of a branch of a par in the unit that the row g of number `outer` was typed from: there v is round the statement s, and `there` is at hand.
pub record IsBranch (env : Environment) (tree : Tree) (outer : ℕ) (g : Function) (v : Within) (there : Here) (s : Stmt) (number : ℕ) (f : Function) (w : Within) (here : Here) (branch : Stmt)
    : Type 0 where
  pub among : Contains (own_branches s) branch
  pub numbered : branch_at v (place branch) ≡ Good number
  pub behind : outer < number
  pub within : w ≡ in_branches v
  pub entered : here ≡ inside there here.locals
  pub typed : IsTypedFrom env tree.names w there here (map declared_local (parts env there branch).locals) branch f
  pub parameters : f.parameters ≡ 0
  pub around : f.around ≡ g.around ++ outer ∷ []

-- ---- all units

-- the row of that number was typed from that statement, of a function or of a branch in another unit
pub data IsUnit (env : Environment) (tree : Tree) (ds : List Defined) (strings : ℕ) (rows : List Function) : ℕ → Function → Within → Here → Stmt → Type 0 where
  of_function : (number : ℕ) (f : Function) (w : Within) (here : Here) (body : Stmt) → slice_get rows number ≡ Some f
      → IsFunction env tree ds strings number f w here body → IsUnit env tree ds strings rows number f w here body
  of_branch : (outer : ℕ) (g : Function) (v : Within) (there : Here) (s : Stmt) (number : ℕ) (f : Function) (w : Within) (here : Here) (branch : Stmt)
      → IsUnit env tree ds strings rows outer g v there s → slice_get rows number ≡ Some f
      → IsBranch env tree outer g v there s number f w here branch → IsUnit env tree ds strings rows number f w here branch

-- what is known of each unit alike, in a program of so many strings
pub record IsKnown (env : Environment) (tree : Tree) (strings : ℕ) (rows : List Function) (number : ℕ) (f : Function) (w : Within) (here : Here) (statement : Stmt) : Type 0 where
  pub row : slice_get rows number ≡ Some f
  pub outside : Here
  pub declared : List Declared
  pub typed : IsTypedFrom env tree.names w outside here declared statement f
  pub sound : is_sound env.aggregates f.returns ≡ true
  pub texts : All (λ (n : Numbered). n.number < strings) here.texts
  pub level : length f.around ≡ length here.around
  pub locals : All (λ (l : Local). (is_stored env.aggregates l.ty ≡ true) × (l.is_shared ≡ false → may_be_private l.ty ≡ true)) f.locals
  pub parameters : f.parameters ≤ length f.locals
  -- it stands in none or in an earlier row
  pub stands : (f.around ≡ []) ⊎ ((outer : ℕ) × ((outer < number) × ((g : Function) × ((slice_get rows outer ≡ Some g) × ((f.around ≡ g.around ++ outer ∷ []) × ((f.parameters ≡ 0) × (f.returns ≡ ty.Void)))))))

-- The row of that place among those round a unit has a unit too, what is at hand there is what the unit has of it, and the unit's statement is a branch in
-- that unit's.
pub record IsRoundOf (env : Environment) (tree : Tree) (ds : List Defined) (strings : ℕ) (rows : List Function) (f : Function) (statement : Stmt) (k : ℕ) (r : Round) : Type 0 where
  pub outer : ℕ
  pub stands : slice_get f.around k ≡ Some outer
  pub g : Function
  pub v : Within
  pub there : Here
  pub s : Stmt
  pub unit : IsUnit env tree ds strings rows outer g v there s
  pub is : r ≡ round_of there
  pub depth : length there.around ≡ k
  pub inner : Contains (branches s) statement

-- ---- the branches of a unit

-- a row of a branch in the unit of that row and number
abbrev pub IsBranchRow : List Function → ℕ → Function → ℕ → Type 0
IsBranchRow rows number f n = (b : Function) × (slice_get rows n ≡ Some b) × (b.around ≡ f.around ++ number ∷ [])

-- Each par of the unit has 1 to 64 branches, and the numbers that are given to these are those of their rows.
pub record HasBranches (rows : List Function) (number : ℕ) (f : Function) (w : Within) (tree : Stmt) : Type 0 where
  pub pars : (x : Standing) → Contains (standing tree 0 0) x → (at : Place) (bodies : List Stmt) → out-Stmt x.tree ≡ Stmt-F.Par at bodies
      → (ns : List ℕ) → of_each (branch_at w) (map place bodies) ≡ Good ns
      → (1 ≤ length ns) × (length ns ≤ 64) × All (IsBranchRow rows number f) ns
