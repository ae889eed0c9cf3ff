-- What a tree of a statement gives is well typed, where its expressions are fit, and the numbers that are given to labels,
-- rescues, loops and branches are those of the function at hand.
use Rattle.std.specs.Prelude.{◌≡◌, ℕ, ◌+◌, true, false, Contains, List, length, Option, Some, None, ⊤}
use Rattle.al_rules.specs.Outcome.{Good}
use Rattle.al_tree.specs.declared.expression.Expr.{Expr}
use Rattle.al_tree.specs.declared.statement.Variable.{Variable}
use Rattle.al_tree.specs.declared.statement.Stmt.{Stmt, map-Stmt, out-Stmt}
use Rattle.al_tree.specs.declared.statement.Stmt.TheOpen.{Stmt-F}
use Rattle.al_tree_walks.specs.Statements.{Standing}
use Rattle.al_flow.specs.Targets.{number_at as target_at}
use Rattle.al_typed.specs.Typed.{callee_of, type_of}
use Rattle.al_typed.specs.WellTyped.{AreBranches, AreRound, CaseLabels, IsHandedOn, IsLabel, IsRescue, IsReturned, IsStatement, Nest, Scope, alt_labels, is_sound, no_labels, rows, switch_labels}
use Rattle.al_convert.specs.Same.{same}
use Rattle.al_environment.specs.declared.environment.Environment.{Environment}
use Rattle.al_environment.specs.declared.environment.Here.{Here}
use Rattle.al_operands.specs.declared.operand.Operand.{Operand}
use Rattle.al_type_nodes.specs.declared.found.Found.{Found}
use Rattle.al_type_nodes.specs.declared.found.Found.TheVariants as found_as
use Rattle.al_type_expr.specs.Nodes.{found}
use Rattle.al_type_stmt.specs.declared.within.Within.{Within}
use Rattle.al_type_stmt.specs.declared.within.Choice.{Choice}
use Rattle.al_type_stmt.specs.declared.within.Choice.TheVariants as choice
use Rattle.al_type_stmt.specs.Iterators.{iterators, with_iterators}
use Rattle.al_type_stmt.specs.Statements.{Part, branch_at, of_each, part, places, statement}
use Rattle.al_sound_operators.specs.Typed.{IfGood}
use Rattle.al_sound_nodes.specs.Nodes.{Tells}
use Rattle.al_sound_expressions.specs.Expressions.{AreFit, Every}

-- ---- expressions in statements

-- An expression that is fit with its parts. The rules of types leave the rest of this to what is checked of whole texts.
pub record IsFitExpr (s : Scope) (env : Environment) (here : Here) (e : Expr) : Type 0 where
  pub trees : List Expr
  pub fit : AreFit s env here trees
  pub among : Contains trees e

abbrev pub IfThere : {A : Type 0} → (A → Type 0) → Option A → Type 0
IfThere P None = ⊤
IfThere P (Some x) = P x

-- where a statement has so many iterators
abbrev pub with_count : Scope → ℕ → Scope
with_count s n = record s { iterators = n }

-- The bounds of iterators are typed where no iterator may stand, and the expression itself where they may.
pub record IsFitValue (s : Scope) (env : Environment) (here : Here) (e : Expr) : Type 0 where
  pub outside : IsFitExpr s env here e
  pub inside : IsFitExpr (with_count s (length (iterators env here e))) env (with_iterators here (iterators env here e)) e

-- ---- statements in statements

-- of each statement in one with so many round it
abbrev pub EachInside : {A : Type 0} → (ℕ → ℕ → A → Type 0) → ℕ → ℕ → Stmt-F A → Type 0
EachInside P b l (Stmt-F.Empty at) = ⊤
EachInside P b l (Stmt-F.Block at body) = Every (P b l) body
EachInside P b l (Stmt-F.Declare at base variables) = ⊤
EachInside P b l (Stmt-F.Value at e) = ⊤
EachInside P b l (Stmt-F.Label at name body) = P b l body
EachInside P b l (Stmt-F.If at e met other) = P b l met × IfThere (P b l) other
EachInside P b l (Stmt-F.While at e body) = P (b + 1) (l + 1) body
EachInside P b l (Stmt-F.Do at body e) = P (b + 1) (l + 1) body
EachInside P b l (Stmt-F.For at start e next body) = P (b + 1) (l + 1) body
EachInside P b l (Stmt-F.Switch at e body) = Every (P (b + 1) l) body
EachInside P b l (Stmt-F.Alt at body) = Every (P (b + 1) l) body
EachInside P b l (Stmt-F.Case at e) = ⊤
EachInside P b l (Stmt-F.Default at) = ⊤
EachInside P b l (Stmt-F.Par at branches) = ⊤
EachInside P b l (Stmt-F.Rescue at name body) = P b l body
EachInside P b l (Stmt-F.Raise at name) = ⊤
EachInside P b l (Stmt-F.Return at e) = ⊤
EachInside P b l (Stmt-F.Become at e) = ⊤
EachInside P b l (Stmt-F.Break at count) = ⊤
EachInside P b l (Stmt-F.Continue at count) = ⊤
EachInside P b l (Stmt-F.Goto at name) = ⊤
EachInside P b l (Stmt-F.Alloc at es) = ⊤
EachInside P b l (Stmt-F.Unalloc at es) = ⊤
EachInside P b l (Stmt-F.Check at e text) = ⊤
EachInside P b l (Stmt-F.Proc at es) = ⊤
EachInside P b l (Stmt-F.Task at es) = ⊤

-- that statement stands there
abbrev pub StandsAt : List Standing → ℕ → ℕ → Stmt → Type 0
StandsAt trees b l x = Contains trees (record { tree = x; breaks = b; loops = l })

-- ---- what the rules of types do not ask of a statement

-- Typing rule 48 takes a call of a function by its name whose result type is the same but for the capacities of channels. In a
-- function of a program it is like the type that is returned.
abbrev pub GoesOn : Scope → Within → Found → Type 0
GoesOn s w f = (x : Operand) (number : ℕ) → f ≡ found_as.Value x → callee_of x.value ≡ Some number → same false (type_of x.value) w.returns ≡ true
    → IsHandedOn s.names (type_of x.value)

module _ (s : Scope) (number : ℕ) (w : Within) (env : Environment) (here : Here) where
  -- A statement with so many loops, switches and alts, and so many loops, round it. Among any names of sound types nothing is
  -- asked of jumps, branches and results.
  abbrev pub IsFitAt : ℕ → ℕ → Stmt-F Part → Type 0
  IsFitAt b l (Stmt-F.Declare at base variables) = Every (λ (v : Variable). IfThere (IsFitExpr s env here) v.value) variables
  IsFitAt b l (Stmt-F.Value at e) = IsFitValue s env here e
  IsFitAt b l (Stmt-F.If at e met other) = IsFitExpr s env here e
  IsFitAt b l (Stmt-F.While at e body) = IsFitExpr s env here e
  IsFitAt b l (Stmt-F.Do at body e) = IsFitExpr s env here e
  IsFitAt b l (Stmt-F.For at start e next body) = IfThere (IsFitExpr s env here) start × (IfThere (IsFitExpr s env here) e × IfThere (IsFitExpr s env here) next)
  IsFitAt b l (Stmt-F.Switch at e body) = IsFitExpr s env here e
  IsFitAt b l (Stmt-F.Case at e) = IsFitExpr s env here e
  IsFitAt b l (Stmt-F.Par at branches) = (ns : List ℕ) → of_each (branch_at w) (places branches) ≡ Good ns → AreBranches s.names number ns
  IsFitAt b l (Stmt-F.Raise at name) = (n : ℕ) → target_at w.targets at ≡ Some n → IsRescue s.names n
  IsFitAt b l (Stmt-F.Return at e) = IfThere (IsFitExpr s env here) e
  IsFitAt b l (Stmt-F.Become at e) = IsFitExpr s env here e × IfGood (found env here e) (GoesOn s w)
  IsFitAt b l (Stmt-F.Break at count) = (n : ℕ) → target_at w.targets at ≡ Some n → AreRound s.names n b
  IsFitAt b l (Stmt-F.Continue at count) = (n : ℕ) → target_at w.targets at ≡ Some n → AreRound s.names n l
  IsFitAt b l (Stmt-F.Goto at name) = (n : ℕ) → target_at w.targets at ≡ Some n → IsLabel s.names n
  IsFitAt b l (Stmt-F.Alloc at es) = Every (IsFitExpr s env here) es
  IsFitAt b l (Stmt-F.Unalloc at es) = Every (IsFitExpr s env here) es
  IsFitAt b l (Stmt-F.Check at e text) = IsFitExpr s env here e
  IsFitAt b l (Stmt-F.Proc at es) = Every (IsFitExpr s env here) es
  IsFitAt b l (Stmt-F.Task at es) = Every (IsFitExpr s env here) es
  IsFitAt b l _ = ⊤

  -- Statements of a function or branch that have, with each, those in it, and that are fit. The returned type is the
  -- function's, and sound.
  pub record AreFitStatements (trees : List Standing) : Type 0 where
    pub tells : Tells s env here
    pub returns : IsReturned s.names w.returns
    pub sound : is_sound (rows s) w.returns ≡ true
    pub parts : (x : Standing) → Contains trees x → EachInside (StandsAt trees) x.breaks x.loops (out-Stmt x.tree)
    pub fit : (x : Standing) → Contains trees x → IsFitAt x.breaks x.loops (map-Stmt Stmt Part (part w env here) (out-Stmt x.tree))

-- ---- the law

-- the labels that may stand directly in a body
abbrev pub labels_of : Choice → CaseLabels
labels_of choice.Neither = no_labels
labels_of (choice.Switch k) = switch_labels k
labels_of choice.Alt = alt_labels

abbrev pub nest_of : ℕ → ℕ → ℕ → Choice → Nest
nest_of number b l c = record { number = number; breaks = b; loops = l; labels = labels_of c }

-- what a part gives in each body
abbrev pub IsPart : Scope → ℕ → ℕ → ℕ → Part → Type 0
IsPart s number b l p = (c : Choice) → IfGood (p.way c) (IsStatement s (nest_of number b l c))

pub record StatementsAreSound : Type 0 where
  pub part : (s : Scope) (number : ℕ) (w : Within) (env : Environment) (here : Here) (trees : List Standing) → AreFitStatements s number w env here trees
      → (x : Standing) → Contains trees x → IsPart s number x.breaks x.loops (part w env here x.tree)
  -- the body of a function, which no loop is round
  pub body : (s : Scope) (number : ℕ) (w : Within) (env : Environment) (here : Here) (trees : List Standing) → AreFitStatements s number w env here trees
      → (tree : Stmt) → StandsAt trees 0 0 tree → IfGood (statement w env here tree) (IsStatement s (nest_of number 0 0 choice.Neither))
