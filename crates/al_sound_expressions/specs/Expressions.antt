-- What a tree of an expression gives is well typed, where the types that are written in it are sound, its strings and iterators
-- are there, and the locals are shared whose addresses it takes, or that it names of functions round a branch of a par.
use Rattle.std.specs.Prelude.{◌≡◌, ℕ, ◌<◌, Bool, true, false, Contains, List, [], ◌∷◌, Some, ⊤}
use Rattle.al_base.specs.declared.place.Place.{Place}
use Rattle.al_scope.specs.Firsts.{declaration_at}
use Rattle.al_tree.specs.declared.expression.UnaryOp.TheVariants as prefix
use Rattle.al_tree.specs.declared.expression.Expr.{Expr, out-Expr, map-Expr}
use Rattle.al_tree.specs.declared.expression.Expr.TheOpen.{Expr-F}
use Rattle.al_tree.specs.declared.type_tree.TypeTree.{TypeTree}
use Rattle.al_typed.specs.declared.ty.Ty.{Ty}
use Rattle.al_typed.specs.declared.ty.Ty.TheVariants as ty
use Rattle.al_typed.specs.declared.expression.TExpr.{Row_of-TTarget, end_of-TTarget, more_of-TTarget}
use Rattle.al_typed.specs.declared.expression.TTarget.{TTarget, Dropped, Parts'}
use Rattle.al_typed.specs.ExpressionForms as form
use Rattle.al_typed.specs.Types.{is_array, is_whole}
use Rattle.al_typed.specs.Typed.{place_type, target_types}
use Rattle.al_typed.specs.WellTyped.{Scope, is_small, is_sound, is_stored, rows, strings_of}
use Rattle.al_environment.specs.declared.environment.Environment.{Environment}
use Rattle.al_environment.specs.declared.environment.Here.{Here}
use Rattle.al_environment.specs.Firsts.{number_at}
use Rattle.al_environment.specs.Written.{written}
use Rattle.al_type_expr.specs.Nodes.{Node, dropped_value, node, value_of}
use Rattle.al_sound_operators.specs.Typed.{IfGood, IsOperand, IsSoundPlace, IsTyped}
use Rattle.al_sound_nodes.specs.Nodes.{IsFound, IsReached, IsShared, Tells}
use Rattle.al_sound_nodes.specs.Callees.{IsCallee}

-- ---- targets

-- What stands on the left of `=`, before it is known that what is assigned converts to it: a tuple's parts may be incomplete.
abbrev mutual
  pub IsAimed : Scope → TTarget → Type 0
  IsAimed s (form.into place) = IsSoundPlace s place × (is_array (place_type place) ≡ false)
  IsAimed s (Dropped t) = (is_stored (rows s) t ≡ true) × (is_array t ≡ false)
  IsAimed s (Parts' t _ parts) = (t ≡ ty.Tuple (target_types parts)) × ((is_small (rows s) t ≡ true) × AreAimed s parts)

  pub AreAimed : Scope → {m : _} → Row_of-TTarget m → Type 0
  AreAimed s end_of-TTarget = ⊤
  AreAimed s (more_of-TTarget target rest) = IsAimed s target × AreAimed s rest

-- ---- nodes

abbrev pub Every : {A : Type 0} → (A → Type 0) → List A → Type 0
Every P [] = ⊤
Every P (x ∷ xs) = P x × Every P xs

-- of each part of a node
abbrev pub EachPart : {A : Type 0} → (A → Type 0) → Expr-F A → Type 0
EachPart P (Expr-F.Number at value) = ⊤
EachPart P (Expr-F.Char at value) = ⊤
EachPart P (Expr-F.Text at bytes) = ⊤
EachPart P (Expr-F.Nil at) = ⊤
EachPart P (Expr-F.Name at name) = ⊤
EachPart P (Expr-F.Tuple at parts) = Every P parts
EachPart P (Expr-F.Unary at op a) = P a
EachPart P (Expr-F.Cast at to a) = P a
EachPart P (Expr-F.SizeofType at of) = ⊤
EachPart P (Expr-F.SizeofValue at a) = P a
EachPart P (Expr-F.Index at a b) = P a × P b
EachPart P (Expr-F.Member at a how name) = P a
EachPart P (Expr-F.Call at f xs) = P f × Every P xs
EachPart P (Expr-F.Postfix at op a) = P a
EachPart P (Expr-F.Binary at op a b) = P a × P b
EachPart P (Expr-F.Iterator at a b) = P a × P b
EachPart P (Expr-F.Assign at op a b) = P a × P b
EachPart P (Expr-F.Sequence at parts) = Every P parts

-- what is said of a node is well typed
pub record IsNode (s : Scope) (n : Node) : Type 0 where
  pub found : IfGood n.found (IsFound s)
  pub target : (is_part : Bool) (at : Place) (t : Ty) → is_sound (rows s) t ≡ true → is_whole (rows s) t ≡ true → IfGood (n.target is_part at t) (IsAimed s)
  pub callee : IfGood n.callee (IsCallee s)

-- a written type is sound where it stands
abbrev pub IsSoundWritten : Scope → Environment → Here → TypeTree → Type 0
IsSoundWritten s env here t = (u : Ty) → written env here t ≡ Some u → is_sound (rows s) u ≡ true

-- what the rules of types do not ask of a node
abbrev pub IsFit : Scope → Environment → Here → Expr-F Node → Type 0
IsFit s env here (Expr-F.Text at bytes) = (n : ℕ) → number_at here.texts at ≡ Some n → n < strings_of s.names
IsFit s env here (Expr-F.Name at name) = IsReached s here (declaration_at env.scopes.names at)
IsFit s env here (Expr-F.Unary at prefix.Address a) = IfGood a.found (IsShared s)
IsFit s env here (Expr-F.Cast at to a) = IsSoundWritten s env here to
IsFit s env here (Expr-F.SizeofType at of) = IsSoundWritten s env here of
IsFit s env here (Expr-F.Iterator at a b) = (n : ℕ) → number_at here.iterators at ≡ Some n → n < s.iterators
IsFit s env here _ = ⊤

-- Trees that have, with each, its parts, and whose nodes are fit.
pub record AreFit (s : Scope) (env : Environment) (here : Here) (trees : List Expr) : Type 0 where
  pub parts : (e : Expr) → Contains trees e → EachPart (Contains trees) (out-Expr e)
  pub fit : (e : Expr) → Contains trees e → IsFit s env here (map-Expr Expr Node (node env here) (out-Expr e))

-- of each tree among those that are fit, where names stand for what is among the names
abbrev pub OfTrees : (Scope → Environment → Here → Expr → Type 0) → Type 0
OfTrees Holds = (s : Scope) (env : Environment) (here : Here) → Tells s env here → (trees : List Expr) → AreFit s env here trees → (e : Expr) → Contains trees e → Holds s env here e

pub record ExpressionsAreSound : Type 0 where
  pub node : OfTrees (λ s env here e. IsNode s (node env here e))
  pub value_of : OfTrees (λ s env here e. IfGood (value_of env here e) (IsOperand s))
  pub dropped_value : OfTrees (λ s env here e. IfGood (dropped_value env here e) (IsTyped s))
