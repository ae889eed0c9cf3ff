-- Which locals of a function expressions make shared: in the function itself those whose address is taken, and in the branches
-- of its pars those that are named.
use Rattle.std.specs.Prelude.{ℕ, ◌==◌, Bool, true, false, if◌then◌else◌, fold, slice_set, List, Option, Some, None}
use Rattle.al_base.specs.declared.place.Place.{Place}
use Rattle.al_tree.specs.declared.expression.UnaryOp.{UnaryOp}
use Rattle.al_tree.specs.declared.expression.UnaryOp.TheVariants as op
use Rattle.al_tree.specs.declared.expression.Expr.{Expr, fold-Expr}
use Rattle.al_tree.specs.declared.expression.Expr.TheOpen.{Expr-F}
use Rattle.al_scope.specs.declared.declaration.Declaration.{Declaration}
use Rattle.al_scope.specs.declared.declaration.Declaration.TheVariants as declaration
use Rattle.al_scope.specs.declared.declaration.Resolved.{Resolved}
use Rattle.al_scope.specs.Firsts.{declaration_at}

-- what is done with the marks of a function's parameters and locals, inside a branch of one of its pars or outside
abbrev pub Way : Type 0
Way = Bool → List Bool → List Bool

-- it is shared
abbrev pub marked : ℕ → List Bool → List Bool
marked n bs = slice_set bs n true

-- one after the other
abbrev pub each : {A : Type 0} → (A → Way) → List A → Way
each f xs inside bs = fold (λ cs x. f x inside cs) bs xs

-- one that may be missing
abbrev pub optional : {A : Type 0} → (A → Way) → Option A → Way
optional f None inside bs = bs
optional f (Some x) inside bs = f x inside bs

-- a name that a branch uses, where so many functions are round the function at hand
abbrev pub named : (round : ℕ) → Option Declaration → Way
named round (Some (declaration.Outer around n)) true bs = if around == round then marked n bs else bs
named round _ _ bs = bs

-- a name whose address is taken
abbrev pub addressed : Option Declaration → Way
addressed (Some (declaration.Local n)) false bs = marked n bs
addressed _ _ bs = bs

-- an operator before an expression, which may be a name alone
abbrev pub operated : (names : List Resolved) → UnaryOp → Option Place → Way
operated names op.Address (Some at) inside bs = addressed (declaration_at names at) inside bs
operated names _ _ inside bs = bs

-- where an expression stands that is a name alone, and what it does
pub record Part : Type 0 where
  pub name : Option Place
  pub way : Way

abbrev pub plain : Way → Part
plain way = record { name = None; way = way }

-- The names of a text, and how many functions are round the function at hand.
module _ (names : List Resolved) (round : ℕ) where
  abbrev pub step : Expr-F Part → Part
  step (Expr-F.Number at n) = plain (λ inside bs. bs)
  step (Expr-F.Char at n) = plain (λ inside bs. bs)
  step (Expr-F.Text at bytes) = plain (λ inside bs. bs)
  step (Expr-F.Nil at) = plain (λ inside bs. bs)
  step (Expr-F.Name at name) = record { name = Some at; way = named round (declaration_at names at) }
  step (Expr-F.Tuple at parts) = plain (each (λ (p : Part). p.way) parts)
  step (Expr-F.Unary at how a) = plain (λ inside bs. a.way inside (operated names how a.name inside bs))
  step (Expr-F.Cast at to a) = plain a.way
  step (Expr-F.SizeofType at of) = plain (λ inside bs. bs)
  step (Expr-F.SizeofValue at a) = plain a.way
  step (Expr-F.Index at a b) = plain (λ inside bs. b.way inside (a.way inside bs))
  step (Expr-F.Member at a how name) = plain a.way
  step (Expr-F.Call at f parts) = plain (λ inside bs. each (λ (p : Part). p.way) parts inside (f.way inside bs))
  step (Expr-F.Postfix at how a) = plain a.way
  step (Expr-F.Binary at how a b) = plain (λ inside bs. b.way inside (a.way inside bs))
  step (Expr-F.Iterator at a b) = plain (λ inside bs. b.way inside (a.way inside bs))
  step (Expr-F.Assign at how a b) = plain (λ inside bs. b.way inside (a.way inside bs))
  step (Expr-F.Sequence at parts) = plain (each (λ (p : Part). p.way) parts)

  unfoldable pub part : Expr → Part
  part = fold-Expr Part step

  abbrev pub name_of : Expr → Option Place
  name_of e = (part e).name

  abbrev pub expr : Expr → Way
  expr e = (part e).way
