-- The types that expressions write: in casts and behind sizeof.
use Rattle.std.specs.Prelude.{List, fold, Option, None, Some}
use Rattle.al_tree.specs.declared.expression.Expr.{Expr, fold-Expr}
use Rattle.al_tree.specs.declared.expression.Expr.TheOpen.{Expr-F}
use Rattle.al_type_limits.specs.declared.size.Size.{Size}
use Rattle.al_type_limits.specs.Types.{Names, with_type}

-- what a part of a text makes of the size of all types before it
abbrev pub Way : Type 0
Way = Size → Size

-- it writes none
abbrev pub none : Way
none sum = sum

-- parts one after the other
abbrev pub each : {A : Type 0} → (A → Way) → List A → Way
each f xs sum = fold (λ u x. f x u) sum xs

abbrev pub all : List Way → Way
all = each (λ way. way)

-- a part that may be missing
abbrev pub optional : {A : Type 0} → (A → Way) → Option A → Way
optional f None sum = sum
optional f (Some x) sum = f x sum

module _ (names : Names) where
  abbrev pub expr_step : Expr-F Way → Way
  expr_step (Expr-F.Number at n) = none
  expr_step (Expr-F.Char at n) = none
  expr_step (Expr-F.Text at bytes) = none
  expr_step (Expr-F.Nil at) = none
  expr_step (Expr-F.Name at name) = none
  expr_step (Expr-F.Tuple at parts) = all parts
  expr_step (Expr-F.Unary at op a) = a
  expr_step (Expr-F.Cast at to a) = λ sum. a (with_type names sum to)
  expr_step (Expr-F.SizeofType at of) = λ sum. with_type names sum of
  expr_step (Expr-F.SizeofValue at a) = a
  expr_step (Expr-F.Index at a b) = λ sum. b (a sum)
  expr_step (Expr-F.Member at a access name) = a
  expr_step (Expr-F.Call at a arguments) = λ sum. all arguments (a sum)
  expr_step (Expr-F.Postfix at op a) = a
  expr_step (Expr-F.Binary at op a b) = λ sum. b (a sum)
  expr_step (Expr-F.Iterator at a b) = λ sum. b (a sum)
  expr_step (Expr-F.Assign at op a b) = λ sum. b (a sum)
  expr_step (Expr-F.Sequence at parts) = all parts

  unfoldable pub expr : Expr → Way
  expr = fold-Expr Way expr_step
