-- Types in expressions.
use Rattle.al_tree.specs.declared.expression.Expr.{Expr, fold-Expr}
use Rattle.al_tree.specs.declared.expression.Expr.TheOpen.{Expr-F}
use Rattle.al_declare.specs.Types.{Way, all, type_tree}

abbrev pub expr_step : Expr-F Way → Way
expr_step (Expr-F.Number at n) = λ text w. w
expr_step (Expr-F.Char at n) = λ text w. w
expr_step (Expr-F.Text at bytes) = λ text w. w
expr_step (Expr-F.Nil at) = λ text w. w
expr_step (Expr-F.Name at name) = λ text w. w
expr_step (Expr-F.Tuple at parts) = all parts
expr_step (Expr-F.Unary at op a) = a
expr_step (Expr-F.Cast at to a) = λ text w. a text (type_tree to text w)
expr_step (Expr-F.SizeofType at of) = type_tree of
expr_step (Expr-F.SizeofValue at a) = a
expr_step (Expr-F.Index at a b) = λ text w. b text (a text w)
expr_step (Expr-F.Member at a access name) = a
expr_step (Expr-F.Call at a arguments) = λ text w. all arguments text (a text w)
expr_step (Expr-F.Postfix at op a) = a
expr_step (Expr-F.Binary at op a b) = λ text w. b text (a text w)
expr_step (Expr-F.Iterator at a b) = λ text w. b text (a text w)
expr_step (Expr-F.Assign at op a b) = λ text w. b text (a text w)
expr_step (Expr-F.Sequence at parts) = all parts

unfoldable pub expr : Expr → Way
expr = fold-Expr Way expr_step
