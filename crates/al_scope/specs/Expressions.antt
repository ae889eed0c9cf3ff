-- Names in expressions, each of which is asked rule 1. The names of members are none of these.
use Rattle.std.specs.Prelude.{List, Option}
use Rattle.al_base.specs.declared.place.Place.{Place}
use Rattle.al_tree.specs.declared.expression.Expr.{Expr, out-Expr, fold-Expr}
use Rattle.al_tree.specs.declared.expression.Expr.TheOpen.{Expr-F}
use Rattle.al_scope.specs.Names.{used}
use Rattle.al_scope.specs.Types.{Way, all, type_tree}

abbrev pub expr_step : Expr-F Way → Way
expr_step (Expr-F.Number at n) = λ constants w. w
expr_step (Expr-F.Char at n) = λ constants w. w
expr_step (Expr-F.Text at bytes) = λ constants w. w
expr_step (Expr-F.Nil at) = λ constants w. w
expr_step (Expr-F.Name at name) = λ constants w. used at name w
expr_step (Expr-F.Tuple at parts) = all parts
expr_step (Expr-F.Unary at op a) = a
expr_step (Expr-F.Cast at to a) = λ constants w. a constants (type_tree to constants w)
expr_step (Expr-F.SizeofType at of) = type_tree of
expr_step (Expr-F.SizeofValue at a) = a
expr_step (Expr-F.Index at a b) = λ constants w. b constants (a constants w)
expr_step (Expr-F.Member at a access name) = a
expr_step (Expr-F.Call at a arguments) = λ constants w. all arguments constants (a constants w)
expr_step (Expr-F.Postfix at op a) = a
expr_step (Expr-F.Binary at op a b) = λ constants w. b constants (a constants w)
expr_step (Expr-F.Iterator at a b) = λ constants w. b constants (a constants w)
expr_step (Expr-F.Assign at op a b) = λ constants w. b constants (a constants w)
expr_step (Expr-F.Sequence at parts) = all parts

unfoldable pub expr : Expr → Way
expr = fold-Expr Way expr_step

abbrev pub place_at : Expr-F Expr → Place
place_at (Expr-F.Number at n) = at
place_at (Expr-F.Char at n) = at
place_at (Expr-F.Text at bytes) = at
place_at (Expr-F.Nil at) = at
place_at (Expr-F.Name at name) = at
place_at (Expr-F.Tuple at parts) = at
place_at (Expr-F.Unary at op a) = at
place_at (Expr-F.Cast at to a) = at
place_at (Expr-F.SizeofType at of) = at
place_at (Expr-F.SizeofValue at a) = at
place_at (Expr-F.Index at a b) = at
place_at (Expr-F.Member at a access name) = at
place_at (Expr-F.Call at a arguments) = at
place_at (Expr-F.Postfix at op a) = at
place_at (Expr-F.Binary at op a b) = at
place_at (Expr-F.Iterator at a b) = at
place_at (Expr-F.Assign at op a b) = at
place_at (Expr-F.Sequence at parts) = at

-- where an expression begins
unfoldable pub place : Expr → Place
place e = place_at (out-Expr e)
