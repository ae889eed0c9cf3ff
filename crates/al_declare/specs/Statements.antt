-- Parameters and locals: the names of a scope are told from each other.
--
-- A block, a switch and an alt are scopes; the outermost block of a function is one with its parameters. Names of labels and
-- rescues are none of these names.
use Rattle.al_tree.specs.declared.statement.Stmt.{Stmt, out-Stmt, fold-Stmt}
use Rattle.al_tree.specs.declared.statement.Stmt.TheOpen.{Stmt-F}
use Rattle.al_tree.specs.declared.statement.Variable.{Variable}
use Rattle.al_declare.specs.Asking.{local, inner}
use Rattle.al_declare.specs.Types.{Way, each, all, optional, if_there, type_tree, dcl_bounds}
use Rattle.al_declare.specs.Expressions.{expr}

-- a local with the value that it starts with
unfoldable pub variable : Variable → Way
variable v text w = optional expr v.value text (local v.dcl.name text (dcl_bounds v.dcl text w))

-- a scope of its own
abbrev pub scoped : Way → Way
scoped a text w = inner (a text) w

abbrev pub stmt_step : Stmt-F Way → Way
stmt_step (Stmt-F.Empty at) = λ text w. w
stmt_step (Stmt-F.Block at body) = scoped (all body)
stmt_step (Stmt-F.Declare at base variables) = λ text w. each variable variables text (type_tree base text w)
stmt_step (Stmt-F.Value at value) = expr value
stmt_step (Stmt-F.Label at name body) = body
stmt_step (Stmt-F.If at condition met other) = λ text w. if_there other text (met text (expr condition text w))
stmt_step (Stmt-F.While at condition body) = λ text w. body text (expr condition text w)
stmt_step (Stmt-F.Do at body condition) = λ text w. expr condition text (body text w)
stmt_step (Stmt-F.For at start condition next body) =
    λ text w. body text (optional expr next text (optional expr condition text (optional expr start text w)))
stmt_step (Stmt-F.Switch at value body) = λ text w. scoped (all body) text (expr value text w)
stmt_step (Stmt-F.Alt at body) = scoped (all body)
stmt_step (Stmt-F.Case at value) = expr value
stmt_step (Stmt-F.Default at) = λ text w. w
stmt_step (Stmt-F.Par at branches) = all branches
stmt_step (Stmt-F.Rescue at name body) = body
stmt_step (Stmt-F.Raise at name) = λ text w. w
stmt_step (Stmt-F.Return at value) = optional expr value
stmt_step (Stmt-F.Become at value) = expr value
stmt_step (Stmt-F.Break at count) = λ text w. w
stmt_step (Stmt-F.Continue at count) = λ text w. w
stmt_step (Stmt-F.Goto at label) = λ text w. w
stmt_step (Stmt-F.Alloc at places) = each expr places
stmt_step (Stmt-F.Unalloc at values) = each expr values
stmt_step (Stmt-F.Check at value text) = expr value
stmt_step (Stmt-F.Proc at calls) = each expr calls
stmt_step (Stmt-F.Task at calls) = each expr calls

unfoldable pub stmt : Stmt → Way
stmt = fold-Stmt Way stmt_step

-- the body of a function, whose names are in the scope of its parameters
abbrev pub body_at : Stmt → Stmt-F Stmt → Way
body_at s (Stmt-F.Block at body) = each stmt body
body_at s _ = stmt s

unfoldable pub body : Stmt → Way
body s = body_at s (out-Stmt s)
