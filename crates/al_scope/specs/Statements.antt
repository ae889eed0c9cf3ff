-- Scopes of parameters and locals.
--
-- A local is in scope from its declarator on, in its own value too, up to the end of the block, switch or alt that it is
-- declared in. Names of labels and rescues are none of these names.
use Rattle.std.specs.Prelude.{List, Option}
use Rattle.al_base.specs.declared.place.Place.{Place}
use Rattle.al_tree.specs.declared.statement.Stmt.{Stmt, fold-Stmt}
use Rattle.al_tree.specs.declared.statement.Stmt.TheOpen.{Stmt-F}
use Rattle.al_tree.specs.declared.statement.Variable.{Variable}
use Rattle.al_scope.specs.Names.{local, scope, branch}
use Rattle.al_scope.specs.Types.{Way, each, all, optional, if_there, type_tree, dcl_bounds}
use Rattle.al_scope.specs.Expressions.{expr}

-- a local with the value that it starts with
unfoldable pub variable : Variable → Way
variable v constants w = optional expr v.value constants (local v.dcl.name (dcl_bounds v.dcl constants w))

-- what is declared in it is known up to its end
abbrev pub scoped : Way → Way
scoped a constants w = scope (a constants) w

abbrev pub parted : Way → Way
parted a constants w = branch (a constants) w

abbrev pub stmt_step : Stmt-F Way → Way
stmt_step (Stmt-F.Empty at) = λ constants w. w
stmt_step (Stmt-F.Block at body) = scoped (all body)
stmt_step (Stmt-F.Declare at base variables) = λ constants w. each variable variables constants (type_tree base constants w)
stmt_step (Stmt-F.Value at value) = expr value
stmt_step (Stmt-F.Label at name body) = body
stmt_step (Stmt-F.If at condition met other) = λ constants w. if_there other constants (met constants (expr condition constants w))
stmt_step (Stmt-F.While at condition body) = λ constants w. body constants (expr condition constants w)
stmt_step (Stmt-F.Do at body condition) = λ constants w. expr condition constants (body constants w)
stmt_step (Stmt-F.For at start condition next body) =
    λ constants w. body constants (optional expr next constants (optional expr condition constants (optional expr start constants w)))
stmt_step (Stmt-F.Switch at value body) = λ constants w. scoped (all body) constants (expr value constants w)
stmt_step (Stmt-F.Alt at body) = scoped (all body)
stmt_step (Stmt-F.Case at value) = expr value
stmt_step (Stmt-F.Default at) = λ constants w. w
stmt_step (Stmt-F.Par at branches) = each parted branches
stmt_step (Stmt-F.Rescue at name body) = body
stmt_step (Stmt-F.Raise at name) = λ constants w. w
stmt_step (Stmt-F.Return at value) = optional expr value
stmt_step (Stmt-F.Become at value) = expr value
stmt_step (Stmt-F.Break at count) = λ constants w. w
stmt_step (Stmt-F.Continue at count) = λ constants w. w
stmt_step (Stmt-F.Goto at label) = λ constants w. w
stmt_step (Stmt-F.Alloc at places) = each expr places
stmt_step (Stmt-F.Unalloc at values) = each expr values
stmt_step (Stmt-F.Check at value text) = expr value
stmt_step (Stmt-F.Proc at calls) = each expr calls
stmt_step (Stmt-F.Task at calls) = each expr calls

unfoldable pub stmt : Stmt → Way
stmt = fold-Stmt Way stmt_step

-- the branch of a par
abbrev pub par_branch : Stmt → Way
par_branch s constants w = branch (stmt s constants) w
