-- The types that a text writes, in text order: each base, and each type in a cast, a sizeof or a declaration. A type inside
-- another is not listed beside it.
use Rattle.std.specs.Prelude.{List, [], ◌∷◌, ◌++◌, Option, Some, None}
use Rattle.std.specs.List.{flat_map}
use Rattle.al_tree.specs.declared.type_tree.TypeTree.{TypeTree}
use Rattle.al_tree.specs.declared.expression.Expr.{Expr, fold-Expr}
use Rattle.al_tree.specs.declared.expression.Expr.TheOpen.{Expr-F}
use Rattle.al_tree.specs.declared.statement.Variable.{Variable}
use Rattle.al_tree.specs.declared.statement.Stmt.{Stmt, fold-Stmt}
use Rattle.al_tree.specs.declared.statement.Stmt.TheOpen.{Stmt-F}
use Rattle.al_tree.specs.declared.item.Parameter.{Parameter}
use Rattle.al_tree.specs.declared.item.Parameter.TheVariants as parameter
use Rattle.al_tree.specs.declared.item.Head.{Head}
use Rattle.al_tree.specs.declared.item.Initializer.{Initializer, fold-Initializer}
use Rattle.al_tree.specs.declared.item.Initializer.TheOpen.{Initializer-F}
use Rattle.al_tree.specs.declared.item.Declarator.{Declarator}
use Rattle.al_tree.specs.declared.item.Declarator.TheVariants as declarator
use Rattle.al_tree.specs.declared.item.Member.{Member, fold-Member}
use Rattle.al_tree.specs.declared.item.Member.TheOpen.{Member-F}
use Rattle.al_tree.specs.declared.item.AdtPart.{AdtPart}
use Rattle.al_tree.specs.declared.item.AdtPart.TheVariants as adt
use Rattle.al_tree.specs.declared.item.AdtMember.{AdtMember}
use Rattle.al_tree.specs.declared.item.Constant.{Constant}
use Rattle.al_tree.specs.declared.item.Item.{Item}
use Rattle.al_tree.specs.declared.item.Item.TheVariants as item

abbrev pub Types : Type 0
Types = List TypeTree

abbrev pub of_each : List Types → Types
of_each = flat_map (λ x. x)

-- of a part that may be missing
abbrev pub of_part : Option Types → Types
of_part None = []
of_part (Some types) = types

-- ---- expressions

abbrev pub expr_step : Expr-F Types → Types
expr_step (Expr-F.Tuple at parts) = of_each parts
expr_step (Expr-F.Unary at op operand) = operand
expr_step (Expr-F.Cast at to operand) = to ∷ operand
expr_step (Expr-F.SizeofType at of) = of ∷ []
expr_step (Expr-F.SizeofValue at of) = of
expr_step (Expr-F.Index at of index) = of ++ index
expr_step (Expr-F.Member at of access name) = of
expr_step (Expr-F.Call at callee arguments) = callee ++ of_each arguments
expr_step (Expr-F.Postfix at op operand) = operand
expr_step (Expr-F.Binary at op left right) = left ++ right
expr_step (Expr-F.Iterator at from to) = from ++ to
expr_step (Expr-F.Assign at op left right) = left ++ right
expr_step (Expr-F.Sequence at parts) = of_each parts
expr_step _ = []

unfoldable pub in_expr : Expr → Types
in_expr = fold-Expr Types expr_step

abbrev pub in_exprs : List Expr → Types
in_exprs = flat_map in_expr

abbrev pub in_value : Option Expr → Types
in_value None = []
in_value (Some e) = in_expr e

-- ---- statements

abbrev pub in_variable : Variable → Types
in_variable v = in_value v.value

abbrev pub stmt_step : Stmt-F Types → Types
stmt_step (Stmt-F.Block at body) = of_each body
stmt_step (Stmt-F.Declare at base variables) = base ∷ flat_map in_variable variables
stmt_step (Stmt-F.Value at value) = in_expr value
stmt_step (Stmt-F.Label at name body) = body
stmt_step (Stmt-F.If at condition met other) = in_expr condition ++ met ++ of_part other
stmt_step (Stmt-F.While at condition body) = in_expr condition ++ body
stmt_step (Stmt-F.Do at body condition) = body ++ in_expr condition
stmt_step (Stmt-F.For at start condition next body) = in_value start ++ in_value condition ++ in_value next ++ body
stmt_step (Stmt-F.Switch at value body) = in_expr value ++ of_each body
stmt_step (Stmt-F.Alt at body) = of_each body
stmt_step (Stmt-F.Case at value) = in_expr value
stmt_step (Stmt-F.Par at bodies) = of_each bodies
stmt_step (Stmt-F.Rescue at name body) = body
stmt_step (Stmt-F.Return at value) = in_value value
stmt_step (Stmt-F.Become at value) = in_expr value
stmt_step (Stmt-F.Alloc at places) = in_exprs places
stmt_step (Stmt-F.Unalloc at values) = in_exprs values
stmt_step (Stmt-F.Check at value text) = in_expr value
stmt_step (Stmt-F.Proc at calls) = in_exprs calls
stmt_step (Stmt-F.Task at calls) = in_exprs calls
stmt_step _ = []

unfoldable pub in_stmt : Stmt → Types
in_stmt = fold-Stmt Types stmt_step

-- ---- parts of items

abbrev pub in_parameter : Parameter → Types
in_parameter (parameter.Plain at base stars name bounds) = base ∷ []
in_parameter (parameter.OwnPointer at name) = []
in_parameter (parameter.OwnValue at name) = []

abbrev pub in_head : Head → Types
in_head h = flat_map in_parameter h.parameters

abbrev pub initializer_step : Initializer-F Types → Types
initializer_step (Initializer-F.Value e) = in_expr e
initializer_step (Initializer-F.Braces at parts) = of_each parts

unfoldable pub in_initializer : Initializer → Types
in_initializer = fold-Initializer Types initializer_step

abbrev pub in_start : Option Initializer → Types
in_start None = []
in_start (Some i) = in_initializer i

abbrev pub in_declarator : Declarator → Types
in_declarator (declarator.Global dcl value) = in_start value
in_declarator (declarator.Function head) = in_head head

abbrev pub member_step : Member-F Types → Types
member_step (Member-F.Fields at base fields) = base ∷ []
member_step (Member-F.Unnamed at of) = of ∷ []
member_step (Member-F.Inner at kind members) = of_each members

unfoldable pub in_member : Member → Types
in_member = fold-Member Types member_step

abbrev pub in_adt_part : AdtPart → Types
in_adt_part (adt.Data member) = in_member member
in_adt_part (adt.Function base stars name parameters) = base ∷ flat_map in_parameter parameters

abbrev pub in_adt_member : AdtMember → Types
in_adt_member m = in_adt_part m.part

abbrev pub in_constant : Constant → Types
in_constant c = in_value c.value

-- ---- items

abbrev pub in_item : Item → Types
in_item (item.Typedef at base dcl) = base ∷ []
in_item (item.FunctionType at base stars name parameters) = base ∷ flat_map in_parameter parameters
in_item (item.Forward at kind name) = []
in_item (item.Aggregate at kind name members) = flat_map in_member members
in_item (item.Adt at name parameters members) = flat_map in_adt_member members
in_item (item.Enum at name constants) = flat_map in_constant constants
in_item (item.Declare at scope base declarators) = base ∷ flat_map in_declarator declarators
in_item (item.Function at scope base head body) = base ∷ in_head head ++ in_stmt body
