-- Names at file level: globals, functions outside of adts and enum constants, each in scope from its declarator on.
--
-- The functions of an adt are named as its members, and are none of these. In an adt with parameters, and in its functions,
-- the rules are asked once.
use Rattle.std.specs.Prelude.{List, length, slice_get, Option, None, Some}
use Rattle.al_tree.specs.Constants.{values}
use Rattle.al_tree.specs.declared.expression.Name.{Name}
use Rattle.al_tree.specs.declared.expression.Expr.{Expr}
use Rattle.al_tree.specs.declared.type_tree.Bound.{Bound}
use Rattle.al_tree.specs.declared.constants.EnumConstant.{EnumConstant}
use Rattle.al_tree.specs.declared.item.Parameter.{Parameter}
use Rattle.al_tree.specs.declared.item.Parameter.TheVariants as parameter
use Rattle.al_tree.specs.declared.item.Head.{Head}
use Rattle.al_tree.specs.declared.item.Owner.{Owner}
use Rattle.al_tree.specs.declared.item.Initializer.{Initializer, fold-Initializer}
use Rattle.al_tree.specs.declared.item.Initializer.TheOpen.{Initializer-F}
use Rattle.al_tree.specs.declared.item.Declarator.{Declarator}
use Rattle.al_tree.specs.declared.item.Declarator.TheVariants as declarator
use Rattle.al_tree.specs.declared.item.Member.{Member, fold-Member}
use Rattle.al_tree.specs.declared.item.Member.TheOpen.{Member-F}
use Rattle.al_tree.specs.declared.item.AdtPart.{AdtPart}
use Rattle.al_tree.specs.declared.item.AdtPart.TheVariants as adt
use Rattle.al_tree.specs.declared.item.AdtMember.{AdtMember}
use Rattle.al_tree.specs.declared.item.Constant.{Constant}
use Rattle.al_tree.specs.declared.item.Item.{Item}
use Rattle.al_tree.specs.declared.item.Item.TheVariants as item
use Rattle.al_tree.specs.declared.item.Tree.{Tree}
use Rattle.al_rules.specs.Outcome.{Outcome, ask, judge}
use Rattle.al_scope.specs.declared.declaration.Scopes.{Scopes}
use Rattle.al_scope.specs.declared.walk.Walk.{Walk}
use Rattle.al_scope.specs.Rules.{is_constant_value}
use Rattle.al_scope.specs.Names.{asked, local, nameless, global, function, constant, body, begun}
use Rattle.al_scope.specs.Types.{Way, each, all, optional, bound, type_tree, dcl_bounds}
use Rattle.al_scope.specs.Expressions.{expr, place}
use Rattle.al_scope.specs.Statements.{stmt}

-- ---- functions

-- an array parameter's bound may be missing
abbrev pub bound_if : Option Bound → Way
bound_if b = optional bound b

-- the bounds in a parameter's type
unfoldable pub parameter_bounds : Parameter → Way
parameter_bounds (parameter.Plain at base stars name bounds) constants w = each bound_if bounds constants (type_tree base constants w)
parameter_bounds (parameter.OwnPointer at name) constants w = w
parameter_bounds (parameter.OwnValue at name) constants w = w

abbrev pub local_if : Option Name → Walk → Walk
local_if None w = nameless w
local_if (Some name) w = local name w

abbrev pub name_of : Parameter → Option Name
name_of (parameter.Plain at base stars name bounds) = name
name_of (parameter.OwnPointer at name) = None
name_of (parameter.OwnValue at name) = None

-- a parameter of a function that has a body here
unfoldable pub own_parameter : Parameter → Way
own_parameter p constants w = local_if (name_of p) (parameter_bounds p constants w)

-- the name of a function, which belongs to the text where it belongs to no adt
unfoldable pub function_if : Option Owner → Name → Walk → Walk
function_if None name w = function name w
function_if (Some owner) name w = w

unfoldable pub prototype : Head → Way
prototype h constants w = each parameter_bounds h.parameters constants (function_if h.owner h.name w)

-- ---- globals

abbrev pub initializer_step : Initializer-F Way → Way
initializer_step (Initializer-F.Value e) = expr e
initializer_step (Initializer-F.Braces at parts) = all parts

unfoldable pub initializer : Initializer → Way
initializer = fold-Initializer Way initializer_step

unfoldable pub declarator_way : Declarator → Way
declarator_way (declarator.Global dcl value) constants w = optional initializer value constants (global dcl.name (dcl_bounds dcl constants w))
declarator_way (declarator.Function h) constants w = prototype h constants w

-- ---- members

abbrev pub member_step : Member-F Way → Way
member_step (Member-F.Fields at base fields) = λ constants w. each dcl_bounds fields constants (type_tree base constants w)
member_step (Member-F.Unnamed at of) = type_tree of
member_step (Member-F.Inner at kind members) = all members

unfoldable pub member : Member → Way
member = fold-Member Way member_step

unfoldable pub adt_part : AdtPart → Way
adt_part (adt.Data m) constants w = member m constants w
adt_part (adt.Function base stars name parameters) constants w = each parameter_bounds parameters constants (type_tree base constants w)

abbrev pub adt_member : AdtMember → Way
adt_member m = adt_part m.part

-- ---- enum constants

-- the value that the text gives for the constant of that number is constant
unfoldable pub valued : Option Expr → Way
valued None constants w = w
valued (Some e) constants w = asked (ask 22 (place e) (is_constant_value (Some e) (slice_get constants (length w.constants)))) (expr e constants w)

unfoldable pub enum_constant : Constant → Way
enum_constant c constants w = constant c.name (valued c.value constants w)

-- ---- items

-- a function with its body
unfoldable pub defined : List Parameter → Way → Way
defined parameters a constants w = body (λ u. a constants (each own_parameter parameters constants u)) w

unfoldable pub item_way : Item → Way
item_way (item.Typedef at base dcl) constants w = dcl_bounds dcl constants (type_tree base constants w)
item_way (item.FunctionType at base stars name parameters) constants w = each parameter_bounds parameters constants (type_tree base constants w)
item_way (item.Forward at kind name) constants w = w
item_way (item.Aggregate at kind name members) constants w = each member members constants w
item_way (item.Adt at name parameters members) constants w = each adt_member members constants w
item_way (item.Enum at name list) constants w = each enum_constant list constants w
item_way (item.Declare at scope base declarators) constants w = each declarator_way declarators constants (type_tree base constants w)
item_way (item.Function at scope base head block) constants w =
    defined head.parameters (stmt block) constants (function_if head.owner head.name (type_tree base constants w))

-- ---- a text

unfoldable pub scopes_of : List EnumConstant → Walk → Scopes
scopes_of constants w = record {
  constants = record { list = constants };
  globals = w.globals;
  functions = w.functions;
  names = w.names;
}

-- what the names of a text stand for
unfoldable pub resolved : Tree → Outcome Scopes
resolved tree =
    let constants = values tree.items in
    let w = each item_way tree.items constants (begun tree.names) in
    judge w.faults (scopes_of constants w)
