-- What items declare, and of which of their parts the rules are asked.
--
-- The functions of an adt are named as its members, and are no names at file level.
use Rattle.std.specs.Prelude.{ℕ, Bool, true, false, is_some, List, [], ◌∷◌, Option, None, Some}
use Rattle.al_base.specs.declared.place.Place.{Place}
use Rattle.al_tree.specs.declared.expression.Name.{Name}
use Rattle.al_tree.specs.declared.type_tree.Bound.{Bound}
use Rattle.al_tree.specs.declared.type_tree.Dcl.{Dcl}
use Rattle.al_tree.specs.declared.item.Parameter.{Parameter}
use Rattle.al_tree.specs.declared.item.Parameter.TheVariants as parameter
use Rattle.al_tree.specs.declared.item.Head.{Head}
use Rattle.al_tree.specs.declared.item.Owner.{Owner}
use Rattle.al_tree.specs.declared.item.Initializer.{Initializer, fold-Initializer}
use Rattle.al_tree.specs.declared.item.Initializer.TheOpen.{Initializer-F}
use Rattle.al_tree.specs.declared.item.Declarator.{Declarator}
use Rattle.al_tree.specs.declared.item.Declarator.TheVariants as declarator
use Rattle.al_tree.specs.declared.item.Member.{Member, fold-Member}
use Rattle.al_tree.specs.declared.item.Member.TheOpen.{Member-F}
use Rattle.al_tree.specs.declared.item.AdtPart.{AdtPart}
use Rattle.al_tree.specs.declared.item.AdtPart.TheVariants as adt
use Rattle.al_tree.specs.declared.item.AdtMember.{AdtMember}
use Rattle.al_tree.specs.declared.item.Constant.{Constant}
use Rattle.al_tree.specs.declared.item.Item.{Item}
use Rattle.al_tree.specs.declared.item.Item.TheVariants as item
use Rattle.al_tree.specs.declared.item.Tree.{Tree}
use Rattle.al_tree.specs.declared.statement.Stmt.{Stmt}
use Rattle.std.specs.Map.{lookup}
use Rattle.std.specs.Prelude.{nat_eq}
use Rattle.al_rules.specs.Outcome.{Outcome, ask, judge}
use Rattle.al_declare.specs.declared.asked.What.TheVariants as what
use Rattle.al_declare.specs.Rules.{rule_12_own, rule_15_list}
use Rattle.al_declare.specs.Asking.{asked, local, what_of, declared, file_name, inner, text_of, begun}
use Rattle.al_declare.specs.Types.{Way, each, all, optional, bound, type_tree, dcl_bounds}
use Rattle.al_declare.specs.Expressions.{expr}
use Rattle.al_declare.specs.Statements.{body}

-- ---- parameters

-- an array parameter's first bound may be missing
abbrev pub first_bound : Place → Option Bound → Way
first_bound at b = optional (bound at) b

-- 17. The others may not.
abbrev pub later_bound : Place → Option Bound → Way
later_bound at None text w = asked (ask 17 at false) w
later_bound at (Some b) text w = bound at b text w

unfoldable pub parameter_bounds : Place → List (Option Bound) → Way
parameter_bounds at [] text w = w
parameter_bounds at (b ∷ bounds) text w = each (later_bound at) bounds text (first_bound at b text w)

abbrev pub local_if : Option Name → Way
local_if None text w = w
local_if (Some name) text w = local name text w

-- a parameter, where one of its own may stand in a function of that adt
unfoldable pub parameter_way : Option ℕ → Parameter → Way
parameter_way own (parameter.Plain at base stars name bounds) text w = local_if name text (parameter_bounds at bounds text (type_tree base text w))
parameter_way own (parameter.OwnPointer at name) text w = asked (ask 12 at (rule_12_own own name)) w
parameter_way own (parameter.OwnValue at name) text w = asked (ask 12 at (rule_12_own own name)) w

-- a list of parameters, where one of its own may stand first in a function of that adt
unfoldable pub parameters : Option ℕ → List Parameter → Way
parameters own [] text w = w
parameters own (p ∷ ps) text w = each (parameter_way None) ps text (parameter_way own p text w)

-- one that is a scope of its own
abbrev pub scope_of_parameters : Option ℕ → List Parameter → Way
scope_of_parameters own ps text w = inner (parameters own ps text) w

-- ---- functions

-- the name of a function, which belongs to the text where it belongs to no adt
unfoldable pub function_if : (has_body : Bool) → Option Owner → Name → Way
function_if has_body None name text w = file_name name (declared what.Function has_body) text w
function_if has_body (Some owner) name text w = w

-- a function without a body
unfoldable pub prototype : Head → Way
prototype h text w = scope_of_parameters None h.parameters text (function_if false h.owner h.name text w)

-- 15. of a definition at a place
unfoldable pub owner_of_definition : Place → Option Owner → Way
owner_of_definition at None text w = w
owner_of_definition at (Some owner) text w = asked (ask 15 at (rule_15_list (lookup (nat_eq owner.adt.name) text.adts) owner.parameters)) w

-- a function with its body
abbrev pub scope_of_definition : List Parameter → Stmt → Way
scope_of_definition ps s text w = inner (λ u. body s text (parameters None ps text u)) w

unfoldable pub definition : Head → Stmt → Way
definition h s text w = scope_of_definition h.parameters s text (owner_of_definition h.at h.owner text (function_if true h.owner h.name text w))

-- ---- globals

abbrev pub initializer_step : Initializer-F Way → Way
initializer_step (Initializer-F.Value e) = expr e
initializer_step (Initializer-F.Braces at parts) = all parts

unfoldable pub initializer : Initializer → Way
initializer = fold-Initializer Way initializer_step

abbrev pub global : Dcl → Option Initializer → Way
global dcl value text w = optional initializer value text (file_name dcl.name (declared what.Global (is_some value)) text (dcl_bounds dcl text w))

unfoldable pub declarator_way : Declarator → Way
declarator_way (declarator.Global dcl value) text w = global dcl value text w
declarator_way (declarator.Function h) text w = prototype h text w

-- ---- members

abbrev pub member_step : Member-F Way → Way
member_step (Member-F.Fields at base fields) = λ text w. each dcl_bounds fields text (type_tree base text w)
member_step (Member-F.Unnamed at of) = type_tree of
member_step (Member-F.Inner at kind members) = all members

unfoldable pub member : Member → Way
member = fold-Member Way member_step

-- of the adt of that name
unfoldable pub adt_part : ℕ → AdtPart → Way
adt_part own (adt.Data m) text w = member m text w
adt_part own (adt.Function base stars name ps) text w = scope_of_parameters (Some own) ps text (type_tree base text w)

abbrev pub adt_member : ℕ → AdtMember → Way
adt_member own m = adt_part own m.part

-- the parameters of an adt
abbrev pub adt_parameters : List Name → Way
adt_parameters names text w = inner (each local names text) w

-- ---- enum constants

-- the name of what is declared once
abbrev pub other : Name → Way
other name text w = file_name name (declared what.Other false) text w

unfoldable pub enum_constant : Constant → Way
enum_constant c text w = other c.name text (optional expr c.value text w)

abbrev pub enum_name : Option Name → Way
enum_name None text w = w
enum_name (Some name) text w = other name text w

-- ---- items

unfoldable pub item_way : Item → Way
item_way (item.Typedef at base dcl) text w = other dcl.name text (dcl_bounds dcl text (type_tree base text w))
item_way (item.FunctionType at base stars name ps) text w = other name text (scope_of_parameters None ps text (type_tree base text w))
item_way (item.Forward at kind name) text w = file_name name (declared (what_of kind) false) text w
item_way (item.Aggregate at kind name members) text w = each member members text (file_name name (declared (what_of kind) true) text w)
item_way (item.Adt at name ps members) text w = each (adt_member name.name) members text (adt_parameters ps text (file_name name (declared what.Adt true) text w))
item_way (item.Enum at name list) text w = each enum_constant list text (enum_name name text w)
item_way (item.Declare at scope base declarators) text w = each declarator_way declarators text (type_tree base text w)
item_way (item.Function at scope base head block) text w = definition head block text (type_tree base text w)

-- ---- a text

-- a text in which no declaration breaks one of these rules
unfoldable pub names_hold : Tree → Outcome Unit
names_hold tree = judge (each item_way tree.items (text_of tree) begun).faults tt
