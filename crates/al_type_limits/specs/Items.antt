-- The types that items write, and what their typedefs add to the names of types.
use Rattle.std.specs.Prelude.{List, [], fold, nat_eq}
use Rattle.indexmap.specs.IndexMap.{insert_entry}
use Rattle.al_tree.specs.declared.type_tree.Dcl.{Dcl}
use Rattle.al_tree.specs.declared.item.Head.{Head}
use Rattle.al_tree.specs.declared.item.Member.{Member, fold-Member}
use Rattle.al_tree.specs.declared.item.Member.TheOpen.{Member-F}
use Rattle.al_tree.specs.declared.item.AdtPart.{AdtPart}
use Rattle.al_tree.specs.declared.item.AdtPart.TheVariants as part
use Rattle.al_tree.specs.declared.item.AdtMember.{AdtMember}
use Rattle.al_tree.specs.declared.item.Constant.{Constant}
use Rattle.al_tree.specs.declared.item.Initializer.{Initializer, fold-Initializer}
use Rattle.al_tree.specs.declared.item.Initializer.TheOpen.{Initializer-F}
use Rattle.al_tree.specs.declared.item.Declarator.{Declarator}
use Rattle.al_tree.specs.declared.item.Declarator.TheVariants as declarator
use Rattle.al_tree.specs.declared.item.Item.{Item}
use Rattle.al_tree.specs.declared.item.Item.TheVariants as item
use Rattle.al_type_limits.specs.declared.size.Size.{Size}
use Rattle.al_type_limits.specs.declared.item.Found.{Found}
use Rattle.al_type_limits.specs.Sizes.{nothing, beside, above}
use Rattle.al_type_limits.specs.Types.{Names, type_size, with_type, declared, function_size}
use Rattle.al_type_limits.specs.Expressions.{Way, each, all, optional, expr}
use Rattle.al_type_limits.specs.Statements.{stmt}

-- a declarator behind a base type
abbrev pub field : Size → Dcl → Way
field base dcl sum = beside sum (declared base dcl)

module _ (names : Names) where
  abbrev pub member_step : Member-F Way → Way
  member_step (Member-F.Fields at base fields) = each (field (type_size names base)) fields
  member_step (Member-F.Unnamed at of) = λ sum. with_type names sum of
  member_step (Member-F.Inner at kind members) = all members

  unfoldable pub member : Member → Way
  member = fold-Member Way member_step

  abbrev pub head_size : Size → Head → Size
  head_size base head = function_size names (above head.stars base) head.parameters

  unfoldable pub adt_part : AdtPart → Way
  adt_part (part.Data m) sum = member m sum
  adt_part (part.Function base stars name list) sum = beside sum (function_size names (above stars (type_size names base)) list)

  abbrev pub adt_member : AdtMember → Way
  adt_member m = adt_part m.part

  abbrev pub initializer_step : Initializer-F Way → Way
  initializer_step (Initializer-F.Value e) = expr names e
  initializer_step (Initializer-F.Braces at parts) = all parts

  unfoldable pub initializer : Initializer → Way
  initializer = fold-Initializer Way initializer_step

  unfoldable pub declarator_way : Size → Declarator → Way
  declarator_way base (declarator.Global dcl value) sum = optional initializer value (beside sum (declared base dcl))
  declarator_way base (declarator.Function head) sum = beside sum (head_size base head)

  abbrev pub enum_constant : Constant → Way
  enum_constant c = optional (expr names) c.value

  unfoldable pub item_way : Item → Way
  item_way (item.Typedef at base dcl) sum = beside sum (declared (type_size names base) dcl)
  item_way (item.FunctionType at base stars name list) sum = beside sum (function_size names (above stars (type_size names base)) list)
  item_way (item.Forward at kind name) sum = sum
  item_way (item.Aggregate at kind name members) sum = each member members sum
  item_way (item.Adt at name parameters members) sum = each adt_member members sum
  item_way (item.Enum at name constants) sum = each enum_constant constants sum
  item_way (item.Declare at scope base declarators) sum = each (declarator_way (type_size names base)) declarators sum
  item_way (item.Function at scope base head body) sum = stmt names body (beside sum (head_size (type_size names base) head))

  -- what names stand for behind an item
  unfoldable pub with_name : Item → Names
  with_name (item.Typedef at base dcl) = insert_entry nat_eq names dcl.name.name (declared (type_size names base) dcl)
  with_name (item.FunctionType at base stars name list) = insert_entry nat_eq names name.name (function_size names (above stars (type_size names base)) list)
  with_name (item.Forward at kind name) = names
  with_name (item.Aggregate at kind name members) = names
  with_name (item.Adt at name parameters members) = names
  with_name (item.Enum at name constants) = names
  with_name (item.Declare at scope base declarators) = names
  with_name (item.Function at scope base head body) = names

abbrev pub with_item : Found → Item → Found
with_item found i = record { names = with_name found.names i; sum = item_way found.names i found.sum }

-- the size of all types of a text
unfoldable pub written : List Item → Size
written items = (fold with_item (record { names = []; sum = nothing }) items).sum
