-- Expressions in items, and in a whole text: also in adts with parameters that have no instance. Types, members, parameters and
-- bounds have none; a name in a bound is that of an enum constant.
use Rattle.std.specs.Prelude.{ℕ, List, []}
use Rattle.al_tree.specs.declared.item.Initializer.{Initializer, fold-Initializer}
use Rattle.al_tree.specs.declared.item.Initializer.TheOpen.{Initializer-F}
use Rattle.al_tree.specs.declared.item.Declarator.{Declarator}
use Rattle.al_tree.specs.declared.item.Declarator.TheVariants as declarator
use Rattle.al_tree.specs.declared.item.Constant.{Constant}
use Rattle.al_tree.specs.declared.item.Item.{Item}
use Rattle.al_tree.specs.declared.item.Item.TheVariants as item
use Rattle.al_tree.specs.declared.item.Tree.{Tree}
use Rattle.al_rules.specs.Outcome.{Outcome, judge}
use Rattle.al_called.specs.Expressions.{Way, each, optional, expr}
use Rattle.al_called.specs.Statements.{all, stmt}

-- The names of a text.
module _ (names : List (List ℕ)) where
  abbrev pub initializer_step : Initializer-F Way → Way
  initializer_step (Initializer-F.Value e) = expr names e
  initializer_step (Initializer-F.Braces at parts) = all parts

  -- the value that a global starts with
  unfoldable pub initializer : Initializer → Way
  initializer = fold-Initializer Way initializer_step

  unfoldable pub declarator_way : Declarator → Way
  declarator_way (declarator.Global dcl value) faults = optional initializer value faults
  declarator_way (declarator.Function head) faults = faults

  abbrev pub enum_constant : Constant → Way
  enum_constant c = optional (expr names) c.value

  unfoldable pub item_way : Item → Way
  item_way (item.Typedef at base dcl) faults = faults
  item_way (item.FunctionType at base stars name parameters) faults = faults
  item_way (item.Forward at kind name) faults = faults
  item_way (item.Aggregate at kind name members) faults = faults
  item_way (item.Adt at name parameters members) faults = faults
  item_way (item.Enum at name constants) faults = each enum_constant constants faults
  item_way (item.Declare at scope base declarators) faults = each declarator_way declarators faults
  item_way (item.Function at scope base head body) faults = stmt names body faults

-- 9. of print and terminate: a text in which their names are only called, or each place where one is not, in text order
unfoldable pub names_are_called : Tree → Outcome Unit
names_are_called tree = judge (each (item_way tree.names) tree.items []) tt
