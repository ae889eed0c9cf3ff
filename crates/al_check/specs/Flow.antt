-- The rules of jumps, which are asked of the text once: also of functions of adts with parameters that have no instance.
use Rattle.std.specs.Prelude.{List, map, Option, Some, None}
use Rattle.al_tree.specs.declared.statement.Stmt.{Stmt}
use Rattle.al_tree.specs.declared.item.Item.{Item}
use Rattle.al_tree.specs.declared.item.Item.TheVariants as item
use Rattle.al_rules.specs.Outcome.{Outcome, Good, and_then}
use Rattle.al_flow.specs.declared.target.Target.{Target}
use Rattle.al_flow.specs.Flow.{targets}
use Rattle.al_type_expr.specs.Lists.{each}

abbrev pub body_targets : Stmt → Outcome (Option (List Target))
body_targets body = and_then (targets body) (λ ts. Good (Some ts))

unfoldable pub item_targets : Item → Outcome (Option (List Target))
item_targets (item.Function at scope base head body) = body_targets body
item_targets _ = Good None

abbrev pub all_targets : List Item → Outcome (List (Option (List Target)))
all_targets items = each (map item_targets items)
