use Rattle.std.proofs.Common.{◌≡◌, map, drop}
use Rattle.al_rules.specs.Outcome.{preceded}
use Rattle.al_type_expr.specs.Lists.{each}
use Rattle.al_check.specs.Flow.{item_targets}
use Rattle.al_check.proofs.flow.all_targets.Given as goal

abbrev pub invariant-loop-item : goal.invariant-loop-item
invariant-loop-item l = each (map item_targets l.items) ≡ preceded l.done (each (map item_targets (drop l.item-index l.items)))
