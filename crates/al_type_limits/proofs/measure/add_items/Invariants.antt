use Rattle.std.proofs.Common.{◌≡◌, drop, fold}
use Rattle.al_type_limits.specs.Items.{with_item}
use Rattle.al_type_limits.proofs.measure.add_items.Given as goal

abbrev pub invariant-loop-i : goal.invariant-loop-i
invariant-loop-i l = fold with_item l.fn.found l.items ≡ fold with_item l.found (drop l.i-index l.items)
