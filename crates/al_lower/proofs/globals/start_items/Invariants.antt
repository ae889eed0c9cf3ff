use Rattle.std.proofs.Common.{◌≡◌, map, take}
use Rattle.al_lower_code.specs.Functions.{start_item}
use Rattle.al_lower.proofs.globals.start_items.Given as goal

abbrev pub invariant-loop-start : goal.invariant-loop-start
invariant-loop-start l = l.items ≡ map (start_item l.p) (take l.start-index l.starts)
