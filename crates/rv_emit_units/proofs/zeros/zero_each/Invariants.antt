use Rattle.std.proofs.Common.{◌≡◌, ◌+◌, ◌^◌, ◌≤◌, ◌++◌}
use Rattle.rv_regs.specs.Homes.{home_at}
use Rattle.rv_form.specs.Units.{zero_each}
use Rattle.rv_emit_units.proofs.zeros.zero_each.Given as goal

abbrev pub invariant-loop-left : goal.invariant-loop-left
invariant-loop-left l = record {
  slots : l.slot + l.left ≤ 2 ^ 20;
  code : l.code.items ++ zero_each (home_at l.homes) l.slot l.left ≡ l.fn.code.items ++ zero_each (home_at l.homes) l.from l.count;
}

abbrev pub decreases-loop-left : goal.decreases-loop-left
decreases-loop-left l = l.left
