use Rattle.std.proofs.Common.{◌≡◌, ◌+◌, ◌*◌, ◌^◌, ◌≤◌, ◌++◌}
use Rattle.rv_form.specs.Units.{zero_from}
use Rattle.rv_emit_units.proofs.zeros.zero_from.Given as goal

abbrev pub invariant-loop-left : goal.invariant-loop-left
invariant-loop-left l = record {
  offsets : l.at + 4 * l.left ≤ 2 ^ 20;
  code : l.code.items ++ zero_from l.at l.left ≡ l.fn.code.items ++ zero_from l.offset l.count;
}

abbrev pub decreases-loop-left : goal.decreases-loop-left
decreases-loop-left l = l.left
