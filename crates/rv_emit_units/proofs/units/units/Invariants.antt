use Rattle.std.proofs.Common.{◌≡◌, ◌+◌, ◌*◌, ◌^◌, ◌≤◌, ◌++◌}
use Rattle.rv_form.specs.Units.{units_code}
use Rattle.rv_emit_units.specs.Ways.{way_of}
use Rattle.rv_emit_units.proofs.units.units.Given as goal

abbrev pub invariant-loop-left : goal.invariant-loop-left
invariant-loop-left l = record {
  offsets : l.at + 256 * l.left ≤ 2 ^ 20;
  words : l.word + l.left ≤ 2 ^ 20;
  code : l.code.items ++ units_code (way_of l.way) l.size l.at l.word l.left ≡ l.fn.code.items ++ units_code (way_of l.way) l.size l.offset l.k l.count;
}

abbrev pub decreases-loop-left : goal.decreases-loop-left
decreases-loop-left l = l.left
