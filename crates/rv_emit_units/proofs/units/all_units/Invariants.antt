use Rattle.std.proofs.Common.{◌≡◌, ◌+◌, ◌^◌, ◌≤◌, ◌++◌, drop, length}
use Rattle.al_ir.specs.Units.{units_in}
use Rattle.rv_form.specs.Units.{runs_code}
use Rattle.rv_emit_units.specs.Ways.{way_of}
use Rattle.rv_emit_units.proofs.units.all_units.Given as goal

abbrev pub invariant-loop-run : goal.invariant-loop-run
invariant-loop-run l = record {
  words : l.word + length (units_in (drop l.run-index l.runs)) ≤ 2 ^ 19;
  code : l.code.items ++ runs_code (way_of l.way) (drop l.run-index l.runs) l.word ≡ l.fn.code.items ++ runs_code (way_of l.way) l.runs l.k;
}
