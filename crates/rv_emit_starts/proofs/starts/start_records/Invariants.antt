use Rattle.std.proofs.Common.{◌≡◌, ◌+◌, ◌*◌, ◌++◌, drop}
use Rattle.rv_form.specs.Acts.{start_records}
use Rattle.rv_emit_starts.proofs.starts.start_records.Given as goal

abbrev pub invariant-loop-function : goal.invariant-loop-function
invariant-loop-function l = record {
  place : l.at ≡ l.k + 3 * l.function-index;
  code : l.code.items ++ start_records l.arguments l.words (drop l.function-index l.functions) l.at ≡ l.fn.code.items ++ start_records l.arguments l.words l.functions l.k;
}
