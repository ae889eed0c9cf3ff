use Rattle.std.proofs.Common.{◌≡◌, ◌++◌, drop}
use Rattle.rv_asm.specs.Asm.{instructions_of, instructions_from}
use Rattle.rv_emit_longs.proofs.routines.add_lines.Given as goal

abbrev pub invariant-loop-line : goal.invariant-loop-line
invariant-loop-line l = l.code.items ++ instructions_from l.lines l.line-index (drop l.line-index l.lines) ≡ l.fn.code.items ++ instructions_of l.lines
