use Rattle.std.proofs.Common.{◌≡◌, ℕ, ◌≤◌, ◌++◌, map, Some, All, drop, vec_len}
use Rattle.rv_isa.specs.Table.{instruction_of, InRange}
use Rattle.rv_asm.specs.Asm.{instructions_of, instructions_from}
use Rattle.rv_asm.proofs.assembler.assemble.Given as goal

-- the words so far, and the instructions of the rest
abbrev pub invariant-loop-line : goal.invariant-loop-line
invariant-loop-line l = record {
  told : map instruction_of l.words.items ++ map Some (instructions_from l.lines (vec_len l.words) (drop l.line-index l.lines)) ≡ map Some (instructions_of l.lines);
  ranged : All InRange (instructions_from l.lines (vec_len l.words) (drop l.line-index l.lines));
  near : vec_len l.words ≤ l.line-index;
}
