use Rattle.std.proofs.Common.{◌≡◌, ◌++◌, map, Some, drop}
use Rattle.rv_isa.specs.Table.{instruction_of}
use Rattle.rv_encode.proofs.words.words_of.Given as goal

abbrev pub invariant-loop-instr : goal.invariant-loop-instr
invariant-loop-instr l = map instruction_of l.words ++ map Some (drop l.instr-index l.instrs) ≡ map Some l.instrs
