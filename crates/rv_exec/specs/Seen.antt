-- The hart that a `State` of the program stands for, and the private globals of a list of words.
use Rattle.std.specs.Prelude.{ℕ, List, slice_index, Option, Some, None}
use Rattle.al_event.specs.declared.act.Act.{Act}
use Rattle.rv_exec.specs.declared.state.State.{State}
use Rattle.rv_exec.specs.Hart.{Hart}
use Rattle.rv_exec.specs.Calls.{Privates, Move, Goes, Asks}

-- words by their number; past the end they are 0
abbrev pub words_of : List ℕ → ℕ → ℕ
words_of words = λ n. slice_index words n

abbrev pub seen : State → Hart
seen s = record {
  pc = s.pc;
  registers = words_of s.registers;
  stack = words_of s.stack.items;
  text = s.text.items;
  waits = s.waits;
  jumps = s.jumps;
  work = s.work;
}

-- what an instruction did, by what it asked and the hart behind it
abbrev pub move_of : Option Act → Hart → Privates → Move
move_of None h p = Goes h p
move_of (Some act) h p = Asks act h p
