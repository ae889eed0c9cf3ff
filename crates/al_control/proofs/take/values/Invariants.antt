use Rattle.std.proofs.Common.{◌≡◌, ◌-◌, ℕ, List}
use Rattle.al_meaning.specs.Here as step
use Rattle.al_control.specs.Models.{here_of}
use Rattle.al_control.proofs.take.values.Given as goal

abbrev pub invariant-loop : goal.invariant-loop
invariant-loop l = record {
  taken :
      (k : List (List ℕ) → step.Here → step.Next)
      → step.with_values l.count (here_of l.fn.h) k ≡ step.words_before (l.count - l.counter) l.values (here_of l.h) k;
  keeps : l.h.program.now ≡ l.fn.h.program.now;
}
