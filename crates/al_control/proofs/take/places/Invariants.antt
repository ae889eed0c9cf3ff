use Rattle.std.proofs.Common.{◌≡◌, ◌-◌, [], List, map}
use Rattle.al_meaning.specs.Here as step
use Rattle.al_meaning.specs.Items as item
use Rattle.al_control.specs.Models.{found_of, here_of}
use Rattle.al_control.proofs.take.places.Given as goal

abbrev pub invariant-loop : goal.invariant-loop
invariant-loop l = record {
  taken :
      (k : List item.Found → step.Here → step.Next)
      → step.places_before l.count [] (here_of l.fn.h) k ≡ step.places_before (l.count - l.counter) (map found_of l.places) (here_of l.h) k;
  keeps : l.h.program.now ≡ l.fn.h.program.now;
}
