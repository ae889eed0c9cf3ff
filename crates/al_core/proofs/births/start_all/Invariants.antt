use Rattle.std.proofs.Common.{length}
use Rattle.al_core.specs.Preparing.{StartsAll}
use Rattle.al_core.proofs.Parting.{IsGrown}
use Rattle.al_core.proofs.births.start_all.Given as goal

abbrev pub invariant-loop-begun : goal.invariant-loop-begun
invariant-loop-begun l = record {
  started : StartsAll l.slot l.yielded l.initial.tasks l.tasks;
  grown : IsGrown l.slot (length l.yielded) l.initial.tasks l.tasks;
}
