use Rattle.std.proofs.Common.{take}
use Rattle.al_core.specs.Preparing.{AreBegun}
use Rattle.al_core.proofs.births.all_begun.Given as goal

abbrev pub invariant-loop-start : goal.invariant-loop-start
invariant-loop-start l = AreBegun l.image (take l.start-index l.starts) l.all.items
