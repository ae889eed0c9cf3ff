use Rattle.std.proofs.Common.{take}
use Rattle.al_walk_calls.specs.Fits.{AreSmall}
use Rattle.al_walk_calls.proofs.rows.are_small.Given as goal

abbrev pub invariant-loop-local : goal.invariant-loop-local
invariant-loop-local l = AreSmall l.p (take l.local-index l.locals)
