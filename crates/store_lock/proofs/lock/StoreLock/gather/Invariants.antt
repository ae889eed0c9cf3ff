use Rattle.std.proofs.Common.{vec_len}
use Rattle.store_lock.proofs.Members.{HasGathered}
use Rattle.store_lock.proofs.lock.StoreLock.gather.Given as goal

abbrev pub invariant-loop-pass : goal.invariant-loop-pass
invariant-loop-pass g l = HasGathered g.V.Kept.memo l.self l.fn.passes.items l.passes.items l.seat

abbrev pub decreases-loop-pass : goal.decreases-loop-pass
decreases-loop-pass g l = vec_len l.passes
