use Rattle.std.proofs.Common.{◌-◌, ◌≡◌, ◌<◌, vec_capacity}
use Rattle.store_lock.proofs.Members.{HasDealt}
use Rattle.store_lock.proofs.lock.StoreLock.deal.Given as goal

abbrev pub invariant-loop-number : goal.invariant-loop-number
invariant-loop-number g l = HasDealt g.V.Kept.memo g.V.Kept.entries l.self l.number l.passes.items l.seat × (vec_capacity l.passes ≡ vec_capacity l.initial.passes) × (l.number < l.seats)

abbrev pub decreases-loop-number : goal.decreases-loop-number
decreases-loop-number g l = l.seats - l.number
