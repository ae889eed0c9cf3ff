use Rattle.std.proofs.Common.{◌≡◌}
use Rattle.store_lock.proofs.lock.StoreLock.wait_for.Given as goal

-- a look and a miss change nothing
abbrev pub invariant-loop : goal.invariant-loop
invariant-loop g l = (l.seat.table_id ≡ l.initial.seat.table_id) × (l.seat.me ≡ l.initial.seat.me)
