-- What clauses name of a lock.
use Rattle.std.specs.Prelude.{ℕ}
use Rattle.atomic_table.specs.Seated.{TableId}
use Rattle.store_lock.specs.declared.lock.StoreLock.{StoreLock}

module _ {V F : Type 0} where
  -- what no other lock shares with this one
  abbrev pub lock_id : StoreLock V F → TableId
  lock_id lock = lock.table.shared.table_id

  -- the value that the lock was made with
  abbrev pub lock_origin : StoreLock V F → V
  lock_origin lock = lock.table.shared.key.origin.value

  -- how many passes it has
  abbrev pub lock_seats : StoreLock V F → ℕ
  lock_seats lock = lock.table.shared.key.seats
