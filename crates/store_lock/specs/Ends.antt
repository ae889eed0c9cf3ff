-- What only the calls inside the lock say: a seat that may grab, and the value that is taken out.
use Rattle.std.specs.Prelude.{◌≡◌, ℕ, ◌<◌, ◌≤◌, List, [], ◌++◌, Option as Maybe, None}
use Rattle.std.specs.List.{All}
use base.Stored.{Gv}
use Rattle.atomic_table.specs.Seated.{TableId}
use Rattle.atomic_table.specs.declared.shared.Seat.{Seat}
use Rattle.al_event.specs.declared.entry.Entry.{Entry}
use Rattle.al_event.specs.declared.entry.Loan.{Loan}
use Rattle.store_lock.specs.declared.known.Share.{Share}
use Rattle.store_lock.specs.declared.known.View.{View}
use Rattle.store_lock.specs.Rule.{resting, Fits}

-- the seat is one of this table, has one share and holds no turn
pub record IsReady {S : Type 0} (table : TableId) (seat : Seat S View) : Type 0 where
  pub table_is : seat.table_id ≡ table
  pub share : Share
  pub me : seat.me ≡ (resting share seat.me.0.seen, [])

-- what is known of the last value by one who has these shares
module _ {V F : Type 0} (memo : V → Gv) (entries : V → List Entry) (fixed : V → F) (lent : V → ℕ → Maybe Loan) where
  pub record Ends (origin : V) (seats : ℕ) (value : V) (shares : List Share) : Type 0 where
    pub fixed_is : fixed value ≡ fixed origin
    pub since : List Entry
    pub grown : entries value ≡ entries origin ++ since
    pub workers : All (λ e. e.worker < seats) since
    pub unlent : (m : ℕ) → seats ≤ m → lent value m ≡ None
    pub each : All (Fits memo entries fixed lent origin value since) shares
