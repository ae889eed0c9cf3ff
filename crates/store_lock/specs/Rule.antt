-- The rule of the lock's table, which holds between any two atomic steps.
-- The word is twice the number of entries of the value's history, plus one while a worker holds the turn.
use Rattle.std.specs.Prelude.{◌≡◌, ℕ, zero, suc, ◌+◌, ◌<◌, ◌≤◌, ◌==◌, cond, List, [], ◌∷◌, ◌++◌, length, slice_index_or, Option as Maybe, Some, None}
use Rattle.std.specs.List.{All, filter}
use mathlib.Core.Option.{Option, none, some}
use mathlib.Core.List.{IsPrefix}
use lib.ListN.{get_elem?}
use base.Stored.{Gv}
use Rattle.atomic_table.specs.Table.{State}
use Rattle.al_event.specs.declared.entry.Entry.{Entry}
use Rattle.al_event.specs.declared.entry.Loan.{Loan}
use Rattle.store_lock.specs.declared.known.Share.{Share}
use Rattle.store_lock.specs.declared.known.View.{View}

-- the entries that the worker k made, in order
abbrev pub entries_by : ℕ → List Entry → List Entry
entries_by k es = filter (λ e. e.worker == k) es

abbrev pub share : ℕ → Gv → List Entry → Maybe Loan → Share
share k origin own loan = record { number = k; origin = origin; own = own; loan = loan }

abbrev pub view : List Share → List Entry → Maybe Gv → View
view shares seen taken = record { shares = shares; seen = seen; taken = taken }

-- a seat with one share, which holds no turn
abbrev pub resting : Share → List Entry → View
resting s seen = view (s ∷ []) seen None

-- what is left to a seat that was joined to another
abbrev pub spent : View
spent = view [] [] None

-- the shares of n workers from number k on, none of which has done anything
abbrev pub new_shares : Gv → ℕ → ℕ → List Share
new_shares origin k zero = []
new_shares origin k (suc n) = share k origin [] None ∷ new_shares origin (suc k) n

-- the first seat has the shares of all workers
abbrev pub opening_view : Gv → List Entry → ℕ → View
opening_view origin base seats = view (new_shares origin 0 seats) base None

-- The worker that holds the turn, if any, goes by its number. `seat_of` gives the seat that a worker's share lies in.
abbrev pub word_of : Option ℕ → ℕ → ℕ
word_of none n = n + n
word_of (some m) n = suc (n + n)

abbrev pub home_of : {V : Type 0} → Option ℕ → V → Option (Maybe V)
home_of none v = some (Some v)
home_of (some m) v = none

-- the holder's seat has taken the value, and no other seat has taken any
abbrev pub taken_at : Option ℕ → (ℕ → ℕ) → Gv → ℕ → Maybe Gv
taken_at none seat_of memo j = None
taken_at (some m) seat_of memo j = cond (seat_of m == j) (Some memo) None

-- the holder is one of the workers, and its seat one of the table's
abbrev pub IsSeated : Option ℕ → (ℕ → ℕ) → ℕ → ℕ → Type 0
IsSeated none seat_of seats count = Unit {0}
IsSeated (some m) seat_of seats count = (m < seats) × (seat_of m < count)

module _ {V F : Type 0} (memo : V → Gv) (entries : V → List Entry) (fixed : V → F) (lent : V → ℕ → Maybe Loan) where
  -- the value is as the share says, where `since` is its history without the base
  pub record Fits (origin : V) (value : V) (since : List Entry) (s : Share) : Type 0 where
    pub origin_is : s.origin ≡ memo origin
    pub own_is : entries_by s.number since ≡ s.own
    pub loan_is : lent value s.number ≡ s.loan

  -- the share lies in the seat j, and in no other
  pub record LiesIn (origin : V) (seats : ℕ) (value : V) (since : List Entry) (seat_of : ℕ → ℕ) (j : ℕ) (s : Share) : Type 0 where
    pub fits : Fits origin value since s
    pub here : seat_of s.number ≡ j
    pub below : s.number < seats

  -- what the seat j knows is so
  pub record Knows (origin : V) (seats : ℕ) (value : V) (since : List Entry) (holder : Option ℕ) (seat_of : ℕ → ℕ) (j : ℕ) (v : View) : Type 0 where
    pub taken_is : v.taken ≡ taken_at holder seat_of (memo value) j
    pub longer : IsPrefix v.seen (entries value)
    pub shares : All (LiesIn origin seats value since seat_of j) v.shares

  -- `value` is the value at home or the one that the holder took; its history is the base and then `since`
  pub record IsHeld (origin : V) (seats : ℕ) (holder : Option ℕ) (s : State (Maybe V) View) : Type 0 where
    pub value : V
    pub since : List Entry
    pub seat_of : ℕ → ℕ
    pub word : s.words ≡ word_of holder (length (entries value)) ∷ []
    pub home : s.homes ≡ home_of holder value ∷ []
    pub grown : entries value ≡ entries origin ++ since
    pub fixed_is : fixed value ≡ fixed origin
    pub workers : All (λ e. e.worker < seats) since
    pub unlent : (m : ℕ) → seats ≤ m → lent value m ≡ None
    pub seated : IsSeated holder seat_of seats (length s.views)
    pub views : (j : ℕ) (v : View) → get_elem? s.views j ≡ some v → Knows origin seats value since holder seat_of j v

  abbrev pub Rule : V → ℕ → State (Maybe V) View → Type 0
  Rule origin seats s = (holder : Option ℕ) × IsHeld origin seats holder s

-- each number below `seats` is that of one of these shares
abbrev pub CoversAll : ℕ → List Share → Type 0
CoversAll seats shares = (m : ℕ) → m < seats → (k : ℕ) × (k < length shares) × ((d : Share) → (slice_index_or shares k d).number ≡ m)
