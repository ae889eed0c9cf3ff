-- What the calls of the lock say of a pass, of a turn and of the value.
use Rattle.std.specs.Prelude.{◌≡◌, ℕ, ◌<◌, ◌≤◌, slice_index_or, List, [], ◌∷◌, ◌++◌, length, drop, Option as Maybe, Some, None}
use Rattle.std.specs.List.{All}
use mathlib.Core.List.{IsPrefix}
use base.Stored.{Gv, gnil}
use Rattle.atomic_table.specs.declared.badge.Badge.{Badge}
use Rattle.al_event.specs.declared.entry.Entry.{Entry}
use Rattle.al_event.specs.declared.entry.Loan.{Loan}
use Rattle.store_lock.specs.declared.known.Share.{Share}
use Rattle.store_lock.specs.declared.known.View.{View}
use Rattle.store_lock.specs.declared.pass.Pass.{Pass}
use Rattle.store_lock.specs.declared.turn.Turn.{Turn}
use Rattle.store_lock.specs.declared.lock.StoreLock.{StoreLock}
use Rattle.store_lock.specs.Rule.{entries_by, share, view, resting, spent}
use Rattle.store_lock.specs.Locks.{lock_id, lock_origin, lock_seats}

abbrev pub only_share : List Share → Share
only_share [] = share 0 gnil [] None
only_share (s ∷ ss) = s

abbrev pub first_view : List View → View
first_view [] = spent
first_view (v ∷ vs) = v

abbrev pub pass_number : Pass → ℕ
pass_number p = p.number

abbrev pub known_badge : Pass → Badge View
known_badge p = p.known.value

abbrev pub share_of : Pass → Share
share_of p = only_share (first_view p.known.value.views).shares

-- the entries that the pass made since the lock was made, in order
abbrev pub own : Pass → List Entry
own p = (share_of p).own

-- the longest history that it has seen
abbrev pub seen : Pass → List Entry
seen p = (first_view p.known.value.views).seen

-- what is lent to its worker
abbrev pub loan : Pass → Maybe Loan
loan p = (share_of p).loan

-- it holds no turn
abbrev pub IsAtRest : Pass → Type 0
IsAtRest p = p.badge ≡ p.known.value

-- it holds a turn
abbrev pub HoldsTurn : Pass → Type 0
HoldsTurn p = p.badge.views ≡ []

-- nothing that clauses read of a pass has changed
pub record KnowsSame (old new : Pass) : Type 0 where
  pub number_is : pass_number new ≡ pass_number old
  pub own_is : own new ≡ own old
  pub seen_is : seen new ≡ seen old
  pub loan_is : loan new ≡ loan old

-- the value of a turn, and the value that it was taken with
abbrev pub turn_value : {V : Type 0} → Turn V → V
turn_value t = t.value

abbrev pub turn_was : {V : Type 0} → Turn V → V
turn_was t = t.was.value

-- P holds of each pass and its place in the list
abbrev pub EachAt : (ℕ → Pass → Type 0) → List Pass → Type 0
EachAt P ps = (k : ℕ) (d : Pass) → k < length ps → P k (slice_index_or ps k d)

-- the pass with the number m is among these
abbrev pub HasNumber : ℕ → List Pass → Type 0
HasNumber m ps = (k : ℕ) × (k < length ps) × ((d : Pass) → pass_number (slice_index_or ps k d) ≡ m)

module _ {V F : Type 0} (memo : V → Gv) where
  -- the pass is one of this lock
  pub record IsPassOf (lock : StoreLock V F) (p : Pass) : Type 0 where
    pub lock_is : p.known.value.table_id ≡ lock_id lock
    pub knows : p.known.value.views ≡ resting (share (pass_number p) (memo (lock_origin lock)) (own p) (loan p)) (seen p) ∷ []

  -- the pass number k of this lock, which holds no turn
  pub record IsMember (lock : StoreLock V F) (k : ℕ) (p : Pass) : Type 0 where
    pub pass : IsPassOf lock p
    pub rests : IsAtRest p
    pub number_is : pass_number p ≡ k

  -- these are all passes of the lock, in any order, and none holds a turn
  pub record AreAllAtRest (lock : StoreLock V F) (ps : List Pass) : Type 0 where
    pub passes : All (IsPassOf lock) ps
    pub rest : All IsAtRest ps
    pub every : (m : ℕ) → m < lock_seats lock → HasNumber m ps

module _ {V F : Type 0} (memo : V → Gv) (entries : V → List Entry) where
  -- it has seen the base, it has made no entry, and nothing is lent to its worker
  pub record IsNew (lock : StoreLock V F) (k : ℕ) (p : Pass) : Type 0 where
    pub member : IsMember memo lock k p
    pub own_is : own p ≡ []
    pub seen_is : seen p ≡ entries (lock_origin lock)
    pub loan_is : loan p ≡ None

  -- these are all passes of a new lock, by their numbers from 0 on
  pub record AreNew (lock : StoreLock V F) (ps : List Pass) : Type 0 where
    pub count : length ps ≡ lock_seats lock
    pub each : EachAt (IsNew lock) ps

  -- the turn is of this lock and of this pass
  pub record IsTurnOf (lock : StoreLock V F) (p : Pass) (t : Turn V) : Type 0 where
    pub lock_is : t.seat.table_id ≡ lock_id lock
    pub me : t.seat.me ≡ (view (share (pass_number p) (memo (lock_origin lock)) (own p) (loan p) ∷ []) (entries (turn_was t)) (Some (memo (turn_was t))), (0, None) ∷ [])

module _ {V F : Type 0} (entries : V → List Entry) (fixed : V → F) (lent : V → ℕ → Maybe Loan) where
  -- what the pass finds as it takes the turn
  pub record Finds (origin : V) (p : Pass) (value : V) : Type 0 where
    pub fixed_is : fixed value ≡ fixed origin
    pub longer : IsPrefix (seen p) (entries value)
    -- the entries after the base that carry the pass's number are its own
    pub since : List Entry
    pub grown : entries value ≡ entries origin ++ since
    pub own_is : entries_by (pass_number p) since ≡ own p
    pub loan_is : lent value (pass_number p) ≡ loan p

  -- the worker k may leave this value where it found `was`
  pub record MayFollow (k : ℕ) (was value : V) : Type 0 where
    pub fixed_is : fixed value ≡ fixed was
    pub new : List Entry
    pub longer : entries value ≡ entries was ++ new
    pub own_are : All (λ e. e.worker ≡ k) new
    pub others : (m : ℕ) → ¬ (m ≡ k) → lent value m ≡ lent was m

  -- what the passes know of the last value: its history is the base, followed by a merge of their own entries
  pub record Closes (lock : StoreLock V F) (ps : List Pass) (value : V) : Type 0 where
    pub fixed_is : fixed value ≡ fixed (lock_origin lock)
    pub since : List Entry
    pub grown : entries value ≡ entries (lock_origin lock) ++ since
    pub workers : All (λ e. e.worker < lock_seats lock) since
    pub own_are : All (λ p. entries_by (pass_number p) since ≡ own p) ps
    pub loans_are : All (λ p. lent value (pass_number p) ≡ loan p) ps
    pub unlent : (m : ℕ) → lock_seats lock ≤ m → lent value m ≡ None

module _ {V F : Type 0} (memo : V → Gv) (entries : V → List Entry) (lent : V → ℕ → Maybe Loan) where
  -- the pass after its turn: it knows what it added and what is lent to it now
  pub record Frees (lock : StoreLock V F) (t : Turn V) (old new : Pass) : Type 0 where
    pub pass : IsPassOf memo lock new
    pub rests : IsAtRest new
    pub number_is : pass_number new ≡ pass_number old
    pub own_is : own new ≡ own old ++ drop (length (entries (turn_was t))) (entries (turn_value t))
    pub seen_is : seen new ≡ entries (turn_value t)
    pub loan_is : loan new ≡ lent (turn_value t) (pass_number old)
