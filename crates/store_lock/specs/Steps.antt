-- What the atomic steps do to a seat, and what they tell the worker that makes them.
use Rattle.std.specs.Prelude.{◌≡◌, ℕ, List, [], ◌∷◌, ◌++◌, length, drop, map, Option as Maybe, Some, None}
use Rattle.std.specs.List.{All}
use mathlib.Core.List.{IsPrefix}
use base.Stored.{Gv}
use Rattle.atomic_table.specs.Table.{Me, Step}
use Rattle.al_event.specs.declared.entry.Entry.{Entry}
use Rattle.al_event.specs.declared.entry.Loan.{Loan}
use Rattle.store_lock.specs.declared.known.Share.{Share}
use Rattle.store_lock.specs.declared.known.View.{View}
use Rattle.store_lock.specs.Rule.{share, view, Fits}

-- splitting and joining
abbrev pub rest_of : List Share → List Share
rest_of [] = []
rest_of (s ∷ ss) = ss

abbrev pub first_of : List Share → List Share
first_of [] = []
first_of (s ∷ ss) = s ∷ []

abbrev pub without_first : View → View
without_first v = view (rest_of v.shares) v.seen v.taken

abbrev pub first_alone : View → View
first_alone v = view (first_of v.shares) v.seen None

abbrev pub gathered : View → View → View
gathered v w = view (w.shares ++ v.shares) v.seen v.taken

-- the grab and the miss
module _ {V F : Type 0} (memo : V → Gv) (entries : V → List Entry) (fixed : V → F) (lent : V → ℕ → Maybe Loan) where
  -- a share's worker learns this of the value that is taken, for some value that the lock was made with
  pub record Learns (value : V) (s : Share) : Type 0 where
    pub origin : V
    pub since : List Entry
    pub fits : Fits memo entries fixed lent origin value since s
    pub grown : entries value ≡ entries origin ++ since
    pub fixed_is : fixed value ≡ fixed origin

  -- the value is out with the seat, which has seen its history
  abbrev pub holding : List Share → V → Me (Maybe V) View
  holding shares value = (view shares (entries value) (Some (memo value)), (0, Some value) ∷ [])

  pub record Takes (before after : Me (Maybe V) View) : Type 0 where
    pub value : V
    pub me : after ≡ holding before.0.shares value
    pub learns : All (Learns value) before.0.shares
    pub longer : IsPrefix before.0.seen (entries value)

  -- the value is taken where the word was the one expected, and else nothing changes
  pub record GrabsOrMisses (step : Step (Maybe V)) (before : Me (Maybe V) View) (found : ℕ) (after : Me (Maybe V) View) : Type 0 where
    pub grabs : found ≡ step.first → Takes before after
    pub misses : ¬ (found ≡ step.first) → after ≡ before

-- the free
module _ {V : Type 0} (entries : V → List Entry) (lent : V → ℕ → Maybe Loan) where
  -- a share, after its worker took the turn with the history `seen` and gives this value back
  abbrev pub share_after : List Entry → V → Share → Share
  share_after seen value s = share s.number s.origin (s.own ++ drop (length seen) (entries value)) (lent value s.number)

  abbrev pub given_back : View → List (ℕ × Maybe V) → Me (Maybe V) View
  given_back v [] = (v, [])
  given_back v ((k, None) ∷ rest) = (v, rest)
  given_back v ((k, Some value) ∷ rest) = (view (map (share_after v.seen value) v.shares) (entries value) None, rest)

  abbrev pub GivesBack : Step (Maybe V) → Me (Maybe V) View → ℕ → Me (Maybe V) View → Type 0
  GivesBack step before stored after = after ≡ given_back before.0 before.1
