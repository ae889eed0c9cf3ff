-- What goes through channels, along a schedule.
use Rattle.std.specs.Prelude.{ℕ, ◌≡◌, ◌≢◌, ◌⊎◌, true, false, if◌then◌else◌, ◌==◌, List, [], ◌∷◌, ◌++◌, slice_get, Some, None}
use Rattle.std.specs.List.{AllByRecursion}
use Rattle.al_event.specs.declared.act.Branch.{Branch}
use Rattle.al_event.specs.declared.act.Start.{Start}
use Rattle.al_event.specs.declared.act.Act.{Act}
use Rattle.al_event.specs.declared.act.Act.TheVariants.{Talk}
use Rattle.al_event.specs.declared.entry.Entry.{Entry}
use Rattle.al_world.specs.Channels.{Channel, Offer, Pair, channel, held_of, has_bad, ready, is_some_ready}
use Rattle.al_world.specs.Talks.{Went, Transfer, Put, Get, Lost}
use Rattle.al_world.specs.Control.{Kind}
use Rattle.al_world.specs.World.{TaskName, TalkName, Shared, World, Goes, Answered, Effect}
use Rattle.al_world.specs.Actions.{talk_of, performs}
use Rattle.al_world.specs.Step.{run, run_from}
use Rattle.al_world.specs.Procs.{first_ready}

-- ---- what was put into a channel, got from it, and given up with it

abbrev pub puts_of : {By : Type 0} → ℕ → List (Went By) → List (List ℕ)
puts_of c [] = []
puts_of c (Put d by words ∷ rest) = if d == c then words ∷ puts_of c rest else puts_of c rest
puts_of c (Get d by words ∷ rest) = puts_of c rest
puts_of c (Transfer d s r words ∷ rest) = puts_of c rest
puts_of c (Lost d values ∷ rest) = puts_of c rest

abbrev pub gets_of : {By : Type 0} → ℕ → List (Went By) → List (List ℕ)
gets_of c [] = []
gets_of c (Get d by words ∷ rest) = if d == c then words ∷ gets_of c rest else gets_of c rest
gets_of c (Put d by words ∷ rest) = gets_of c rest
gets_of c (Transfer d s r words ∷ rest) = gets_of c rest
gets_of c (Lost d values ∷ rest) = gets_of c rest

abbrev pub lost_of : {By : Type 0} → ℕ → List (Went By) → List (List ℕ)
lost_of c [] = []
lost_of c (Lost d values ∷ rest) = if d == c then values ++ lost_of c rest else lost_of c rest
lost_of c (Put d by words ∷ rest) = lost_of c rest
lost_of c (Get d by words ∷ rest) = lost_of c rest
lost_of c (Transfer d s r words ∷ rest) = lost_of c rest

-- in each channel, the values put are those got, in that order, followed by what it holds or held when it was given up
pub record IsQueue {By : Type 0} (went : List (Went By)) (channels : List Channel) : Type 0 where
  pub in_order : (c : ℕ) → puts_of c went ≡ gets_of c went ++ (lost_of c went ++ held_of (channel channels c))

-- in each world that a run comes to
abbrev pub IsInOrder : Kind → Type 0
IsInOrder K =
    (region : ℕ) (globals : List (List ℕ)) (start : Start) (h : List Entry) (w : World K) → run_from K region globals start h ≡ Some w → IsQueue w.shared.went w.shared.book.channels

-- ---- each talk goes once

-- a talk by its entry: entry number `entry`, from 0, of the proc
pub record EntryName : Type 0 where
  pub proc : ℕ
  pub entry : ℕ

abbrev pub entry_name : TalkName → EntryName
entry_name n = record { proc = n.task.proc; entry = n.entry }

-- the talks of what went
abbrev pub names_in : List (Went TalkName) → List EntryName
names_in [] = []
names_in (Transfer c s r words ∷ rest) = entry_name s ∷ entry_name r ∷ names_in rest
names_in (Put c s words ∷ rest) = entry_name s ∷ names_in rest
names_in (Get c r words ∷ rest) = entry_name r ∷ names_in rest
names_in (Lost c values ∷ rest) = names_in rest

-- no element twice
abbrev pub IsDistinct : {X : Type 0} → List X → Type 0
IsDistinct [] = Unit {0}
IsDistinct (x ∷ xs) = AllByRecursion (λ y. x ≢ y) xs × IsDistinct xs

-- in each world that a run comes to, each talk's name stands in what went at most once
abbrev pub IsOnce : Kind → Type 0
IsOnce K =
    (region : ℕ) (globals : List (List ℕ)) (start : Start) (h : List Entry) (w : World K) → run_from K region globals start h ≡ Some w → IsDistinct (names_in w.shared.went)

-- an element at some place
pub record IsIn {X : Type 0} (xs : List X) (x : X) : Type 0 where
  pub at : ℕ
  pub is : slice_get xs at ≡ Some x

-- what went by an action
pub record WentBy (s : Shared) (e : Effect) (more : List (Went TalkName)) : Type 0 where
  pub is : e.shared.went ≡ s.went ++ more

-- a talk that takes pair number pick of those that are ready, is answered with the number of its branch, and stands in
-- what went by it
pub record Takes (s : Shared) (t : TaskName) (branches : List Branch) (pick : ℕ) (e : Effect) : Type 0 where
  pub pair : Pair TalkName
  pub is : slice_get (ready s.book branches) pick ≡ Some pair
  pub words : List ℕ
  pub answered : IsIn e.told (t, Answered (pair.number ∷ words))
  pub more : List (Went TalkName)
  pub went : WentBy s e more
  pub named : IsIn (names_in more) (entry_name (talk_of s t))

-- a talk that neither traps nor blocks takes pair number pick
abbrev pub IsTaken : Type 0
IsTaken =
    (s : Shared) (t : TaskName) (branches : List Branch) (pick : ℕ) (e : Effect) → has_bad s.book branches ≡ false → is_some_ready (ready s.book branches) ≡ true → performs s t (Talk branches) pick ≡ Some e → Takes s t branches pick e

-- a blocked talk goes on: it stands in what went, its task is answered with the number of one of its branches, and all
-- branches of its task left the waiting list
pub record GoesOn (s : Shared) (o : Offer TalkName) (e : Effect) : Type 0 where
  pub chosen : Offer TalkName
  pub waited : IsIn s.book.waiting chosen
  pub same_task : chosen.by.task ≡ o.by.task
  pub words : List ℕ
  pub answered : IsIn e.told (chosen.by.task, Answered (chosen.number ∷ words))
  pub more : List (Went TalkName)
  pub went : WentBy s e more
  pub named : IsIn (names_in more) (entry_name chosen.by)
  pub left : AllByRecursion (λ (x : Offer TalkName). x.by.task ≢ o.by.task) e.shared.book.waiting

-- each branch that waits stays in the waiting list, or its talk goes on
abbrev pub IsLeftOrStays : Type 0
IsLeftOrStays =
    (s : Shared) (t : TaskName) (act : Act) (pick : ℕ) (e : Effect) (o : Offer TalkName) → performs s t act pick ≡ Some e → IsIn s.book.waiting o → IsIn e.shared.book.waiting o ⊎ GoesOn s o e

-- ---- the words of a transfer are equal at both ends

-- branch number i of a talk: of the one that is asked now, or of one that waits
abbrev pub HasBranch : Shared → TaskName → List Branch → TalkName → ℕ → Branch → Type 0
HasBranch s t branches n i b =
    ((n ≡ talk_of s t) × (slice_get branches i ≡ Some b)) ⊎ IsIn s.book.waiting (record { by = n; number = i; branch = b })

-- the sender asked to send these words on the channel, the receiver asked to receive on it, and its task is answered with
-- its branch and these words
pub record IsHanded (s : Shared) (t : TaskName) (branches : List Branch) (e : Effect) (c : ℕ) (sender receiver : TalkName) (words : List ℕ) : Type 0 where
  pub sent_by : ℕ
  pub sending : Branch
  pub sends : HasBranch s t branches sender sent_by sending
  pub sent : sending.send ≡ Some words
  pub sent_on : sending.chan ≡ c
  pub received_by : ℕ
  pub receiving : Branch
  pub receives : HasBranch s t branches receiver received_by receiving
  pub no_send : receiving.send ≡ None
  pub received_on : receiving.chan ≡ c
  pub told : IsIn e.told (receiver.task, Answered (received_by ∷ words))

abbrev pub IsTransferHanded : Shared → TaskName → List Branch → Effect → Went TalkName → Type 0
IsTransferHanded s t branches e (Transfer c sender receiver words) = IsHanded s t branches e c sender receiver words
IsTransferHanded s t branches e _ = Unit {0}

-- what went by a talk
pub record HandsWords (s : Shared) (t : TaskName) (branches : List Branch) (e : Effect) : Type 0 where
  pub more : List (Went TalkName)
  pub went : WentBy s e more
  pub handed : AllByRecursion (IsTransferHanded s t branches e) more

-- along each talk
abbrev pub IsEqualAtBothEnds : Type 0
IsEqualAtBothEnds =
    (s : Shared) (t : TaskName) (branches : List Branch) (pick : ℕ) (e : Effect) → performs s t (Talk branches) pick ≡ Some e → HandsWords s t branches e

-- ---- a talk that goes on stands in what went

-- a talk stands in what went, or one of its branches waits
abbrev pub IsAccounted : {K : Kind} → World K → TalkName → Type 0
IsAccounted w n =
    IsIn (names_in w.shared.went) (entry_name n) ⊎ ((o : Offer TalkName) × IsIn w.shared.book.waiting o × (o.by ≡ n))

-- an entry of a world is a talk of task t on these branches, none of which traps
pub record IsTalkEntry (K : Kind) (w : World K) (e : Entry) (t : TaskName) : Type 0 where
  pub first : first_ready w.shared.procs e.proc ≡ Some t
  pub control : K.Control
  pub goes : w.tasks t ≡ Goes control
  pub branch : Branch
  pub branches : List Branch
  pub act : (K.ask control (w.privates t.proc)).act ≡ Talk (branch ∷ branches)
  pub fine : has_bad w.shared.book (branch ∷ branches) ≡ false

-- in each world that comes after a talk that did not trap, it stands in what went or waits; and where the world is not over
-- and its task goes on, it stands in what went
pub record AfterTalk (K : Kind) (v : World K) (n : TalkName) : Type 0 where
  pub accounted : IsAccounted v n
  pub gone : v.shared.over ≡ None → (c : K.Control) → v.tasks n.task ≡ Goes c → IsIn (names_in v.shared.went) (entry_name n)

abbrev pub IsOnceGone : Kind → Type 0
IsOnceGone K =
    (region : ℕ) (globals : List (List ℕ)) (start : Start) (h more : List Entry) (w v : World K) (e : Entry) (t : TaskName) → run_from K region globals start h ≡ Some w → IsTalkEntry K w e t → run K (e ∷ more) (Some w) ≡ Some v → AfterTalk K v (talk_of w.shared t)
