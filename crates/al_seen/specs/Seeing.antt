-- What an entry does, by the world before it. All is read off from the action that its task asks, and from what the world does
-- with it.
use Rattle.std.specs.Prelude.{ℕ, ◌-◌, ◌==◌, Bool, true, false, not, if◌then◌else◌, List, [], ◌∷◌, length, slice_get, Option, Some, None, is_some, option_map, option_and_then}
use Rattle.al_base.specs.declared.over.Over.{Over}
use Rattle.al_event.specs.declared.act.Branch.{Branch}
use Rattle.al_event.specs.declared.act.Start.{Start}
use Rattle.al_event.specs.declared.act.Act.{Act}
use Rattle.al_event.specs.declared.act.Act.TheVariants.{Load, Store, Alloc, Talk}
use Rattle.al_event.specs.declared.entry.Entry.{Entry}
use Rattle.al_world.specs.Channels.{Channel, Book, channel}
use Rattle.al_world.specs.Control.{Asked, Kind}
use Rattle.al_world.specs.World.{TaskName, TalkName, same_task, Shared, Told, Answered, Begins, Effect, Held, Goes, World}
use Rattle.al_world.specs.Actions.{performs}
use Rattle.al_world.specs.Step.{task_of, step, opening}
use Rattle.al_seen.specs.declared.seen.Access.{Access}
use Rattle.al_seen.specs.declared.seen.Placed.{Placed}
use Rattle.al_seen.specs.declared.seen.Went.{Went}
use Rattle.al_seen.specs.declared.seen.Seen.{Seen}

-- ---- an action and its effect

-- the bytes that a load reads or a store writes; none where it trapped, which ends the world
abbrev pub access_of : Act → Option Over → Option Access
access_of (Load at size) None = Some (record { at = at; size = size; store = false })
access_of (Store at size word) None = Some (record { at = at; size = size; store = true })
access_of act over = None

-- the first word of what the first task is answered: the address of a new block, or the branch of a talk that went
abbrev pub first_word : List (TaskName × Told) → Option ℕ
first_word ((t, Answered (word ∷ words)) ∷ told) = Some word
first_word told = None

abbrev pub block_at : ℕ → ℕ → Placed
block_at bytes at = record { at = at; bytes = bytes }

-- the block that was placed
abbrev pub placed_of : Act → List (TaskName × Told) → Option Placed
placed_of (Alloc bytes kind) told = option_map (block_at bytes) (first_word told)
placed_of act told = None

-- a channel that may hold values
abbrev pub is_buffered : Option Channel → Bool
is_buffered None = false
is_buffered (Some ch) = not (ch.capacity == 0)

abbrev pub went_by : Book TalkName → Branch → Went
went_by book b = record { chan = b.chan; buffered = is_buffered (channel book.channels b.chan); send = is_some b.send }

-- the branch by which a talk of this task went; none where the talk trapped or blocked
abbrev pub went_of : Act → Book TalkName → List (TaskName × Told) → Option Went
went_of (Talk branches) book told = option_and_then (λ i. option_map (went_by book) (slice_get branches i)) (first_word told)
went_of act book told = None

-- the first other task that is answered: its talk went, or its par ended
abbrev pub woken_by : TaskName → List (TaskName × Told) → Option TaskName
woken_by t [] = None
woken_by t ((u, Begins start) ∷ told) = woken_by t told
woken_by t ((u, Answered words) ∷ told) = if same_task u t then woken_by t told else Some u

-- what task t does by an action with this effect
abbrev pub seen_of : Shared → TaskName → Act → Effect → Seen
seen_of s t act e = record {
  task = t;
  access = access_of act e.shared.over;
  placed = placed_of act e.told;
  started = length e.shared.procs - length s.procs;
  went = went_of act e.shared.book e.told;
  woke = woken_by t e.told;
}

-- ---- an entry and a run, along the world's own steps

module _ (K : Kind) where
  abbrev pub seen_asked : World K → TaskName → ℕ → Asked K.Control K.Privates → Option Seen
  seen_asked w t pick a = option_map (seen_of w.shared t a.act) (performs w.shared t a.act pick)

  abbrev pub seen_held : World K → TaskName → ℕ → Held K.Control → Option Seen
  seen_held w t pick (Goes c) = seen_asked w t pick (K.ask c (w.privates t.proc))
  seen_held w t pick _ = None

  -- what an entry does; none where it is not permitted
  abbrev pub seen_in : World K → Entry → Option Seen
  seen_in w e = option_and_then (λ (t : TaskName). seen_held w t e.pick (w.tasks t)) (task_of w.shared w.shared.over e.proc)

  -- before what the later entries do
  abbrev pub seen_then : Option Seen → Option (List Seen) → Option (List Seen)
  seen_then None later = None
  seen_then (Some seen) later = option_map (λ seens. seen ∷ seens) later

  -- what each entry of a schedule does; none where one of them is not permitted
  abbrev pub seen_along : List Entry → Option (World K) → Option (List Seen)
  seen_along es None = None
  seen_along [] (Some w) = Some []
  seen_along (e ∷ es) (Some w) = seen_then (seen_in w e) (seen_along es (step K w e))

  -- the same from the first world
  abbrev pub seen_from : ℕ → List (List ℕ) → Start → List Entry → Option (List Seen)
  seen_from region globals start h = seen_along h (Some (opening K region globals start))
