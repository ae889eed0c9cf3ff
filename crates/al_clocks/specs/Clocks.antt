-- Clocks: what each entry and each proc knows of the others, by one number for each proc. A clock gives, for a proc, one more
-- than the number of its last entry that is known, and 0 where none is. Entry i of proc q is known where i is below that.
use Rattle.std.specs.Prelude.{◌≡◌, ℕ, zero, suc, ◌+◌, max, Bool, true, ◌&&◌, not, if◌then◌else◌, ◌==◌, nat_lt, List, [], ◌∷◌, length, slice_get, Option, Some, None, is_some}
use Rattle.al_world.specs.World.{TaskName, same_task}
use Rattle.al_seen.specs.declared.seen.Went.{Went}
use Rattle.al_seen.specs.declared.seen.Seen.{Seen}
use Rattle.al_race.specs.Order.{procs, starts, wakes, is_branch, talk_of, puts, gets}

abbrev pub Clock : Type 0
Clock = ℕ → ℕ

abbrev pub nothing : ℕ → ℕ
nothing q = 0

-- what either of two clocks knows
abbrev pub both : Clock → Clock → ℕ → ℕ
both c d q = max (c q) (d q)

-- the clocks after a run: of its entries and its procs, and what was told to each task since its latest entry
pub record Clocks : Type 0 where
  pub entries : ℕ → Clock
  pub procs : ℕ → Clock
  pub heard : TaskName → Clock

-- ---- what comes to an entry

abbrev pub clock_at : (ℕ → Clock) → Option ℕ → Clock
clock_at entries None = nothing
clock_at entries (Some k) = entries k

-- the talk that is met on an unbuffered channel
abbrev pub met_talk : List Seen → Option Went → Option TaskName → Option ℕ
met_talk past None woken = None
met_talk past (Some w) woken = if w.buffered then None else talk_of past woken

abbrev pub talk_or : Option (Option ℕ) → Option ℕ
talk_or None = None
talk_or (Some talk) = talk

-- the talk of the value that is got from a buffered channel
abbrev pub passed_talk : List Seen → Option Went → Option ℕ
passed_talk past None = None
passed_talk past (Some w) =
    if w.buffered && not w.send then talk_or (slice_get (puts past w.chan) (gets past w.chan)) else None

abbrev pub own_and_heard : Seen → Clocks → Clock
own_and_heard e c = both (c.procs e.task.proc) (c.heard e.task)

abbrev pub talked : Seen → List Seen → Clocks → Clock
talked e past c = both (clock_at c.entries (met_talk past e.went e.woke)) (clock_at c.entries (passed_talk past e.went))

-- all that comes to an entry by its edges
abbrev pub comes : Seen → List Seen → Clocks → Clock
comes e past c = both (own_and_heard e c) (talked e past c)

-- the clock of an entry: it knows itself too
abbrev pub clock_of : Seen → List Seen → Clocks → ℕ → ℕ
clock_of e past c q = if q == e.task.proc then length past + 1 else comes e past c q

-- ---- what is known after an entry

abbrev pub entry_clocks : Clock → ℕ → (ℕ → Clock) → ℕ → Clock
entry_clocks new n entries k = if k == n then new else entries k

abbrev pub proc_clocks : Clock → Seen → List Seen → (ℕ → Clock) → ℕ → Clock
proc_clocks new e past clocks q = if q == e.task.proc then new else (if starts e past q then new else clocks q)

-- what the procs below n know of which b holds
abbrev pub of_some : ℕ → (ℕ → Bool) → (ℕ → Clock) → Clock
of_some zero b clocks = nothing
of_some (suc r) b clocks = both (if b r then clocks r else nothing) (of_some r b clocks)

-- what a task is told that is made ready: all that the entry knows by which its talk went, or all that the branches of its
-- par know, which is over
abbrev pub told : Seen → List Seen → Clock → (ℕ → Clock) → TaskName → Clock
told e past new clocks t = if is_some e.went then new else of_some (procs (e ∷ past)) (is_branch past t) clocks

abbrev pub heard_by : Seen → List Seen → Clock → (ℕ → Clock) → (TaskName → Clock) → TaskName → Clock
heard_by e past new clocks heard t =
    if same_task e.task t then nothing
    else (if wakes e t then both (heard t) (told e past new clocks t) else heard t)

abbrev pub after_entry : Seen → List Seen → Clock → Clocks → Clocks
after_entry e past new c = record {
  entries = entry_clocks new (length past) c.entries;
  procs = proc_clocks new e past c.procs;
  heard = heard_by e past new (proc_clocks new e past c.procs) c.heard;
}

abbrev pub clocks : List Seen → Clocks
clocks [] = record { entries = λ k. nothing; procs = λ q. nothing; heard = λ t. nothing }
clocks (e ∷ past) = after_entry e past (clock_of e past (clocks past)) (clocks past)

-- every entry is one of a proc that was made before
abbrev pub AllMade : List Seen → Type 0
AllMade [] = Unit {0}
AllMade (e ∷ past) = (nat_lt e.task.proc (procs past) ≡ true) × AllMade past
