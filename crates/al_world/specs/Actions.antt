-- What each action does to what all can see.
use Rattle.std.specs.Prelude.{ℕ, zero, suc, ◌+◌, Bool, true, false, if◌then◌else◌, List, [], ◌∷◌, ◌++◌, length, Option, Some, None, Result, Ok, Err, option_map}
use Rattle.al_base.specs.declared.trap.Trap.{Trap}
use Rattle.al_base.specs.declared.trap.Trap.TheVariants.{Chan, Tasks, Illegal}
use Rattle.al_base.specs.declared.over.Over.{Over}
use Rattle.al_base.specs.declared.over.Over.TheVariants.{Stopped, Trapped}
use Rattle.al_event.specs.declared.act.Block.{Block}
use Rattle.al_event.specs.declared.act.Block.TheVariants.{Heap}
use Rattle.al_event.specs.declared.act.Branch.{Branch}
use Rattle.al_event.specs.declared.act.Start.{Start}
use Rattle.al_event.specs.declared.act.Act.{Act}
use Rattle.al_event.specs.declared.act.Act.TheVariants.{Load, Store, Alloc, Free, NewChan, FreeChan, CanRecv, CanSend, Talk, Proc, Task, Par, Print, Terminate, Pause, Trap as Traps, End}
use Rattle.al_event.specs.Store.{Live, load, store_word, alloc_block, free_block}
use Rattle.al_world.specs.Channels.{Book, channel, held_of, has_bad, ready, is_some_ready, makes, next_number, gives_up, can_recv, can_send}
use Rattle.al_world.specs.Talks.{Went, Lost, Woken, Fired, blocks, fires}
use Rattle.al_world.specs.Procs.{ProcState, Ended, new_proc, joins_ready, leaves_ready, starts_in_proc, is_full, ends}
use Rattle.al_world.specs.World.{TaskName, TalkName, same_task, same_talker, Shared, Told, Answered, Begins, Effect, at_proc}

-- ---- what most actions do

-- the task gets this answer, and goes on
abbrev pub answer : Shared → TaskName → List ℕ → Effect
answer s t words = record { shared = s; told = (t, Answered words) ∷ [] }

-- the world is over, and nothing else changes
abbrev pub ended_by : Shared → Over → Effect
ended_by s over = record { shared = record s { over = Some over }; told = [] }

-- the task traps, at the number of this entry
abbrev pub trapped : Shared → TaskName → Trap → Effect
trapped s t trap = ended_by s (Trapped trap t.proc s.entries)

abbrev pub or_trap : {X : Type 0} → Shared → TaskName → Result X Trap → (X → Effect) → Effect
or_trap s t (Ok x) f = f x
or_trap s t (Err trap) f = trapped s t trap

-- ---- the store

-- a heap block that is not there traps by its own trap; where no other block begins no text can come to, and an image
-- traps Illegal
abbrev pub free_trap : Block → Trap → Trap
free_trap Heap trap = trap
free_trap _ _ = Illegal

abbrev pub or_free_trap : Block → Result (List Live) Trap → Result (List Live) Trap
or_free_trap kind (Ok store) = Ok store
or_free_trap kind (Err trap) = Err (free_trap kind trap)

abbrev pub with_store : List Live → Shared → Shared
with_store store s = record s { store = store }

-- ---- channels

abbrev pub with_book : Book TalkName → Shared → Shared
with_book book s = record s { book = book }

abbrev pub with_went : List (Went TalkName) → Shared → Shared
with_went more s = record s { went = s.went ++ more }

-- what is given up with a channel; nil has nothing to give up
abbrev pub lost : Shared → ℕ → List (Went TalkName)
lost s c = Lost c (held_of (channel s.book.channels c)) ∷ []

-- a truth value as a word
abbrev pub word_of : Bool → ℕ
word_of true = 1
word_of false = 0

-- the task of a talk joins the end of its proc's ready list
abbrev pub wakes : Option (Woken TalkName) → List (ProcState TaskName) → List (ProcState TaskName)
wakes None procs = procs
wakes (Some w) procs = joins_ready w.by.task.proc w.by.task procs

-- the answer to the talk that was woken: its branch, then the words that it received
abbrev pub wake_told : Option (Woken TalkName) → List (TaskName × Told)
wake_told None = []
wake_told (Some w) = (w.by.task, Answered (w.branch ∷ w.words)) ∷ []

-- a talk went
abbrev pub goes : Shared → TaskName → Fired TalkName → Effect
goes s t f = record {
  shared = record s { book = f.book; procs = wakes f.woke s.procs; went = s.went ++ f.went };
  told = (t, Answered (f.branch ∷ f.words)) ∷ wake_told f.woke;
}

-- the name of a talk that is asked now
abbrev pub talk_of : Shared → TaskName → TalkName
talk_of s t = record { task = t; entry = s.entries_of t.proc }

-- a talk blocks, and its task leaves its ready list
abbrev pub waits_for : Shared → TaskName → List Branch → Effect
waits_for s t branches = record {
  shared = record s { book = blocks s.book (talk_of s t) branches; procs = leaves_ready t.proc s.procs };
  told = [];
}

-- where pick must be 0
abbrev pub at_zero : ℕ → Effect → Option Effect
at_zero zero e = Some e
at_zero (suc _) e = None

-- a talk none of whose branches traps
abbrev pub goes_or_waits : Shared → TaskName → List Branch → ℕ → Bool → Option Effect
goes_or_waits s t branches pick true = option_map (goes s t) (fires same_talker s.book (talk_of s t) branches pick)
goes_or_waits s t branches pick false = at_zero pick (waits_for s t branches)

-- a bad branch traps; else pair number pick goes, and the task blocks where there is no pair
abbrev pub talks : Shared → TaskName → List Branch → ℕ → Option Effect
talks s t branches pick =
    if has_bad s.book branches
    then at_zero pick (trapped s t Chan)
    else goes_or_waits s t branches pick (is_some_ready (ready s.book branches))

-- ---- starts and ends

-- the first task of a proc
abbrev pub first_task : ℕ → TaskName
first_task p = record { proc = p; number = 0 }

-- the first tasks of new procs, numbered from p on
abbrev pub begins_from : ℕ → List Start → List (TaskName × Told)
begins_from p [] = []
begins_from p (start ∷ starts) = (first_task p, Begins start) ∷ begins_from (p + 1) starts

abbrev pub procs_from : Option TaskName → ℕ → List Start → List (ProcState TaskName)
procs_from parent p [] = []
procs_from parent p (_ ∷ starts) = new_proc parent (first_task p) ∷ procs_from parent (p + 1) starts

-- one task was started in each of these procs
abbrev pub counts_from : ℕ → List Start → (ℕ → ℕ) → ℕ → ℕ
counts_from p [] started = started
counts_from p (_ ∷ starts) started = counts_from (p + 1) starts (at_proc p 1 started)

-- a new proc for each start, with the next numbers in their order
abbrev pub starts_procs : Option TaskName → List Start → Shared → Shared
starts_procs parent starts s = record s {
  procs = s.procs ++ procs_from parent (length s.procs) starts;
  started = counts_from (length s.procs) starts s.started;
}

-- the next task of a proc
abbrev pub next_task : Shared → ℕ → TaskName
next_task s p = record { proc = p; number = s.started p }

abbrev pub starts_task : ℕ → Shared → Shared
starts_task p s = record s {
  procs = starts_in_proc p (next_task s p) s.procs;
  started = at_proc p (s.started p + 1) s.started;
}

-- so many tasks more, where there is room for them
abbrev pub unless_full : Shared → TaskName → ℕ → Effect → Effect
unless_full s t more e = if is_full s.procs more then trapped s t Tasks else e

abbrev pub starts_proc : Shared → TaskName → Start → Effect
starts_proc s t start = record {
  shared = starts_procs None (start ∷ []) s;
  told = (t, Answered []) ∷ begins_from (length s.procs) (start ∷ []);
}

abbrev pub starts_one_task : Shared → TaskName → Start → Effect
starts_one_task s t start = record {
  shared = starts_task t.proc s;
  told = (t, Answered []) ∷ (next_task s t.proc, Begins start) ∷ [];
}

-- the task leaves its ready list, and waits for a new proc for each branch
abbrev pub starts_par : Shared → TaskName → List Start → Effect
starts_par s t starts = record {
  shared = starts_procs (Some t) starts (record s { procs = leaves_ready t.proc s.procs });
  told = begins_from (length s.procs) starts;
}

-- the task that waited in a par goes on
abbrev pub join_told : Option TaskName → List (TaskName × Told)
join_told None = []
join_told (Some u) = (u, Answered []) ∷ []

abbrev pub after_end : Shared → Ended TaskName → Effect
after_end s e = record { shared = record s { procs = e.procs }; told = join_told e.woke }

-- the task ends
abbrev pub ends_task : Shared → TaskName → Effect
ends_task s t = after_end s (ends same_task (λ (u : TaskName). u.proc) s.procs t.proc)

-- ---- the table

-- what an action does that is no talk; a talk blocks
abbrev pub acts : Shared → TaskName → Act → Effect
acts s t (Load at size) = or_trap s t (load s.store at size) (λ word. answer s t (word ∷ []))
acts s t (Store at size word) = or_trap s t (store_word s.store at size word) (λ store. answer (with_store store s) t [])
acts s t (Alloc bytes kind) =
    or_trap s t (alloc_block s.region s.store bytes kind) (λ r. answer (with_store r.1 s) t (r.0 ∷ []))
acts s t (Free at kind) =
    or_trap s t (or_free_trap kind (free_block s.store at kind)) (λ store. answer (with_store store s) t [])
acts s t (NewChan capacity words) = answer (with_book (makes s.book capacity words) s) t (next_number s.book ∷ [])
acts s t (FreeChan c) = or_trap s t (gives_up s.book c) (λ book. answer (with_went (lost s c) (with_book book s)) t [])
acts s t (CanRecv c) = or_trap s t (can_recv s.book c) (λ b. answer s t (word_of b ∷ []))
acts s t (CanSend c) = or_trap s t (can_send s.book c) (λ b. answer s t (word_of b ∷ []))
acts s t (Proc start) = unless_full s t 1 (starts_proc s t start)
acts s t (Task start) = unless_full s t 1 (starts_one_task s t start)
acts s t (Par starts) = unless_full s t (length starts) (starts_par s t starts)
acts s t (Print text) = answer (record s { output = s.output ++ text }) t []
acts s t (Terminate status) = ended_by s (Stopped status)
acts s t Pause = answer s t []
acts s t (Traps trap) = trapped s t trap
acts s t End = ends_task s t
acts s t (Talk branches) = waits_for s t branches

-- what an action does under a pick; none where the pick is out of range
abbrev pub performs : Shared → TaskName → Act → ℕ → Option Effect
performs s t (Talk branches) pick = talks s t branches pick
performs s t act pick = at_zero pick (acts s t act)
