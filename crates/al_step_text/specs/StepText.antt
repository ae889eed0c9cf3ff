-- The world of a program after some entries, as lines of text.
use Rattle.std.specs.Prelude.{ℕ, zero, suc, ◌+◌, ◌==◌, nat_lt, Bool, false, ◌&&◌, not, if◌then◌else◌, List, [], ◌++◌, length, take, Option, Some, None, slice_get, codes, decimal}
use Rattle.std.specs.List.{list_any, flat_map, range_with_len}
use Rattle.al_base.specs.declared.over.Over.{Over}
use Rattle.al_base.specs.declared.over.Over.TheVariants.{Done, Stopped, Trapped, Blocked, Spent}
use Rattle.al_event.specs.declared.act.Block.{Block}
use Rattle.al_event.specs.declared.act.Block.TheVariants.{Heap, Frame as FrameBlock, Global}
use Rattle.al_event.specs.Store.{Live, Span, span_of}
use Rattle.al_world.specs.Channels.{Channel, Offer}
use Rattle.al_world.specs.Procs.{ProcState}
use Rattle.al_world.specs.World.{TaskName, TalkName, same_task, Shared, Held, Absent, Goes, Waits, World}
use Rattle.al_typed.specs.declared.program.Program.{Program}
use Rattle.al_meaning.specs.Items.{Frame, Control}
use Rattle.al_meaning.specs.Meaning.{source}
use Rattle.al_value_text.specs.Numbers.{pointer}
use Rattle.al_step_text.specs.Frames.{all_frames}
use Rattle.al_step_text.specs.declared.state.TaskState.{TaskState}
use Rattle.al_step_text.specs.declared.state.TaskState.TheVariants as state

-- ---- the state of the world

abbrev pub over_name : Over → List ℕ
over_name Done = codes "Done"
over_name (Stopped status) = codes "Stopped"
over_name (Trapped trap proc at) = codes "Trapped"
over_name Blocked = codes "Blocked"
over_name Spent = codes "Spent"

abbrev pub over_line : Option Over → List ℕ
over_line None = codes "running\n"
over_line (Some over) = codes "over " ++ over_name over ++ codes "\n"

-- ---- tasks

-- in the ready list of its proc, also after a trap
abbrev pub is_ready : List (ProcState TaskName) → TaskName → Bool
is_ready procs t = list_any (λ (q : ProcState TaskName). list_any (same_task t) q.ready) procs

-- in the waiting list
abbrev pub is_blocked : List (Offer TalkName) → TaskName → Bool
is_blocked waiting t = list_any (λ (o : Offer TalkName). same_task t o.by.task) waiting

abbrev pub is_parent : TaskName → Option TaskName → Bool
is_parent t None = false
is_parent t (Some u) = same_task t u

-- it waits for the branches of a par that live
abbrev pub is_joining : List (ProcState TaskName) → TaskName → Bool
is_joining procs t = list_any (λ (q : ProcState TaskName). nat_lt 0 q.live && is_parent t q.parent) procs

-- none where the task has ended
abbrev pub state_in : List (ProcState TaskName) → List (Offer TalkName) → TaskName → Option TaskState
state_in procs waiting t =
    if is_ready procs t then Some state.Ready
    else (if is_blocked waiting t then Some state.Blocked else (if is_joining procs t then Some state.Joining else None))

abbrev pub state_name : TaskState → List ℕ
state_name state.Ready = codes "ready"
state_name state.Blocked = codes "blocked"
state_name state.Joining = codes "joining"

abbrev pub frames_of : Held Control → List Frame
frames_of Absent = []
frames_of (Goes c) = c.frames
frames_of (Waits act c) = c.frames

abbrev pub task_line : TaskName → TaskState → List ℕ
task_line t s = codes "task " ++ decimal t.proc ++ codes " " ++ decimal t.number ++ codes " " ++ state_name s ++ codes "\n"

abbrev pub held_lines : Program → Held Control → List ℕ
held_lines p held = all_frames p (frames_of held)

abbrev pub task_lines_if : Program → TaskName → Option TaskState → Held Control → List ℕ
task_lines_if p t None held = []
task_lines_if p t (Some s) held = task_line t s ++ held_lines p held

abbrev pub task_lines : Program → Shared → (TaskName → Held Control) → TaskName → List ℕ
task_lines p s tasks t = task_lines_if p t (state_in s.procs s.book.waiting t) (tasks t)

abbrev pub numbered_lines : Program → Shared → (TaskName → Held Control) → (proc number : ℕ) → List ℕ
numbered_lines p s tasks proc number = task_lines p s tasks (record { proc = proc; number = number })

-- the first so many of a proc, by their numbers
unfoldable pub proc_lines : Program → Shared → (TaskName → Held Control) → (proc : ℕ) → ℕ → List ℕ
proc_lines p s tasks proc n = flat_map (numbered_lines p s tasks proc) (range_with_len 0 n)

abbrev pub all_of_proc : Program → Shared → (TaskName → Held Control) → (proc : ℕ) → List ℕ
all_of_proc p s tasks proc = proc_lines p s tasks proc (s.started proc)

-- of the first so many procs
unfoldable pub procs_lines : Program → Shared → (TaskName → Held Control) → ℕ → List ℕ
procs_lines p s tasks n = flat_map (all_of_proc p s tasks) (range_with_len 0 n)

-- ---- channels

abbrev pub is_on : ℕ → Offer TalkName → Bool
is_on chan o = o.branch.chan == chan

abbrev pub is_by : ℕ → TaskName → Offer TalkName → Bool
is_by chan t o = is_on chan o && same_task t o.by.task

-- the first branch of its task on the channel
abbrev pub is_first_of : ℕ → List (Offer TalkName) → Option (Offer TalkName) → Bool
is_first_of chan before None = false
is_first_of chan before (Some o) = is_on chan o && not (list_any (is_by chan o.by.task) before)

abbrev pub is_first : ℕ → List (Offer TalkName) → ℕ → Bool
is_first chan waiting i = is_first_of chan (take i waiting) (slice_get waiting i)

abbrev pub one_if : Bool → ℕ
one_if b = if b then 1 else 0

-- how many tasks have a branch on a channel among the first so many branches
unfoldable pub waiting_on : ℕ → List (Offer TalkName) → ℕ → ℕ
waiting_on chan waiting zero = 0
waiting_on chan waiting (suc n) = waiting_on chan waiting n + one_if (is_first chan waiting n)

-- a channel that was not given up
abbrev pub channel_line : (chan : ℕ) → List (Offer TalkName) → Channel → List ℕ
channel_line chan waiting c =
    if c.given_up then []
    else codes "chan " ++ decimal chan ++ codes " capacity " ++ decimal c.capacity ++ codes " held " ++ decimal (length c.held)
    ++ codes " waiting " ++ decimal (waiting_on chan waiting (length waiting)) ++ codes "\n"

abbrev pub channel_if : (chan : ℕ) → List (Offer TalkName) → Option Channel → List ℕ
channel_if chan waiting None = []
channel_if chan waiting (Some c) = channel_line chan waiting c

-- channels are numbered from 1
abbrev pub channel_at : List (Offer TalkName) → List Channel → ℕ → List ℕ
channel_at waiting channels n = channel_if (n + 1) waiting (slice_get channels n)

-- the first so many
unfoldable pub channel_lines : List (Offer TalkName) → List Channel → ℕ → List ℕ
channel_lines waiting channels n = flat_map (channel_at waiting channels) (range_with_len 0 n)

-- ---- blocks

abbrev pub kind_name : Block → List ℕ
kind_name Heap = codes "heap"
kind_name FrameBlock = codes "frame"
kind_name Global = codes "global"

abbrev pub span_line : Span → List ℕ
span_line b = codes "block " ++ pointer b.at ++ codes " " ++ decimal b.size ++ codes " " ++ kind_name b.kind ++ codes "\n"

abbrev pub block_line : Live → List ℕ
block_line b = span_line (span_of b)

-- ---- the whole

-- of what all can see, and the tasks
unfoldable pub text_of : Program → Shared → (TaskName → Held Control) → (entries : ℕ) → List ℕ
text_of p s tasks entries =
    codes "entries " ++ decimal entries ++ codes "\n" ++ over_line s.over
    ++ procs_lines p s tasks (length s.procs)
    ++ channel_lines s.book.waiting s.book.channels (length s.book.channels)
    ++ flat_map block_line s.store
    ++ codes "output " ++ decimal (length s.output) ++ codes "\n"

-- of a world after so many entries
abbrev pub step_text : (p : Program) → World (source p) → (entries : ℕ) → List ℕ
step_text p w entries = text_of p w.shared w.tasks entries
