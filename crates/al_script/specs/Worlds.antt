-- The world that a program's lists stand for.
use Rattle.std.specs.Prelude.{ℕ, ◌+◌, ◌<◌, ◌^◌, if◌then◌else◌, List, [], ◌∷◌, length, map, slice_index}
use Rattle.al_event.specs.declared.act.Act.{Act}
use Rattle.al_event.specs.declared.act.Act.TheVariants.{Talk}
use Rattle.al_world.specs.Channels.{Book, has_bad, ready, is_some_ready}
use Rattle.al_world.specs.World as world
use Rattle.al_world.specs.World.{TaskName, TalkName, same_task, at_task}
use Rattle.al_script.specs.declared.script.Instruction.{Instruction}
use Rattle.al_script.specs.declared.script.Control.{Control}
use Rattle.al_script.specs.declared.world.State.{State}
use Rattle.al_script.specs.declared.world.Made.{Made}
use Rattle.al_script.specs.declared.world.Held.{Held}
use Rattle.al_script.specs.declared.world.Held.TheVariants.{Absent, Goes, Waits}
use Rattle.al_script.specs.declared.world.Change.{Change}
use Rattle.al_script.specs.declared.world.World.{World}
use Rattle.al_script.specs.declared.tells.Told.{Told}
use Rattle.al_script.specs.declared.tells.Told.TheVariants.{Answered, Begins}
use Rattle.al_script.specs.declared.tells.Message.{Message}
use Rattle.al_script.specs.declared.tells.Effect.{Effect}
use Rattle.al_script.specs.Scripts.{scripts, act_of}

-- counts of procs by their numbers; 0 where there is none
unfoldable pub counts_of : List ℕ → ℕ → ℕ
counts_of counts = λ proc. slice_index counts proc

abbrev pub shared_of : Made → State → world.Shared
shared_of m s = record {
  region = s.store.region;
  store = s.store.blocks;
  book = s.book;
  procs = s.procs;
  started = counts_of s.started;
  entries_of = counts_of m.of_procs;
  entries = m.entries;
  output = s.output;
  went = s.went;
  over = s.over;
  line = m.line;
}

-- a task that waits asked its next action
abbrev pub held_of : List (List Instruction) → Held → world.Held Control
held_of functions Absent = world.Absent
held_of functions (Goes c) = world.Goes c
held_of functions (Waits c) = world.Waits (act_of functions c) c

-- what became of a task: the latest that did
abbrev pub held_at : List Change → TaskName → Held
held_at [] task = Absent
held_at (m ∷ ms) task = if same_task task m.task then m.held else held_at ms task

-- what became of tasks, the latest first
abbrev pub tasks_of : List (List Instruction) → List Change → TaskName → world.Held Control
tasks_of functions [] = λ _. world.Absent
tasks_of functions (m ∷ ms) = at_task m.task (held_of functions m.held) (tasks_of functions ms)

abbrev pub world_of : (functions : List (List Instruction)) → World → world.World (scripts functions)
world_of functions w = record {
  shared = shared_of w.made w.state;
  tasks = tasks_of functions w.tasks;
  privates = λ _. tt;
  work = 0;
}

-- ---- what an entry tells

abbrev pub told_of : Told → world.Told
told_of (Answered words) = world.Answered words
told_of (Begins start) = world.Begins start

abbrev pub message_of : Message → TaskName × world.Told
message_of m = (m.to, told_of m.told)

abbrev pub effect_of : Made → Effect → world.Effect
effect_of m e = record { shared = shared_of m e.state; told = map message_of e.told }

-- ---- what fits 32 bits

-- how many branches a talk has
abbrev pub branches_in : Act → ℕ
branches_in (Talk branches) = length branches
branches_in _ = 0

-- so few entries, tasks, procs, channels and branches that an entry of this task by this action brings none of their
-- numbers past 32 bits
pub record Fits (s : world.Shared) (t : TaskName) (act : Act) : Type 0 where
  pub entries : s.entries + 1 < 2 ^ 32
  pub own_entries : s.entries_of t.proc + 1 < 2 ^ 32
  pub tasks : s.started t.proc + 1 < 2 ^ 32
  pub procs : length s.procs + 1024 < 2 ^ 32
  pub channels : length s.book.channels + 1 < 2 ^ 32
  pub branches : branches_in act < 2 ^ 32

-- ---- picks

-- how many picks an action has where these are the channels
abbrev pub picks_with : Book TalkName → Act → ℕ
picks_with book (Talk branches) = if has_bad book branches then 1 else (if is_some_ready (ready book branches) then length (ready book branches) else 1)
picks_with book _ = 1
