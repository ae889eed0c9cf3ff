-- The tasks and the private globals that tables stand for.
use Rattle.std.specs.Prelude.{ℕ, ◌==◌, ◌&&◌, Bool, nat_eq, List, Option, Some, None, unwrap_or}
use Rattle.indexmap.specs.IndexMap.{get}
use Rattle.al_world.specs.World as world
use Rattle.al_world.specs.World.{TaskName}
use Rattle.al_meaning.specs.Items as item
use Rattle.al_control.specs.Models.{control_of}
use Rattle.al_tasks.specs.declared.tasks.Held.{Held}
use Rattle.al_tasks.specs.declared.tasks.Held.TheVariants.{Goes, Waits}
use Rattle.al_tasks.specs.declared.tasks.Tasks.{Tasks}
use Rattle.al_tasks.specs.declared.privates.Privates.{Privates}

-- a task as a key, and keys that are the same
abbrev pub key_of : TaskName → ℕ × ℕ
key_of task = (task.proc, task.number)

abbrev pub same_key : ℕ × ℕ → ℕ × ℕ → Bool
same_key k l = k.0 == l.0 && k.1 == l.1

abbrev pub held_of : Held → world.Held item.Control
held_of (Goes c) = world.Goes (control_of c)
held_of (Waits act c) = world.Waits act (control_of c)

-- a task, or none where it was not started
abbrev pub task_held : Option Held → world.Held item.Control
task_held None = world.Absent
task_held (Some held) = held_of held

abbrev pub tasks_of : Tasks → TaskName → world.Held item.Control
tasks_of tasks = λ task. task_held (get same_key tasks.map (key_of task))

abbrev pub no_tasks : TaskName → world.Held item.Control
no_tasks = λ task. world.Absent

-- by the numbers of procs
abbrev pub privates_of : Privates → ℕ → List ℕ
privates_of privates = λ proc. unwrap_or (get nat_eq privates.map proc) privates.fresh
