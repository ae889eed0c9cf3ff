-- What an entry comes to, and where a schedule stops.
use Rattle.std.specs.Prelude.{ℕ, ◌≡◌, List, take, slice_get, Some, None}
use Rattle.al_event.specs.declared.entry.Entry.{Entry}
use Rattle.al_world.specs.World as world
use Rattle.al_world.specs.World.{TaskName, Goes}
use Rattle.al_world.specs.Step.{task_of, step_held, step, run}
use Rattle.al_script.specs.declared.script.Instruction.{Instruction}
use Rattle.al_script.specs.declared.script.Control.{Control}
use Rattle.al_script.specs.declared.step.Next.{Next}
use Rattle.al_script.specs.declared.step.Next.TheVariants.{To, Refused, TooLarge}
use Rattle.al_script.specs.declared.run.Stop.{Stop}
use Rattle.al_script.specs.declared.run.Stop.TheVariants as stop
use Rattle.al_script.specs.Scripts.{scripts, act_of}
use Rattle.al_script.specs.Worlds.{world_of, Fits}

module _ (functions : List (List Instruction)) where
  -- a task whose action does not fit
  pub record HasNoRoom (w : world.World (scripts functions)) (t : TaskName) : Type 0 where
    pub control : Control
    pub goes : w.tasks t ≡ Goes control
    pub room : ¬ Fits w.shared t (act_of functions control)

  -- what an entry of a task comes to
  abbrev pub IsNextOf : world.World (scripts functions) → TaskName → ℕ → Next → Type 0
  IsNextOf w t pick (To v) = step_held (scripts functions) w t pick (w.tasks t) ≡ Some (world_of functions v)
  IsNextOf w t pick Refused = step_held (scripts functions) w t pick (w.tasks t) ≡ None
  IsNextOf w t pick TooLarge = HasNoRoom w t

  -- the task of an entry has no room
  pub record IsTooLarge (w : world.World (scripts functions)) (e : Entry) : Type 0 where
    pub task : TaskName
    pub is : task_of w.shared w.shared.over e.proc ≡ Some task
    pub full : HasNoRoom w task

  -- what an entry comes to
  abbrev pub IsNext : world.World (scripts functions) → Entry → Next → Type 0
  IsNext w e (To v) = step (scripts functions) w e ≡ Some (world_of functions v)
  IsNext w e Refused = step (scripts functions) w e ≡ None
  IsNext w e TooLarge = IsTooLarge w e

  -- the world before entry number `at` of a schedule, and that entry
  pub record Reaches (first : world.World (scripts functions)) (schedule : List Entry) (at : ℕ) : Type 0 where
    pub before : world.World (scripts functions)
    pub ran : run (scripts functions) (take at schedule) (Some first) ≡ Some before
    pub entry : Entry
    pub is : slice_get schedule at ≡ Some entry

  -- why there is no world after a schedule
  abbrev pub IsStopped : world.World (scripts functions) → List Entry → Stop → Type 0
  IsStopped first schedule stop.NoMemory = Unit {0}
  IsStopped first schedule (stop.NotPermitted at) =
      (r : Reaches first schedule at) × (step (scripts functions) r.before r.entry ≡ None)
  IsStopped first schedule (stop.TooLarge at) = (r : Reaches first schedule at) × IsTooLarge r.before r.entry
