-- What became of a task.
use Rattle.std.proofs.Common.{◌≡◌, Bool, true, false, cond, List, [], ◌∷◌, refl}
use Rattle.al_world.specs.World.{TaskName, same_task}
use Rattle.al_script.specs.declared.script.Instruction.{Instruction}
use Rattle.al_script.specs.declared.world.Change.{Change}
use Rattle.al_script.specs.Worlds.{held_of, held_at, tasks_of}

module _ (functions : List (List Instruction)) where
  pub held_is : (tasks : List Change) (task : TaskName) → tasks_of functions tasks task ≡ held_of functions (held_at tasks task)
  held_is [] task = refl
  held_is (m ∷ ms) task = on (same_task task m.task) (held_is ms task)
    where
      on : (b : Bool) → tasks_of functions ms task ≡ held_of functions (held_at ms task) → cond b (held_of functions m.held) (tasks_of functions ms task) ≡ held_of functions (cond b m.held (held_at ms task))
      on true rest = refl
      on false rest = rest
