-- The first world.
use Rattle.std.proofs.Common.{◌≡◌, ℕ, List, [], ◌∷◌, None, ap, ◌∙◌}
use Rattle.al_event.specs.declared.act.Start.{Start}
use Rattle.al_store.specs.Memory.{Contents}
use Rattle.al_world.specs.World as world
use Rattle.al_world.specs.World.{Shared}
use Rattle.al_world.specs.Actions.{first_task}
use Rattle.al_world.specs.Step.{opening, opening_shared}
use Rattle.al_script.specs.declared.script.Instruction.{Instruction}
use Rattle.al_script.specs.declared.script.Control.{Control}
use Rattle.al_script.specs.declared.world.State.{State}
use Rattle.al_script.specs.declared.world.Made.{Made}
use Rattle.al_script.specs.declared.world.Held.TheVariants.{Goes}
use Rattle.al_script.specs.declared.world.Change.{Change}
use Rattle.al_script.specs.Scripts.{scripts, begun}
use Rattle.al_script.specs.Worlds.{shared_of, tasks_of, world_of}

abbrev first : (functions : List (List Instruction)) → Shared → (world.TaskName → world.Held Control) → world.World (scripts functions)
first functions s f = record { shared = s; tasks = f; privates = λ _. tt; work = 0 }

-- over an empty store, with one task
pub opens : (functions : List (List Instruction)) (region : ℕ) (start : Start) (store : Contents) (control : Control) (state : State) (made : Made) (tasks : List Change) → store ≡ record { region = region; blocks = [] } → shared_of made state ≡ opening_shared store.region store.blocks None → control ≡ begun start → tasks ≡ record { task = first_task 0; held = Goes control } ∷ [] → world_of functions (record { state = state; made = made; tasks = tasks }) ≡ opening (scripts functions) region [] start
opens functions region start store control state made tasks e shared c t =
    ap (λ (s : Shared). first functions s (tasks_of functions tasks)) (shared ∙ ap (λ (k : Contents). opening_shared k.region k.blocks None) e)
    ∙ ap (λ (l : List Change). first functions (opening_shared region [] None) (tasks_of functions l)) (t ∙ ap (λ (k : Control). record { task = first_task 0; held = Goes k } ∷ []) c)
