-- Procs whose tasks leave and end.
use Rattle.std.proofs.Common.{ℕ, zero, suc, ◌≡◌, List, [], ◌∷◌, length, map, Option, refl, ap, ◌∙◌}
use Rattle.al_world.specs.Channels.{changed_at}
use Rattle.al_world.specs.Procs.{ProcState, Ended, ends}
use Rattle.al_world.specs.World.{TaskName, same_task, Told, Shared}
use Rattle.al_world.specs.Actions.{ends_task, after_end, join_told}
use Rattle.al_world.specs.World as world
use Rattle.al_script.specs.declared.world.State.{State}
use Rattle.al_script.specs.declared.world.Made.{Made}
use Rattle.al_script.specs.declared.tells.Message.{Message}
use Rattle.al_script.specs.Worlds.{shared_of, message_of, effect_of}

pub changed_length : {X : Type 0} (k : ℕ) (f : X → X) (xs : List X) → length (changed_at k f xs) ≡ length xs
changed_length k f [] = refl
changed_length zero f (x ∷ xs) = refl
changed_length (suc k) f (x ∷ xs) = ap (λ n. suc n) (changed_length k f xs)

pub ends_by : (made : Made) (state : State) (task : TaskName) (e : Ended TaskName) (procs : List (ProcState TaskName)) (woke : Option TaskName) (told : List Message) (p : ℕ) → p ≡ task.proc → e ≡ ends same_task (λ (u : TaskName). u.proc) state.procs p → procs ≡ e.procs → woke ≡ e.woke → map message_of told ≡ join_told woke → effect_of made (record { state = record state { procs = procs }; told = told }) ≡ ends_task (shared_of made state) task
ends_by made state task e procs woke told p own h hp hw ht =
    let s : Shared = shared_of made state in
    ap (λ (p : List (ProcState TaskName)). effect_of made (record { state = record state { procs = p }; told = told })) hp
    ∙ (ap (λ (m : List (TaskName × Told)). let x : world.Effect = record { shared = record s { procs = e.procs }; told = m } in x) (ht ∙ ap (λ (w : Option TaskName). join_told w) hw)
    ∙ ap (λ (x : Ended TaskName). after_end s x) (h ∙ ap (λ (q : ℕ). ends same_task (λ (u : TaskName). u.proc) state.procs q) own))
