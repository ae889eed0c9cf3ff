-- Tables after a task was taken out or put in.
use Rattle.std.proofs.Common.{◌≡◌, ℕ, Bool, true, false, cond, refl, ap, ◌∙◌, arith}
use Rattle.std.proofs.lemmas.Bool.Decides.{nat_tests}
use Rattle.std.specs.Prelude.{◌==◌, ◌&&◌, nat_eq, List, Option, Some, unwrap_or}
use Rattle.al_world.specs.World.{TaskName, same_task, at_task, at_proc}
use Rattle.al_tasks.specs.Tables.{key_of, same_key, task_held}
use Rattle.al_tasks.specs.declared.tasks.Held.{Held}

same_number : (a b : ℕ) → (a == b) ≡ (b == a)
same_number a b = grind (arith, nat_tests)

same_keys : (t u : TaskName) → same_key (key_of t) (key_of u) ≡ same_task u t
same_keys t u = λ i. same_number t.proc u.proc i && same_number t.number u.number i

chosen : (b : Bool) (w o : Option Held) → task_held (cond b w o) ≡ cond b (task_held w) (task_held o)
chosen true w o = refl
chosen false w o = refl

-- where a table has that at a key, and what another has at the others
pub tasks-updated : (t : TaskName) (w : Option Held) (before after : ℕ × ℕ → Option Held)
    → ((q : ℕ × ℕ) → after q ≡ cond (same_key (key_of t) q) w (before q))
    → (λ u. task_held (after (key_of u))) ≡ at_task t (task_held w) (λ u. task_held (before (key_of u)))
tasks-updated t w before after h = λ i u.
    (ap task_held (h (key_of u)) ∙ (chosen (same_key (key_of t) (key_of u)) w (before (key_of u)) ∙ ap (λ b. cond b (task_held w) (task_held (before (key_of u)))) (same_keys t u))) i

chosen_or : (b : Bool) (w : List ℕ) (o : Option (List ℕ)) (fresh : List ℕ) → unwrap_or (cond b (Some w) o) fresh ≡ cond b w (unwrap_or o fresh)
chosen_or true w o fresh = refl
chosen_or false w o fresh = refl

-- the same of private globals
pub privates-updated : (p : ℕ) (w fresh : List ℕ) (before after : ℕ → Option (List ℕ))
    → ((q : ℕ) → after q ≡ cond (nat_eq p q) (Some w) (before q))
    → (λ q. unwrap_or (after q) fresh) ≡ at_proc p w (λ q. unwrap_or (before q) fresh)
privates-updated p w fresh before after h = λ i q.
    (ap (λ o. unwrap_or o fresh) (h q) ∙ (chosen_or (nat_eq p q) w (before q) fresh ∙ ap (λ b. cond b w (unwrap_or (before q) fresh)) (same_number p q))) i

pub ruleset updates = (tasks-updated, privates-updated)
