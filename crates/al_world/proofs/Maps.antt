-- A map from tasks, or from procs, with another value at one place, and lists with one element changed.
use Rattle.std.proofs.Common.{zero, suc, List, [], ◌∷◌, option_map, ◌≡◌, ◌≢◌, ℕ, Bool, true, ◌&&◌, ap₂, false, cond, ◌==◌, ◌⊎◌, inl, inr, refl, ap}
use Rattle.std.proofs.lemmas.Bool.Decides.{eqb_tells}
use Rattle.std.specs.Prelude.{slice_get}
use Rattle.al_world.specs.Channels.{changed_at}
use Rattle.al_world.specs.World.{TaskName, same_task, at_task, at_proc}

pub same_task_tells : (t u : TaskName) → ((same_task t u ≡ true) × (t ≡ u)) ⊎ ((same_task t u ≡ false) × (t ≢ u))
same_task_tells t u = both (t.proc == u.proc) (t.number == u.number) (eqb_tells t.proc u.proc) (eqb_tells t.number u.number)
  where
    both : (a b : Bool) → ((a ≡ true) × (t.proc ≡ u.proc)) ⊎ ((a ≡ false) × (t.proc ≢ u.proc)) → ((b ≡ true) × (t.number ≡ u.number)) ⊎ ((b ≡ false) × (t.number ≢ u.number)) → ((a && b ≡ true) × (t ≡ u)) ⊎ ((a && b ≡ false) × (t ≢ u))
    both a b (inl x) (inl y) = inl (ap₂ ◌&&◌ x.0 y.0, λ i. record { proc = x.1 i; number = y.1 i })
    both a b (inr x) y = inr (ap (λ v. v && b) x.0, λ e. x.1 (ap (λ (n : TaskName). n.proc) e))
    both a b (inl x) (inr y) = inr (ap₂ ◌&&◌ x.0 y.0, λ e. y.1 (ap (λ (n : TaskName). n.number) e))

-- a fact on the value at u: where u is t it is x, and elsewhere as before
pub at_task_cases : {X : Type 0} (P : X → Type 0) (t u : TaskName) (x : X) (f : TaskName → X) → (u ≡ t → P x) → (u ≢ t → P (f u)) → P (at_task t x f u)
at_task_cases P t u x f h k = go (same_task u t) (same_task_tells u t)
  where
    go : (b : Bool) → ((b ≡ true) × (u ≡ t)) ⊎ ((b ≡ false) × (u ≢ t)) → P (cond b x (f u))
    go true (inl e) = h e.1
    go false (inr e) = k e.1
    go true (inr e) = absurd (let c = e.0 in cc)
    go false (inl e) = absurd (let c = e.0 in cc)

pub at_proc_cases : {X : Type 0} (P : X → Type 0) (p q : ℕ) (x : X) (f : ℕ → X) → (q ≡ p → P x) → (q ≢ p → P (f q)) → P (at_proc p x f q)
at_proc_cases P p q x f h k = go (q == p) (eqb_tells q p)
  where
    go : (b : Bool) → ((b ≡ true) × (q ≡ p)) ⊎ ((b ≡ false) × (q ≢ p)) → P (cond b x (f q))
    go true (inl e) = h e.1
    go false (inr e) = k e.1
    go true (inr e) = absurd (let c = e.0 in cc)
    go false (inl e) = absurd (let c = e.0 in cc)

pub get-changed-same : {X : Type 0} (k : ℕ) (f : X → X) (xs : List X) → slice_get (changed_at k f xs) k ≡ option_map f (slice_get xs k)
get-changed-same k f [] = refl
get-changed-same zero f (x ∷ xs) = refl
get-changed-same (suc k) f (x ∷ xs) = get-changed-same k f xs

pub get-changed-other : {X : Type 0} (k j : ℕ) (f : X → X) (xs : List X) → j ≢ k → slice_get (changed_at k f xs) j ≡ slice_get xs j
get-changed-other k j f [] ne = refl
get-changed-other zero zero f (x ∷ xs) ne = absurd (ne refl)
get-changed-other zero (suc j) f (x ∷ xs) ne = refl
get-changed-other (suc k) zero f (x ∷ xs) ne = refl
get-changed-other (suc k) (suc j) f (x ∷ xs) ne = get-changed-other k j f xs (λ e. ne (ap suc e))
