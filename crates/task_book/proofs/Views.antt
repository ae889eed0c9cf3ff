-- What is seen of procs and tasks, one at a time.
use Rattle.std.proofs.Common.{◌≡◌, ◌≢◌, ℕ, zero, suc, ◌<◌, ◌≤◌, Bool, true, false, ◌==◌, List, [], ◌∷◌, map, set, refl, sym, ap, ◌∙◌, subst, arith, ◌⊎◌, inl, inr, cond, Option, Some, None, slice_get, option_map}
use Rattle.std.specs.Prelude.{is_some, IsSome}
use Rattle.std.specs.Option.{option_map_or}
use Rattle.std.proofs.lemmas.Option.{same_Some, slice_get_past}
use Rattle.std.proofs.lemmas.Bool.Decides.{eqb_tells}
use Rattle.std.proofs.lemmas.Bool.{cases_lt}
use Rattle.al_world.specs.Channels.{changed_at}
use Rattle.al_world.specs.Procs.{ProcState, first_ready}
use Rattle.task_book.specs.declared.proc.Proc.{Proc}
use Rattle.task_book.specs.declared.proc.Task.{Task}
use Rattle.task_book.specs.Queues.{slots_of, chain, first_in}
use Rattle.task_book.specs.Procs.{proc_at, IsRising, IsUnder}
use Rattle.task_book.specs.Homes.{homes_of, home_at}
use Rattle.task_book.specs.Table.{TaskState, at}
use Rattle.task_book.specs.Kept.{state_of, procs_of, task_of, IsGood}
use Rattle.task_book.proofs.Places.{at_index, at_set_same, at_set_other, at_above}
use Rattle.task_book.proofs.Tables.{listed_changed, get-listed, length-listed}

pub at_number : (rs : List Proc) (p : ℕ) (r : Proc) → proc_at p rs ≡ Some r → r.number ≡ p
at_number [] p r e = absurd (cc)
at_number (x ∷ xs) p r e = on (x.number == p) (eqb_tells x.number p) e (at_number xs p r)
  where
    on : (b : Bool) → ((b ≡ true) × (x.number ≡ p)) ⊎ ((b ≡ false) × (x.number ≢ p)) → cond b (Some x) (proc_at p xs) ≡ Some r → (proc_at p xs ≡ Some r → r.number ≡ p) → r.number ≡ p
    on true (inl k) e later = sym (ap (λ (y : Proc). y.number) (same_Some x r e)) ∙ k.1
    on true (inr k) e later = absurd (let a = k.0 in cc)
    on false k e later = later e

pub number_under : (rs : List Proc) (made p : ℕ) (r : Proc) → IsUnder made rs → proc_at p rs ≡ Some r → p < made
number_under rs made p r u e = on (cases_lt p made)
  where
    on : (p < made) ⊎ (made ≤ p) → p < made
    on (inl lt) = lt
    on (inr le) = absurd (let a = at_above rs made p u le in cc)

pub get_proc : (links : List ℕ) (rs : List Proc) (made p : ℕ) (r : Proc) → IsUnder made rs → proc_at p rs ≡ Some r → slice_get (procs_of links rs made) p ≡ Some (state_of links (Some r))
get_proc links rs made p r u e =
    get-listed (λ n. state_of links (proc_at n rs)) made p (number_under rs made p r u e) ∙ ap (λ o. Some (state_of links o)) e

first_in_slots : (links : List ℕ) (n head : ℕ) → (cond (n == 0) None (Some head)) ≡ first_ready (record { ready = chain links n head; live = 0; parent = None } ∷ []) 0
first_in_slots links zero head = refl
first_in_slots links (suc n) head = on (suc n == 0) (eqb_tells (suc n) 0)
  where
    on : (b : Bool) → ((b ≡ true) × (suc n ≡ 0)) ⊎ ((b ≡ false) × (suc n ≢ 0)) → cond b None (Some head) ≡ Some head
    on true (inl k) = absurd (let a = k.1 in omega arith)
    on true (inr k) = absurd (let a = k.0 in cc)
    on false k = refl

pub first_view : (links : List ℕ) (rs : List Proc) (made p : ℕ) (r : Proc) → IsUnder made rs → proc_at p rs ≡ Some r → first_in r.ready ≡ first_ready (procs_of links rs made) p
first_view links rs made p r u e = rw (get_proc links rs made p r u e) (first_in_slots links r.ready.len r.ready.head)

pub first_none : (links : List ℕ) (rs : List Proc) (made p : ℕ) → proc_at p rs ≡ None → first_ready (procs_of links rs made) p ≡ None
first_none links rs made p e = on (cases_lt p made)
  where
    on : (p < made) ⊎ (made ≤ p) → first_ready (procs_of links rs made) p ≡ None
    on (inl lt) = rw (get-listed (λ n. state_of links (proc_at n rs)) made p lt, e) refl
    on (inr le) = rw (slice_get_past (procs_of links rs made) p (rw (length-listed (λ n. state_of links (proc_at n rs)) made) le)) refl

-- one proc changes, and no other one's ready list
pub one_changed : (links more : List ℕ) (rs : List Proc) (made i : ℕ) (r s : Proc) (g : ProcState ℕ → ProcState ℕ) → IsRising 0 rs → slice_get rs i ≡ Some r → s.number ≡ r.number → ((p : ℕ) (q : Proc) → proc_at p rs ≡ Some q → p ≢ r.number → slots_of more q.ready ≡ slots_of links q.ready) → state_of more (Some s) ≡ g (state_of links (Some r)) → procs_of more (set rs i s) made ≡ changed_at r.number g (procs_of links rs made)
one_changed links more rs made i r s g rising e n others own =
    listed_changed (λ m. state_of links (proc_at m rs)) (λ m. state_of more (proc_at m (set rs i s))) g made r.number
    (ap (state_of more) (at_set_same rs 0 i r s rising e n) ∙ own ∙ ap (λ o. g (state_of links o)) (sym (at_index rs 0 i r rising e)))
    (λ m ne. ap (state_of more) (at_set_other rs i m r s e n ne) ∙ on m ne (proc_at m rs) refl)
  where
    on : (m : ℕ) → m ≢ r.number → (o : Option Proc) → proc_at m rs ≡ o → state_of more o ≡ state_of links o
    on m ne None f = refl
    on m ne (Some q) f = let same : slots_of more q.ready ≡ slots_of links q.ready = others m q f ne in rw same refl

pub good_changed : (more : List ℕ) (homes : List (Option ℕ)) (rs : List Proc) (i : ℕ) (r s : Proc) → IsRising 0 rs → slice_get rs i ≡ Some r → s.number ≡ r.number → ((p : ℕ) (q : Proc) → proc_at p rs ≡ Some q → p ≢ r.number → IsGood more homes q) → IsGood more homes s → (p : ℕ) (q : Proc) → proc_at p (set rs i s) ≡ Some q → IsGood more homes q
good_changed more homes rs i r s rising e n others own p q f = on (eqb_tells p r.number)
  where
    on : (((p == r.number) ≡ true) × (p ≡ r.number)) ⊎ (((p == r.number) ≡ false) × (p ≢ r.number)) → IsGood more homes q
    on (inl k) = let same : s ≡ q = same_Some s q (sym (at_set_same rs 0 i r s rising e n) ∙ ap (λ m. proc_at m (set rs i s)) (sym k.1) ∙ f) in subst (IsGood more homes) same own
    on (inr k) = others p q (sym (at_set_other rs i p r s e n k.1) ∙ f) k.1

pub known_changed : (rs : List Proc) (i p : ℕ) (r s : Proc) → IsRising 0 rs → slice_get rs i ≡ Some r → s.number ≡ r.number → IsSome (proc_at p rs) → IsSome (proc_at p (set rs i s))
known_changed rs i p r s rising e n h = on (eqb_tells p r.number)
  where
    on : (((p == r.number) ≡ true) × (p ≡ r.number)) ⊎ (((p == r.number) ≡ false) × (p ≢ r.number)) → IsSome (proc_at p (set rs i s))
    on (inl k) = ap is_some (ap (λ m. proc_at m (set rs i s)) k.1 ∙ at_set_same rs 0 i r s rising e n)
    on (inr k) = ap is_some (at_set_other rs i p r s e n k.1) ∙ h

-- ---- tasks

pub home_view : (tasks : List (Option Task)) (t : ℕ) → option_map (λ (x : TaskState). x.home) (at (map task_of tasks) t) ≡ home_at (homes_of tasks) t
home_view [] t = refl
home_view (x ∷ xs) zero = on x
  where
    on : (x : Option Task) → option_map (λ (x : TaskState). x.home) (task_of x) ≡ option_map (λ (x : Task). x.proc) x
    on None = refl
    on (Some x) = refl
home_view (x ∷ xs) (suc t) = home_view xs t

pub home_seen : (tasks : List (Option Task)) (t : ℕ) → is_some (at (map task_of tasks) t) ≡ true → home_at (homes_of tasks) t ≡ Some (option_map_or (λ (x : TaskState). x.home) (at (map task_of tasks) t) 0)
home_seen tasks t h = sym (home_view tasks t) ∙ on (at (map task_of tasks) t) h
  where
    on : (o : Option TaskState) → is_some o ≡ true → option_map (λ (x : TaskState). x.home) o ≡ Some (option_map_or (λ (x : TaskState). x.home) o 0)
    on None h = absurd (cc)
    on (Some x) h = refl
