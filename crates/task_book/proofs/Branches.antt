-- A task has one more proc to wait for, or one less.
use Rattle.std.proofs.Common.{◌≡◌, ◌≢◌, ℕ, zero, suc, ◌+◌, ◌-◌, ◌<◌, ◌≤◌, Bool, true, false, List, [], ◌∷◌, length, map, refl, sym, ap, ◌∙◌, subst, arith, ◌⊎◌, inl, inr, cond, Option, Some, None, slice_get, option_map}
use Rattle.std.specs.Prelude.{IfSome, nat_eq}
use Rattle.std.specs.List.{sum_by, count_by}
use Rattle.std.proofs.lemmas.Option.{same_Some, slice_get_past, slice_get_within, get_or_from_slice_get}
use Rattle.std.proofs.lemmas.Bool.{cases_lt}
use Rattle.std.proofs.lemmas.List.Sums.{sum_by-cons, get_or-le-sum_by}
use Rattle.al_world.specs.Channels.{changed_at}
use Rattle.al_world.specs.Procs.{ProcState, is_parent}
use Rattle.task_book.specs.declared.proc.Proc.{Proc}
use Rattle.task_book.specs.declared.proc.Task.{Task}
use Rattle.task_book.specs.Queues.{slots_of}
use Rattle.task_book.specs.Procs.{proc_at}
use Rattle.task_book.specs.Homes.{homes_of, home_at, is_of}
use Rattle.task_book.specs.Starting.{with_branch_of, without_branch_of}
use Rattle.task_book.specs.Kept.{IsKept, task_of, procs_of, state_of, waits_on}
use Rattle.task_book.proofs.Tables.{sum_le, get-listed, length-listed}
use Rattle.task_book.proofs.Good.{fits, count_loses}
use Rattle.task_book.proofs.Queueing.{eqb_not, eqb_same}

pub if_some : {X : Type 0} (P : X → Type 0) (o : Option X) → ((x : X) → o ≡ Some x → P x) → IfSome o P
if_some P None h = tt
if_some P (Some x) h = h x refl

pub from_if_some : {X : Type 0} (P : X → Type 0) (o : Option X) → IfSome o P → (x : X) → o ≡ Some x → P x
from_if_some P None h x e = absurd (cc)
from_if_some P (Some y) h x e = subst P (same_Some y x e) h

-- ---- a change that leaves proc and hart

module _ (f : Task → Task) (proc : (x : Task) → (f x).proc ≡ x.proc) (hart : (x : Task) → (f x).hart ≡ x.hart) where
  homes-changed : (u : ℕ) (tasks : List (Option Task)) → homes_of (changed_at u (λ o. option_map f o) tasks) ≡ homes_of tasks
  homes-changed u [] = refl
  homes-changed zero (x ∷ xs) = ap (λ o. o ∷ homes_of xs) (on x)
    where
      on : (x : Option Task) → option_map (λ (x : Task). x.proc) (option_map f x) ≡ option_map (λ (x : Task). x.proc) x
      on None = refl
      on (Some x) = ap Some (proc x)
  homes-changed (suc u) (x ∷ xs) = ap (λ os. option_map (λ (x : Task). x.proc) x ∷ os) (homes-changed u xs)

  seen-changed : (u : ℕ) (tasks : List (Option Task)) → map task_of (changed_at u (λ o. option_map f o) tasks) ≡ map task_of tasks
  seen-changed u [] = refl
  seen-changed zero (x ∷ xs) = ap (λ o. o ∷ map task_of xs) (on x)
    where
      on : (x : Option Task) → task_of (option_map f x) ≡ task_of x
      on None = refl
      on (Some x) = λ i. Some (record { home = proc x i; hart = hart x i })
  seen-changed (suc u) (x ∷ xs) = ap (λ os. task_of x ∷ os) (seen-changed u xs)

  none-changed : (u t : ℕ) (tasks : List (Option Task)) → slice_get tasks t ≡ Some None → slice_get (changed_at u (λ o. option_map f o) tasks) t ≡ Some None
  none-changed u t [] e = e
  none-changed zero zero (x ∷ xs) e = ap (λ o. Some (option_map f o)) (same_Some x None e)
  none-changed zero (suc t) (x ∷ xs) e = e
  none-changed (suc u) zero (x ∷ xs) e = e
  none-changed (suc u) (suc t) (x ∷ xs) e = none-changed u t xs e

  record Was (tasks : List (Option Task)) (u t : ℕ) (x : Task) : Type 0 where
    pub task : Task
    pub there : slice_get tasks t ≡ Some (Some task)
    pub is : ((t ≡ u) × (f task ≡ x)) ⊎ ((t ≢ u) × (task ≡ x))

  was : (u t : ℕ) (tasks : List (Option Task)) (x : Task) → slice_get (changed_at u (λ o. option_map f o) tasks) t ≡ Some (Some x) → Was tasks u t x
  was u t [] x e = absurd (cc)
  was zero zero (None ∷ xs) x e = absurd (let f : None ≡ Some x = same_Some None (Some x) e in cc)
  was zero zero (Some y ∷ xs) x e = record { task = y; there = refl; is = inl (refl, same_Some (f y) x (same_Some (Some (f y)) (Some x) e)) }
  was zero (suc t) (y ∷ xs) x e = record { task = x; there = e; is = inr ((λ f. absurd (omega arith)), refl) }
  was (suc u) zero (y ∷ xs) x e = record { task = x; there = e; is = inr ((λ f. absurd (omega arith)), refl) }
  was (suc u) (suc t) (y ∷ xs) x e =
      let b = was u t xs x e in
      record { task = b.task; there = b.there; is = elim b.is [ inl k ↦ inl (ap suc k.0, k.1) | inr k ↦ inr ((λ f. k.0 (omega arith)), k.1) ] }

length-changed : {X : Type 0} (k : ℕ) (f : X → X) (xs : List X) → length (changed_at k f xs) ≡ length xs
length-changed k f [] = refl
length-changed zero f (x ∷ xs) = refl
length-changed (suc k) f (x ∷ xs) = ap suc (length-changed k f xs)

-- ---- a parent

-- how many of one proc's parent
abbrev pub counted : ℕ → Option ℕ → ℕ
counted t o = cond (is_parent nat_eq (λ u. 0) t o) 1 0

pub homes-joined : (o : Option ℕ) (tasks : List (Option Task)) → homes_of (with_branch_of o tasks) ≡ homes_of tasks
homes-joined None tasks = refl
homes-joined (Some u) tasks = homes-changed (λ x. record x { branches = x.branches + 1 }) (λ x. refl) (λ x. refl) u tasks

pub homes-left : (o : Option ℕ) (tasks : List (Option Task)) → homes_of (without_branch_of o tasks) ≡ homes_of tasks
homes-left None tasks = refl
homes-left (Some u) tasks = homes-changed (λ x. record x { branches = x.branches - 1 }) (λ x. refl) (λ x. refl) u tasks

pub seen-joined : (o : Option ℕ) (tasks : List (Option Task)) → map task_of (with_branch_of o tasks) ≡ map task_of tasks
seen-joined None tasks = refl
seen-joined (Some u) tasks = seen-changed (λ x. record x { branches = x.branches + 1 }) (λ x. refl) (λ x. refl) u tasks

pub seen-left : (o : Option ℕ) (tasks : List (Option Task)) → map task_of (without_branch_of o tasks) ≡ map task_of tasks
seen-left None tasks = refl
seen-left (Some u) tasks = seen-changed (λ x. record x { branches = x.branches - 1 }) (λ x. refl) (λ x. refl) u tasks

pub none-joined : (o : Option ℕ) (t : ℕ) (tasks : List (Option Task)) → slice_get tasks t ≡ Some None → slice_get (with_branch_of o tasks) t ≡ Some None
none-joined None t tasks e = e
none-joined (Some u) t tasks e = none-changed (λ x. record x { branches = x.branches + 1 }) (λ x. refl) (λ x. refl) u t tasks e

pub none-left : (o : Option ℕ) (t : ℕ) (tasks : List (Option Task)) → slice_get tasks t ≡ Some None → slice_get (without_branch_of o tasks) t ≡ Some None
none-left None t tasks e = e
none-left (Some u) t tasks e = none-changed (λ x. record x { branches = x.branches - 1 }) (λ x. refl) (λ x. refl) u t tasks e

pub length-joined : (o : Option ℕ) (tasks : List (Option Task)) → length (with_branch_of o tasks) ≡ length tasks
length-joined None tasks = refl
length-joined (Some u) tasks = length-changed u (λ o. option_map (λ (x : Task). record x { branches = x.branches + 1 }) o) tasks

pub length-left : (o : Option ℕ) (tasks : List (Option Task)) → length (without_branch_of o tasks) ≡ length tasks
length-left None tasks = refl
length-left (Some u) tasks = length-changed u (λ o. option_map (λ (x : Task). record x { branches = x.branches - 1 }) o) tasks

-- a task as it was before
pub record Joined (tasks : List (Option Task)) (o : Option ℕ) (t : ℕ) (x : Task) : Type 0 where
  pub task : Task
  pub there : slice_get tasks t ≡ Some (Some task)
  pub proc : x.proc ≡ task.proc
  pub hart : x.hart ≡ task.hart
  pub branches : x.branches ≡ task.branches + counted t o

pub joined : (o : Option ℕ) (t : ℕ) (tasks : List (Option Task)) (x : Task) → slice_get (with_branch_of o tasks) t ≡ Some (Some x) → Joined tasks o t x
joined None t tasks x e = record { task = x; there = e; proc = refl; hart = refl; branches = omega arith }
joined (Some u) t tasks x e = on (was (λ x. record x { branches = x.branches + 1 }) (λ x. refl) (λ x. refl) u t tasks x e)
  where
    on : Was (λ x. record x { branches = x.branches + 1 }) (λ x. refl) (λ x. refl) tasks u t x → Joined tasks (Some u) t x
    on w = elim w.is [
      | inl k ↦ record { task = w.task; there = w.there; proc = ap (λ (y : Task). y.proc) (sym k.1); hart = ap (λ (y : Task). y.hart) (sym k.1); branches = ap (λ (y : Task). y.branches) (sym k.1) ∙ ap (λ n. w.task.branches + n) (ap {B = ℕ} (λ b. cond b 1 0) (sym (ap (λ v. nat_eq u v) k.0 ∙ eqb_same u))) }
      | inr k ↦ record { task = w.task; there = w.there; proc = ap (λ (y : Task). y.proc) (sym k.1); hart = ap (λ (y : Task). y.hart) (sym k.1); branches = omega (arith, ap (λ (y : Task). y.branches) (sym k.1), ap {B = ℕ} (λ b. cond b 1 0) (eqb_not u t (λ e. k.0 (sym e)))) }
    ]

pub record Left (tasks : List (Option Task)) (o : Option ℕ) (t : ℕ) (x : Task) : Type 0 where
  pub task : Task
  pub there : slice_get tasks t ≡ Some (Some task)
  pub proc : x.proc ≡ task.proc
  pub hart : x.hart ≡ task.hart
  pub branches : x.branches ≡ task.branches - counted t o

pub left : (o : Option ℕ) (t : ℕ) (tasks : List (Option Task)) (x : Task) → slice_get (without_branch_of o tasks) t ≡ Some (Some x) → Left tasks o t x
left None t tasks x e = record { task = x; there = e; proc = refl; hart = refl; branches = omega arith }
left (Some u) t tasks x e = on (was (λ x. record x { branches = x.branches - 1 }) (λ x. refl) (λ x. refl) u t tasks x e)
  where
    on : Was (λ x. record x { branches = x.branches - 1 }) (λ x. refl) (λ x. refl) tasks u t x → Left tasks (Some u) t x
    on w = elim w.is [
      | inl k ↦ record { task = w.task; there = w.there; proc = ap (λ (y : Task). y.proc) (sym k.1); hart = ap (λ (y : Task). y.hart) (sym k.1); branches = ap (λ (y : Task). y.branches) (sym k.1) ∙ ap (λ n. w.task.branches - n) (ap {B = ℕ} (λ b. cond b 1 0) (sym (ap (λ v. nat_eq u v) k.0 ∙ eqb_same u))) }
      | inr k ↦ record { task = w.task; there = w.there; proc = ap (λ (y : Task). y.proc) (sym k.1); hart = ap (λ (y : Task). y.hart) (sym k.1); branches = omega (arith, ap (λ (y : Task). y.branches) (sym k.1), ap {B = ℕ} (λ b. cond b 1 0) (eqb_not u t (λ e. k.0 (sym e)))) }
    ]

-- ---- counts

pub task_home : (tasks : List (Option Task)) (t : ℕ) (x : Task) → slice_get tasks t ≡ Some (Some x) → home_at (homes_of tasks) t ≡ Some x.proc
task_home [] t x e = absurd (cc)
task_home (y ∷ ys) zero x e = ap (option_map (λ (x : Task). x.proc)) (same_Some y (Some x) e)
task_home (y ∷ ys) (suc t) x e = task_home ys t x e

pub count_has : (homes : List (Option ℕ)) (u p : ℕ) → home_at homes u ≡ Some p → 0 < count_by (is_of p) homes
count_has homes u p e = omega (arith, count_loses homes u p e)

pub count_none : (homes : List (Option ℕ)) (p : ℕ) → ((t : ℕ) → home_at homes t ≢ Some p) → count_by (is_of p) homes ≡ 0
count_none [] p h = refl
count_none (x ∷ xs) p h = omega (arith, sum_by-cons (λ o. cond (is_of p o) 1 0) x xs, on x (h 0), count_none xs p (λ t. h (suc t)))
  where
    on : (o : Option ℕ) → o ≢ Some p → ◌≡◌ {A = ℕ} (cond (is_of p o) 1 0) 0
    on None ne = refl
    on (Some q) ne = ap {B = ℕ} (λ b. cond b 1 0) (eqb_not q p (λ e. ne (ap Some e)))

pub procs_fit : (rs : List Proc) → ((i : ℕ) (r : Proc) → slice_get rs i ≡ Some r → 0 < r.live) → length rs ≤ sum_by (λ (r : Proc). r.live) rs
procs_fit [] h = omega arith
procs_fit (r ∷ rs) h = omega (arith, sum_by-cons (λ (r : Proc). r.live) r rs, h 0 r refl, procs_fit rs (λ i q e. h (suc i) q e))

module _ (links : List ℕ) (rs : List Proc) (tasks : List (Option Task)) (free : List ℕ) (made ready : ℕ) (kept : IsKept links rs tasks free made ready) where
  -- what holds of dead procs and of good ones holds of all
  pub each_state : (P : ProcState ℕ → Type 0) → P (record { ready = []; live = 0; parent = None }) → ((p : ℕ) (r : Proc) → proc_at p rs ≡ Some r → P (state_of links (Some r))) → (p : ℕ) (q : ProcState ℕ) → slice_get (procs_of links rs made) p ≡ Some q → P q
  each_state P dead good p q e = on (cases_lt p made)
    where
      state : (o : Option Proc) → proc_at p rs ≡ o → P (state_of links o)
      state None f = dead
      state (Some r) f = good p r f

      on : (p < made) ⊎ (made ≤ p) → P q
      on (inl lt) = let same : state_of links (proc_at p rs) ≡ q = same_Some _ q (sym (get-listed (λ n. state_of links (proc_at n rs)) made p lt) ∙ e) in subst P same (state (proc_at p rs) refl)
      on (inr le) = absurd (let a = slice_get_past (procs_of links rs made) p (rw (length-listed (λ n. state_of links (proc_at n rs)) made) le) in cc)

  le_one : (b : Bool) (n : ℕ) → 0 < n → cond b 1 0 ≤ n
  le_one true n h = h
  le_one false n h = omega arith

  pub few_wait : (u : ℕ) → count_by (waits_on u) (procs_of links rs made) ≤ sum_by (λ (q : ProcState ℕ). q.live) (procs_of links rs made)
  few_wait u = sum_le (λ q. cond (waits_on u q) 1 0) (λ (q : ProcState ℕ). q.live) (procs_of links rs made) (each_state (λ q. cond (waits_on u q) 1 0 ≤ q.live) (omega arith) (λ p r e. le_one (is_parent nat_eq (λ v. 0) u r.parent) r.live (kept.good p r e).some))

  pub few_ready : ready ≤ sum_by (λ (q : ProcState ℕ). q.live) (procs_of links rs made)
  few_ready = omega (arith, kept.sum, sum_le (λ (q : ProcState ℕ). length q.ready) (λ (q : ProcState ℕ). q.live) (procs_of links rs made) (each_state (λ q. length q.ready ≤ q.live) (omega arith) (λ p r e. let good = kept.good p r e in omega (arith, good.live, fits (slots_of links r.ready) (homes_of tasks) r.number good.queue.different good.here))))

  pub branch_fits : (u : ℕ) (x : Task) → slice_get tasks u ≡ Some (Some x) → 0 < length free → x.branches + 1 < 4294967296
  branch_fits u x e some = let small : length tasks < 4294967296 = kept.small in omega (arith, kept.branches u x e, few_wait u, kept.total, small)

  pub branch_some : (u p : ℕ) (r : Proc) (x : Task) → slice_get tasks u ≡ Some (Some x) → slice_get (procs_of links rs made) p ≡ Some (state_of links (Some r)) → r.parent ≡ Some u → 0 < x.branches
  branch_some u p r x e state f =
      let waits : waits_on u (state_of links (Some r)) ≡ true = ap (is_parent nat_eq (λ u. 0) u) f ∙ eqb_same u in
      omega (arith, kept.branches u x e, get_or-le-sum_by (λ v. cond (waits_on u v) 1 0) (procs_of links rs made) p (state_of links (Some r)) (slice_get_within (procs_of links rs made) p (state_of links (Some r)) state), ap {B = ℕ} (λ v. cond (waits_on u v) 1 0) (get_or_from_slice_get (procs_of links rs made) p (state_of links (Some r)) (state_of links (Some r)) state), ap {B = ℕ} (λ b. cond b 1 0) waits)
