-- Harts go out and come home.
use Rattle.std.proofs.Common.{◌≡◌, ◌≢◌, ℕ, zero, suc, ◌+◌, ◌<◌, ◌≤◌, ◌^◌, true, false, ◌==◌, List, [], ◌∷◌, length, map, set, get_or, refl, sym, ap, ◌∙◌, subst, arith, ◌⊎◌, inl, inr, cond, Option, Some, None, slice_get, option_map}
use Rattle.std.specs.Prelude.{is_some, IsSome, nat_lt, is_none, option_and_then}
use Rattle.std.specs.List.{AllByRecursion, sum_by, count_by}
use Rattle.std.proofs.lemmas.Option.{same_Some, slice_get_past}
use Rattle.std.proofs.lemmas.Bool.Decides.{eqb_tells}
use Rattle.std.proofs.lemmas.Bool.{cases_lt}
use Rattle.al_world.specs.Channels.{changed_at}
use Rattle.al_world.specs.Procs.{ProcState, first_ready}
use Rattle.al_world.proofs.Lists.{and_true, all_to}
use Rattle.rv_exec.specs.declared.run.Hart.{Hart}
use Rattle.rv_exec.specs.declared.run.Privates.{Privates}
use Rattle.task_book.specs.declared.proc.Proc.{Proc}
use Rattle.task_book.specs.declared.proc.Task.{Task}
use Rattle.task_book.specs.Queues.{chain}
use Rattle.task_book.specs.Procs.{proc_at}
use Rattle.task_book.specs.Homes.{homes_of, home_at}
use Rattle.task_book.specs.Table.{TaskState, at, is_away, can_run, live_of}
use Rattle.task_book.specs.Lending.{hart_in, with_hart, re_harted}
use Rattle.task_book.specs.Kept.{IsKept, IsGood, IsLent, procs_of, state_of, task_of, waits_on}
use Rattle.task_book.proofs.Places.{rising_set, under_set, at_index, at_set_same, at_set_other}
use Rattle.task_book.proofs.Tables.{listed_same, get-listed, length-listed}
use Rattle.task_book.proofs.Views.{at_number, good_changed, known_changed, first_view, first_none}
use Rattle.task_book.proofs.Seen.{seen, privates_seen, get_privates}
use Rattle.task_book.proofs.Ready.{live_stays}
use Rattle.task_book.proofs.Queueing.{eqb_not}

-- ---- lists of tasks

pub set_changed : {X : Type 0} (f : X → X) (xs : List X) (i : ℕ) (x y d : X) → get_or xs i d ≡ x → f x ≡ y → set xs i y ≡ changed_at i f xs
set_changed f [] i x y d e h = refl
set_changed f (z ∷ zs) zero x y d e h = ap (λ w. w ∷ zs) (sym h ∙ ap f (sym e))
set_changed f (z ∷ zs) (suc i) x y d e h = ap (λ ws. z ∷ ws) (set_changed f zs i x y d e h)

pub homes-with : (u : ℕ) (h : Option Hart) (tasks : List (Option Task)) → homes_of (with_hart u h tasks) ≡ homes_of tasks
homes-with u h [] = refl
homes-with zero h (x ∷ xs) = ap (λ o. o ∷ homes_of xs) (on x)
  where
    on : (x : Option Task) → option_map (λ (x : Task). x.proc) (option_map (λ (x : Task). record x { hart = h }) x) ≡ option_map (λ (x : Task). x.proc) x
    on None = refl
    on (Some x) = refl
homes-with (suc u) h (x ∷ xs) = ap (λ os. option_map (λ (x : Task). x.proc) x ∷ os) (homes-with u h xs)

pub seen-with : (u : ℕ) (h : Option Hart) (tasks : List (Option Task)) → map task_of (with_hart u h tasks) ≡ changed_at u (re_harted h) (map task_of tasks)
seen-with u h [] = refl
seen-with zero h (x ∷ xs) = ap (λ o. o ∷ map task_of xs) (on x)
  where
    on : (x : Option Task) → task_of (option_map (λ (x : Task). record x { hart = h }) x) ≡ re_harted h (task_of x)
    on None = refl
    on (Some x) = refl
seen-with (suc u) h (x ∷ xs) = ap (λ os. task_of x ∷ os) (seen-with u h xs)

pub length-with : (u : ℕ) (h : Option Hart) (tasks : List (Option Task)) → length (with_hart u h tasks) ≡ length tasks
length-with u h [] = refl
length-with zero h (x ∷ xs) = refl
length-with (suc u) h (x ∷ xs) = ap suc (length-with u h xs)

pub none-with : (u t : ℕ) (h : Option Hart) (tasks : List (Option Task)) → slice_get tasks t ≡ Some None → slice_get (with_hart u h tasks) t ≡ Some None
none-with u t h [] e = e
none-with zero zero h (x ∷ xs) e = ap (λ o. Some (option_map (λ (x : Task). record x { hart = h }) o)) (same_Some x None e)
none-with zero (suc t) h (x ∷ xs) e = e
none-with (suc u) zero h (x ∷ xs) e = e
none-with (suc u) (suc t) h (x ∷ xs) e = none-with u t h xs e

pub with-with : (u : ℕ) (h k : Option Hart) (tasks : List (Option Task)) → with_hart u h (with_hart u k tasks) ≡ with_hart u h tasks
with-with u h k [] = refl
with-with zero h k (None ∷ xs) = refl
with-with zero h k (Some x ∷ xs) = refl
with-with (suc u) h k (x ∷ xs) = ap (λ ys. x ∷ ys) (with-with u h k xs)

-- a task as it was before one had another hart
pub record Before (tasks : List (Option Task)) (u t : ℕ) (h : Option Hart) (x : Task) : Type 0 where
  pub task : Task
  pub there : slice_get tasks t ≡ Some (Some task)
  pub proc : x.proc ≡ task.proc
  pub branches : x.branches ≡ task.branches
  pub hart : ((t ≡ u) × (x.hart ≡ h)) ⊎ ((t ≢ u) × (x.hart ≡ task.hart))

pub before : (u t : ℕ) (h : Option Hart) (tasks : List (Option Task)) (x : Task) → slice_get (with_hart u h tasks) t ≡ Some (Some x) → Before tasks u t h x
before u t h [] x e = absurd (cc)
before zero zero h (None ∷ xs) x e = absurd (let f : None ≡ Some x = same_Some None (Some x) e in cc)
before zero zero h (Some y ∷ xs) x e =
    let f : record y { hart = h } ≡ x = same_Some _ x (same_Some (Some (record y { hart = h })) (Some x) e) in
    record { task = y; there = refl; proc = ap (λ (z : Task). z.proc) (sym f); branches = ap (λ (z : Task). z.branches) (sym f); hart = inl (refl, ap (λ (z : Task). z.hart) (sym f)) }
before zero (suc t) h (y ∷ xs) x e = record { task = x; there = e; proc = refl; branches = refl; hart = inr ((λ f. absurd (omega arith)), refl) }
before (suc u) zero h (y ∷ xs) x e = record { task = x; there = e; proc = refl; branches = refl; hart = inr ((λ f. absurd (omega arith)), refl) }
before (suc u) (suc t) h (y ∷ xs) x e =
    let b = before u t h xs x e in
    record { task = b.task; there = b.there; proc = b.proc; branches = b.branches; hart = elim b.hart [ inl k ↦ inl (ap suc k.0, k.1) | inr k ↦ inr ((λ f. k.0 (omega arith)), k.1) ] }

-- a slot with a home has a task
pub home_task : (tasks : List (Option Task)) (t p : ℕ) → home_at (homes_of tasks) t ≡ Some p → (x : Task) × (slice_get tasks t ≡ Some (Some x)) × (x.proc ≡ p)
home_task [] t p e = absurd (cc)
home_task (None ∷ xs) zero p e = absurd (cc)
home_task (Some x ∷ xs) zero p e = (x, refl, same_Some x.proc p e)
home_task (x ∷ xs) (suc t) p e = home_task xs t p e

pub some_task : (tasks : List (Option Task)) (t : ℕ) (x : Task) (d : Option Task) → IsSome (home_at (homes_of tasks) t) → get_or tasks t d ≡ Some x → slice_get tasks t ≡ Some (Some x)
some_task [] t x d h e = absurd (cc)
some_task (y ∷ ys) zero x d h e = ap Some e
some_task (y ∷ ys) (suc t) x d h e = some_task ys t x d h e

pub hart_at : (tasks : List (Option Task)) (t : ℕ) (x : Task) → slice_get tasks t ≡ Some (Some x) → hart_in tasks t ≡ x.hart
hart_at [] t x e = absurd (cc)
hart_at (y ∷ ys) zero x e = ap (option_and_then (λ (x : Task). x.hart)) (same_Some y (Some x) e)
hart_at (y ∷ ys) (suc t) x e = hart_at ys t x e

pub hart_home : (tasks : List (Option Task)) (t : ℕ) (h : Hart) → hart_in tasks t ≡ Some h → IsSome (home_at (homes_of tasks) t)
hart_home [] t h e = absurd (cc)
hart_home (None ∷ xs) zero h e = absurd (cc)
hart_home (Some x ∷ xs) zero h e = refl
hart_home (x ∷ xs) (suc t) h e = hart_home xs t h e

pub hart_seen : (tasks : List (Option Task)) (t : ℕ) → option_and_then (λ (x : TaskState). x.hart) (at (map task_of tasks) t) ≡ hart_in tasks t
hart_seen [] t = refl
hart_seen (None ∷ xs) zero = refl
hart_seen (Some x ∷ xs) zero = refl
hart_seen (x ∷ xs) (suc t) = hart_seen xs t

-- ---- procs

abbrev pub with_privates : Option Privates → Proc → Proc
with_privates v r = record { number = r.number; ready = r.ready; live = r.live; parent = r.parent; privates = v }

module _ (links : List ℕ) (rs : List Proc) (tasks : List (Option Task)) (free : List ℕ) (made ready : ℕ) (kept : IsKept links rs tasks free made ready) where
  -- a table in which one task has another hart, and one proc other private globals or none
  pub hart_kept : (u : ℕ) (h : Option Hart) → ((t : ℕ) (x : Task) → slice_get (with_hart u h tasks) t ≡ Some (Some x) → x.hart ≡ None → (q : Proc) → proc_at x.proc rs ≡ Some q → IsLent t q) → IsKept links rs (with_hart u h tasks) free made ready
  hart_kept u h harts = record {
    rising = kept.rising;
    under = kept.under;
    size = kept.size ∙ sym (length-with u h tasks);
    small = subst (λ n. n < 2 ^ 32) (sym (length-with u h tasks)) kept.small;
    good = λ p r f. subst (λ homes. IsGood links homes r) (sym (homes-with u h tasks)) (kept.good p r f);
    known = λ t p f. kept.known t p (ap (λ homes. home_at homes t) (sym (homes-with u h tasks)) ∙ f);
    harts = harts;
    branches = λ t x f. let b = before u t h tasks x f in b.branches ∙ kept.branches t b.task b.there;
    used = kept.used ∙ sym (length-with u h tasks);
    total = kept.total ∙ sym (length-with u h tasks);
    sum = kept.sum;
    unused = all_to (λ t. slice_get tasks t ≡ Some None) (λ t. slice_get (with_hart u h tasks) t ≡ Some None) (λ t f. none-with u t h tasks f) free kept.unused;
    different = kept.different;
  }

  module _ (i : ℕ) (r : Proc) (e : slice_get rs i ≡ Some r) (v : Option Privates) where
    s : Proc
    s = with_privates v r

    pub procs_stay : procs_of links (set rs i (with_privates v r)) made ≡ procs_of links rs made
    procs_stay = listed_same (λ m. state_of links (proc_at m (set rs i (with_privates v r)))) (λ m. state_of links (proc_at m rs)) made (λ m. on m (eqb_tells m r.number))
      where
        on : (m : ℕ) → (((m == r.number) ≡ true) × (m ≡ r.number)) ⊎ (((m == r.number) ≡ false) × (m ≢ r.number)) → state_of links (proc_at m (set rs i (with_privates v r))) ≡ state_of links (proc_at m rs)
        on m (inl k) = ap (λ p. state_of links (proc_at p (set rs i (with_privates v r)))) k.1 ∙ ap (state_of links) (at_set_same rs 0 i r (with_privates v r) kept.rising e refl) ∙ ap (state_of links) (sym (at_index rs 0 i r kept.rising e)) ∙ ap (λ p. state_of links (proc_at p rs)) (sym k.1)
        on m (inr k) = ap (state_of links) (at_set_other rs i m r (with_privates v r) e refl k.1)

    pub privates_kept : (v ≡ None → 0 < r.ready.len) → ((t : ℕ) (x : Task) → slice_get tasks t ≡ Some (Some x) → x.hart ≡ None → (q : Proc) → proc_at x.proc (set rs i (with_privates v r)) ≡ Some q → IsLent t q) → IsKept links (set rs i (with_privates v r)) tasks free made ready
    privates_kept away harts =
        let good = kept.good r.number r (at_index rs 0 i r kept.rising e) in
        record {
          rising = rising_set rs 0 i r (with_privates v r) kept.rising e refl;
          under = under_set rs made i r (with_privates v r) kept.under e refl;
          size = kept.size;
          small = kept.small;
          good = good_changed links (homes_of tasks) rs i r (with_privates v r) kept.rising e refl (λ p q f ne. kept.good p q f) (record { queue = good.queue; here = good.here; live = good.live; some = good.some; parent = good.parent; away = away });
          known = λ t p f. known_changed rs i p r (with_privates v r) kept.rising e refl (kept.known t p f);
          harts = harts;
          branches = λ t x f. kept.branches t x f ∙ sym (ap (count_by (waits_on t)) procs_stay);
          used = ap (λ n. n + length free) (live_stays rs i r (with_privates v r) e refl) ∙ kept.used;
          total = ap (λ n. n + length free) (ap (sum_by (λ (q : ProcState ℕ). q.live)) procs_stay) ∙ kept.total;
          sum = ap (sum_by (λ (q : ProcState ℕ). length q.ready)) procs_stay ∙ kept.sum;
          unused = kept.unused;
          different = kept.different;
        }

-- ---- what is known of a proc that may be lent, or that is

module _ (links : List ℕ) (rs : List Proc) (tasks : List (Option Task)) (free : List ℕ) (made ready : ℕ) (kept : IsKept links rs tasks free made ready) where
  known_at : (p : ℕ) → (proc_at p rs ≡ None → ⊥) → IsSome (proc_at p rs)
  known_at p ne = on (proc_at p rs) refl
    where
      on : (o : Option Proc) → proc_at p rs ≡ o → IsSome o
      on None e = absurd (ne e)
      on (Some r) e = refl

  pub runs_known : (p : ℕ) → can_run (seen links rs tasks made) p ≡ true → IsSome (proc_at p rs)
  runs_known p h = known_at p (λ e. let none = first_none links rs made p e in let parts = and_true (is_some (first_ready (procs_of links rs made) p)) (is_some (at (privates_seen rs made) p)) h in let f = sym (ap is_some none) ∙ parts.0 in absurd (cc))

  pub runs_first : (p : ℕ) (r : Proc) → proc_at p rs ≡ Some r → can_run (seen links rs tasks made) p ≡ true → (0 < r.ready.len) × (r.privates ≢ None)
  runs_first p r e h =
      let parts = and_true (is_some (first_ready (procs_of links rs made) p)) _ h in
      let first = ap is_some (first_view links rs made p r kept.under e) ∙ parts.0 in
      let there = ap is_some (sym (get_privates links rs tasks free made ready kept p r e)) ∙ parts.1 in
      (positive r.ready.len first, λ none. let f = sym (ap is_some none) ∙ there in absurd (cc))
    where
      positive : (n : ℕ) → is_some (cond (n == 0) None (Some r.ready.head)) ≡ true → 0 < n
      positive zero f = absurd (cc)
      positive (suc n) f = omega arith

  pub away_known : (p : ℕ) → is_away (seen links rs tasks made) p ≡ true → IsSome (proc_at p rs)
  away_known p h = known_at p (λ e. let parts = and_true (nat_lt 0 (live_of (seen links rs tasks made) p)) _ h in let live = dead e (cases_lt p made) in absurd (let f = sym (ap (nat_lt 0) live) ∙ parts.0 in cc))
    where
      dead : proc_at p rs ≡ None → (p < made) ⊎ (made ≤ p) → live_of (seen links rs tasks made) p ≡ 0
      dead e (inl lt) = rw (get-listed (λ n. state_of links (proc_at n rs)) made p lt, e) refl
      dead e (inr le) = rw (slice_get_past (procs_of links rs made) p (rw (length-listed (λ n. state_of links (proc_at n rs)) made) le)) refl

  pub away_none : (p : ℕ) (r : Proc) → proc_at p rs ≡ Some r → is_away (seen links rs tasks made) p ≡ true → r.privates ≡ None
  away_none p r e h =
      let parts = and_true (nat_lt 0 (live_of (seen links rs tasks made) p)) _ h in
      on r.privates (ap is_none (sym (get_privates links rs tasks free made ready kept p r e)) ∙ parts.1)
    where
      on : (o : Option Privates) → is_none o ≡ true → o ≡ None
      on None f = refl
      on (Some v) f = absurd (cc)

  pub head_home : (p : ℕ) (r : Proc) → proc_at p rs ≡ Some r → 0 < r.ready.len → home_at (homes_of tasks) r.ready.head ≡ Some r.number
  head_home p r e some = on r.ready.len r.ready.head (kept.good p r e).here some
    where
      on : (n head : ℕ) → AllByRecursion (λ t. home_at (homes_of tasks) t ≡ Some r.number) (chain links n head) → 0 < n → home_at (homes_of tasks) head ≡ Some r.number
      on zero head h some = absurd (omega arith)
      on (suc n) head h some = h.0

  pub head_hart : (p : ℕ) (r : Proc) → proc_at p rs ≡ Some r → 0 < r.ready.len → r.privates ≢ None → IsSome (hart_in tasks r.ready.head)
  head_hart p r e some here =
      let t = home_task tasks r.ready.head r.number (head_home p r e some) in
      ap is_some (hart_at tasks r.ready.head t.0 t.1) ∙ on t.0 t.1 t.2 t.0.hart refl
    where
      on : (x : Task) → slice_get tasks r.ready.head ≡ Some (Some x) → x.proc ≡ r.number → (h : Option Hart) → x.hart ≡ h → is_some h ≡ true
      on x there proc None none = absurd (here (kept.harts r.ready.head x there none r (ap (λ n. proc_at n rs) (proc ∙ at_number rs p r e) ∙ e)).away)
      on x there proc (Some h) f = refl

  pub first_is : (p : ℕ) (r : Proc) → proc_at p rs ≡ Some r → 0 < r.ready.len → first_ready (procs_of links rs made) p ≡ Some r.ready.head
  first_is p r e some = sym (first_view links rs made p r kept.under e) ∙ (rw (eqb_not r.ready.len 0 (λ f. absurd (omega arith))) refl)

  -- ---- a proc is lent, or comes home

  module _ (p i : ℕ) (r : Proc) (e : slice_get rs i ≡ Some r) (found : proc_at p rs ≡ Some r) where
    same_proc : (q : Proc) (n : ℕ) (s : Proc) → n ≡ r.number → s.number ≡ r.number → proc_at n (set rs i s) ≡ Some q → s ≡ q
    same_proc q n s f m g = same_Some s q (sym (at_set_same rs 0 i r s kept.rising e m) ∙ ap (λ n. proc_at n (set rs i s)) (sym f) ∙ g)

    pub lent_kept : 0 < r.ready.len → r.privates ≢ None → IsKept links (set rs i (with_privates None r)) (with_hart r.ready.head None tasks) free made ready
    lent_kept some here = hart_kept links (set rs i s) tasks free made ready first r.ready.head None harts
      where
        s : Proc
        s = with_privates None r

        first : IsKept links (set rs i (with_privates None r)) tasks free made ready
        first = privates_kept links rs tasks free made ready kept i r e None (λ f. some) (λ t x there none q g. on t x there none q g (eqb_tells x.proc r.number))
          where
            on : (t : ℕ) (x : Task) → slice_get tasks t ≡ Some (Some x) → x.hart ≡ None → (q : Proc) → proc_at x.proc (set rs i (with_privates None r)) ≡ Some q → (((x.proc == r.number) ≡ true) × (x.proc ≡ r.number)) ⊎ (((x.proc == r.number) ≡ false) × (x.proc ≢ r.number)) → IsLent t q
            on t x there none q g (inl k) = absurd (here (kept.harts t x there none r (ap (λ n. proc_at n rs) k.1 ∙ at_index rs 0 i r kept.rising e)).away)
            on t x there none q g (inr k) = kept.harts t x there none q (sym (at_set_other rs i x.proc r (with_privates None r) e refl k.1) ∙ g)

        harts : (t : ℕ) (x : Task) → slice_get (with_hart r.ready.head None tasks) t ≡ Some (Some x) → x.hart ≡ None → (q : Proc) → proc_at x.proc (set rs i (with_privates None r)) ≡ Some q → IsLent t q
        harts t x there none q g = on b.hart
          where
            b : Before tasks r.ready.head t None x
            b = before r.ready.head t None tasks x there

            on : ((t ≡ r.ready.head) × (x.hart ≡ None)) ⊎ ((t ≢ r.ready.head) × (x.hart ≡ b.task.hart)) → IsLent t q
            on (inl k) =
                let t0 = home_task tasks r.ready.head r.number (head_home p r found some) in
                let same : t0.0 ≡ b.task = same_Some t0.0 b.task (same_Some (Some t0.0) (Some b.task) (sym t0.1 ∙ ap (slice_get tasks) (sym k.0) ∙ b.there)) in
                let number : x.proc ≡ r.number = b.proc ∙ ap (λ (y : Task). y.proc) (sym same) ∙ t0.2 in
                subst (IsLent t) (same_proc q x.proc (with_privates None r) number refl g) (record { away = refl; some = some; first = sym k.0 })
            on (inr k) = first.harts t b.task b.there (sym k.1 ∙ none) q (ap (λ n. proc_at n (set rs i (with_privates None r))) (sym b.proc) ∙ g)

    pub home_kept : (h : Hart) (v : Privates) → 0 < r.ready.len → IsKept links (set rs i (with_privates (Some v) r)) (with_hart r.ready.head (Some h) tasks) free made ready
    home_kept h v some = privates_kept links rs (with_hart r.ready.head (Some h) tasks) free made ready first i r e (Some v) (λ f. absurd (cc)) harts
      where
        away : (t : ℕ) (x : Task) → slice_get (with_hart r.ready.head (Some h) tasks) t ≡ Some (Some x) → x.hart ≡ None → (t ≢ r.ready.head) × ((q : Proc) → proc_at x.proc rs ≡ Some q → IsLent t q)
        away t x there none = on b.hart
          where
            b : Before tasks r.ready.head t (Some h) x
            b = before r.ready.head t (Some h) tasks x there

            on : ((t ≡ r.ready.head) × (x.hart ≡ Some h)) ⊎ ((t ≢ r.ready.head) × (x.hart ≡ b.task.hart)) → (t ≢ r.ready.head) × ((q : Proc) → proc_at x.proc rs ≡ Some q → IsLent t q)
            on (inl k) = absurd (let f = sym none ∙ k.1 in cc)
            on (inr k) = (k.0, λ q g. kept.harts t b.task b.there (sym k.1 ∙ none) q (ap (λ n. proc_at n rs) (sym b.proc) ∙ g))

        first : IsKept links rs (with_hart r.ready.head (Some h) tasks) free made ready
        first = hart_kept links rs tasks free made ready kept r.ready.head (Some h) (λ t x there none. (away t x there none).1)

        harts : (t : ℕ) (x : Task) → slice_get (with_hart r.ready.head (Some h) tasks) t ≡ Some (Some x) → x.hart ≡ None → (q : Proc) → proc_at x.proc (set rs i (with_privates (Some v) r)) ≡ Some q → IsLent t q
        harts t x there none q g = on (eqb_tells x.proc r.number)
          where
            on : (((x.proc == r.number) ≡ true) × (x.proc ≡ r.number)) ⊎ (((x.proc == r.number) ≡ false) × (x.proc ≢ r.number)) → IsLent t q
            on (inl k) = absurd ((away t x there none).0 (sym ((away t x there none).1 r (ap (λ n. proc_at n rs) k.1 ∙ at_index rs 0 i r kept.rising e)).first))
            on (inr k) = (away t x there none).1 q (sym (at_set_other rs i x.proc r (with_privates (Some v) r) e refl k.1) ∙ g)

  pub answered_kept : (t : ℕ) (h : Hart) → IsKept links rs (with_hart t (Some h) (with_hart t None tasks)) free made ready
  answered_kept t h = subst (λ ts. IsKept links rs ts free made ready) (sym (with-with t (Some h) None tasks)) (hart_kept links rs tasks free made ready kept t (Some h) harts)
    where
      harts : (u : ℕ) (x : Task) → slice_get (with_hart t (Some h) tasks) u ≡ Some (Some x) → x.hart ≡ None → (q : Proc) → proc_at x.proc rs ≡ Some q → IsLent u q
      harts u x there none q g = on b.hart
        where
          b : Before tasks t u (Some h) x
          b = before t u (Some h) tasks x there

          on : ((u ≡ t) × (x.hart ≡ Some h)) ⊎ ((u ≢ t) × (x.hart ≡ b.task.hart)) → IsLent u q
          on (inl k) = absurd (let f = sym none ∙ k.1 in cc)
          on (inr k) = kept.harts u b.task b.there (sym k.1 ∙ none) q (ap (λ n. proc_at n rs) (sym b.proc) ∙ g)
