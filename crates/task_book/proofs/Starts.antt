-- A task begins in a proc, or the first one of several ends.
use Rattle.std.proofs.Common.{◌≡◌, ◌≢◌, ℕ, zero, suc, ◌+◌, ◌-◌, ◌<◌, ◌≤◌, ◌^◌, Bool, true, false, ◌==◌, ◌||◌, not, List, [], ◌∷◌, ◌++◌, length, map, set, get_or, refl, sym, ap, ◌∙◌, subst, arith, ◌⊎◌, inl, inr, cond, Option, Some, None, slice_get, option_map, get_or-set_other, get_or-set_same}
use Rattle.std.specs.Prelude.{is_some, IsSome, drop, nat_eq}
use Rattle.std.specs.List.{AllByRecursion, sum_by, count_by}
use Rattle.std.proofs.lemmas.List.{length-append, length-set, map-set}
use Rattle.std.proofs.lemmas.List.Sums.{sum_by-set, sum_by-cons, get_or-le-sum_by, count_by-le-length}
use Rattle.std.proofs.lemmas.Option.{same_Some, slice_get_past, slice_get_within, get_or_from_slice_get}
use Rattle.std.proofs.lemmas.Bool.Decides.{eqb_tells}
use Rattle.std.proofs.lemmas.Bool.{cases_lt}
use Rattle.al_world.proofs.Lists.{all_append, all_to, and_true, or_false}
use Rattle.al_world.specs.Procs.{ProcState, is_parent, starts_in_proc, loses_first}
use Rattle.rv_exec.specs.declared.run.Hart.{Hart}
use Rattle.task_book.specs.declared.proc.Proc.{Proc}
use Rattle.task_book.specs.declared.proc.Task.{Task}
use Rattle.task_book.specs.Queues.{chain, slots_of, has, are_different, pushed, pushed_links, popped}
use Rattle.task_book.specs.Procs.{proc_at}
use Rattle.task_book.specs.Homes.{homes_of, home_at, is_of}
use Rattle.task_book.specs.Kept.{IsKept, IsGood, IsLent, task_of, procs_of, state_of, waits_on}
use Rattle.task_book.proofs.Queueing.{all_has, tail_in, pushed_other, eqb_not, eqb_false, eqb_same, not_true, pushed_slots, pushed_queue, length-pushed, length-slots, different_push, popped_slots, popped_queue, all_drop}
use Rattle.task_book.proofs.Places.{rising_set, under_set, at_set_same, at_set_other}
use Rattle.task_book.proofs.Tables.{sum_le, sum_changed, sum_kept, get-listed, length-listed}
use Rattle.task_book.proofs.Good.{fits, good_links, good_set, not_has, count_gains, count_loses, all_reset, home_within}
use Rattle.task_book.proofs.Harts.{home_task}
use Rattle.task_book.proofs.Views.{get_proc, at_number, one_changed, good_changed, known_changed}
use Rattle.task_book.proofs.Ready.{few, own_at, own_good, own_state, length-homes}

-- ---- one element of a list

pub get_set_other : {X : Type 0} (xs : List X) (i j : ℕ) (x : X) → j ≢ i → slice_get (set xs i x) j ≡ slice_get xs j
get_set_other [] i j x ne = refl
get_set_other (y ∷ ys) zero zero x ne = absurd (ne refl)
get_set_other (y ∷ ys) zero (suc j) x ne = refl
get_set_other (y ∷ ys) (suc i) zero x ne = refl
get_set_other (y ∷ ys) (suc i) (suc j) x ne = get_set_other ys i j x (λ e. ne (ap suc e))

pub get_set_same : {X : Type 0} (xs : List X) (i : ℕ) (x y : X) → slice_get xs i ≡ Some x → slice_get (set xs i y) i ≡ Some y
get_set_same [] i x y e = absurd (cc)
get_set_same (z ∷ zs) zero x y e = refl
get_set_same (z ∷ zs) (suc i) x y e = get_set_same zs i x y e

pub none_set : (tasks : List (Option Task)) (y t : ℕ) → slice_get tasks y ≡ Some None → slice_get (set tasks t None) y ≡ Some None
none_set tasks y t h = on (eqb_tells y t)
  where
    on : (((y == t) ≡ true) × (y ≡ t)) ⊎ (((y == t) ≡ false) × (y ≢ t)) → slice_get (set tasks t None) y ≡ Some None
    on (inl k) = ap (slice_get (set tasks t None)) k.1 ∙ get_set_same tasks t None None (ap (slice_get tasks) (sym k.1) ∙ h)
    on (inr k) = get_set_other tasks t y None k.1 ∙ h

pub home_none : (tasks : List (Option Task)) (t : ℕ) → slice_get tasks t ≡ Some None → home_at (homes_of tasks) t ≡ None
home_none [] t e = refl
home_none (x ∷ xs) zero e = ap (option_map (λ (x : Task). x.proc)) (same_Some x None e)
home_none (x ∷ xs) (suc t) e = home_none xs t e

pub seen_none : (tasks : List (Option Task)) (t : ℕ) → slice_get tasks t ≡ Some None → slice_get (map task_of tasks) t ≡ Some None
seen_none [] t e = absurd (cc)
seen_none (x ∷ xs) zero e = ap (λ o. Some (task_of o)) (same_Some x None e)
seen_none (x ∷ xs) (suc t) e = seen_none xs t e

-- the last of the free slots
pub all_front : (P : ℕ → Type 0) (xs : List ℕ) (x : ℕ) → AllByRecursion P (xs ++ x ∷ []) → AllByRecursion P xs × P x
all_front P [] x h = (tt, h.0)
all_front P (y ∷ ys) x h = let rest = all_front P ys x h.1 in ((h.0, rest.0), rest.1)

has_last : (xs : List ℕ) (x : ℕ) → has x (xs ++ x ∷ []) ≡ true
has_last [] x = rw (eqb_same x) refl
has_last (y ∷ ys) x = rw (has_last ys x) (on (y == x))
  where
    on : (b : Bool) → (b || true) ≡ true
    on true = refl
    on false = refl

has_front : (xs : List ℕ) (x y : ℕ) → has y (xs ++ x ∷ []) ≡ false → (has y xs ≡ false) × (y ≢ x)
has_front [] x y h = (refl, λ e. eqb_false x y (or_false (x == y) false h).0 (sym e))
has_front (z ∷ zs) x y h =
    let parts = or_false (z == y) (has y (zs ++ x ∷ [])) h in
    let rest = has_front zs x y parts.1 in
    (rw (parts.0, rest.0) refl, rest.1)

pub different_front : (xs : List ℕ) (x : ℕ) → are_different (xs ++ x ∷ []) ≡ true → (are_different xs ≡ true) × AllByRecursion (λ y. y ≢ x) xs
different_front [] x h = (refl, tt)
different_front (y ∷ ys) x h =
    let parts = and_true (not (has y (ys ++ x ∷ []))) (are_different (ys ++ x ∷ [])) h in
    let rest = different_front ys x parts.1 in
    let out = has_front ys x y (not_true _ parts.0) in
    (rw (out.0, rest.0) refl, (out.1, rest.1))

all_both : (P Q : ℕ → Type 0) (xs : List ℕ) → AllByRecursion P xs → AllByRecursion Q xs → AllByRecursion (λ x. P x × Q x) xs
all_both P Q [] h k = tt
all_both P Q (x ∷ xs) h k = ((h.0, k.0), all_both P Q xs h.1 k.1)

-- slots that are free stay so where another slot changes
pub unused_stay : (tasks : List (Option Task)) (free : List ℕ) (t : ℕ) (x : Option Task) → AllByRecursion (λ y. y ≢ t) free → AllByRecursion (λ u. slice_get tasks u ≡ Some None) free → AllByRecursion (λ u. slice_get (set tasks t x) u ≡ Some None) free
unused_stay tasks free t x ne all =
    all_to (λ y. (y ≢ t) × (slice_get tasks y ≡ Some None)) (λ u. slice_get (set tasks t x) u ≡ Some None) (λ y h. get_set_other tasks t y x h.0 ∙ h.1) free (all_both _ _ free ne all)

-- no proc has a parent that does not live
pub none_wait : (links : List ℕ) (rs : List Proc) (tasks : List (Option Task)) (free : List ℕ) (made ready : ℕ) → IsKept links rs tasks free made ready → (t : ℕ) → home_at (homes_of tasks) t ≡ None → count_by (waits_on t) (procs_of links rs made) ≡ 0
none_wait links rs tasks free made ready kept t none = count_zero (waits_on t) (procs_of links rs made) each
  where
    count_zero : (test : ProcState ℕ → Bool) (xs : List (ProcState ℕ)) → ((p : ℕ) (q : ProcState ℕ) → slice_get xs p ≡ Some q → test q ≡ false) → count_by test xs ≡ 0
    count_zero test [] h = refl
    count_zero test (x ∷ xs) h = omega (arith, sum_by-cons (λ q. cond (test q) 1 0) x xs, ap {B = ℕ} (λ b. cond b 1 0) (h 0 x refl), count_zero test xs (λ p q e. h (suc p) q e))

    parent : (q : Proc) → IsGood links (homes_of tasks) q → (o : Option ℕ) → q.parent ≡ o → is_parent nat_eq (λ u. 0) t o ≡ false
    parent q good None e = refl
    parent q good (Some u) e = eqb_not u t (λ f. absurd (let g = ap is_some (ap (home_at (homes_of tasks)) (sym f)) in let h = good.parent u e in let k = ap is_some none in cc))

    state : (o : Option Proc) (p : ℕ) → proc_at p rs ≡ o → waits_on t (state_of links o) ≡ false
    state None p e = refl
    state (Some q) p e = parent q (kept.good p q e) q.parent refl

    each : (p : ℕ) (q : ProcState ℕ) → slice_get (procs_of links rs made) p ≡ Some q → waits_on t q ≡ false
    each p q e = on (cases_lt p made)
      where
        on : (p < made) ⊎ (made ≤ p) → waits_on t q ≡ false
        on (inl lt) = let same : state_of links (proc_at p rs) ≡ q = same_Some _ q (sym (get-listed (λ n. state_of links (proc_at n rs)) made p lt) ∙ e) in subst (λ q. waits_on t q ≡ false) same (state (proc_at p rs) p refl)
        on (inr le) = absurd (let a = slice_get_past (procs_of links rs made) p (rw (length-listed (λ n. state_of links (proc_at n rs)) made) le) in cc)

-- ---- a task begins

abbrev pub started_proc : Proc → ℕ → Proc
started_proc r t = record { number = r.number; ready = pushed r.ready t; live = r.live + 1; parent = r.parent; privates = r.privates }

abbrev pub new_task : ℕ → Hart → Task
new_task p hart = record { proc = p; branches = 0; hart = Some hart }

module _ (links : List ℕ) (rs : List Proc) (tasks : List (Option Task)) (free : List ℕ) (made ready i : ℕ) (r : Proc) (t : ℕ) (hart : Hart) (kept : IsKept links rs tasks (free ++ t ∷ []) made ready) (e : slice_get rs i ≡ Some r) where
  pub unused : slice_get tasks t ≡ Some None
  unused = (all_front (λ u. slice_get tasks u ≡ Some None) free t kept.unused).1

  within : t < length (homes_of tasks)
  within = omega (arith, slice_get_within tasks t None unused, length-homes tasks)

  no_home : (p : ℕ) → home_at (homes_of tasks) t ≢ Some p
  no_home p f = let g = sym (home_none tasks t unused) ∙ f in absurd (cc)

  homes : homes_of (set tasks t (Some (new_task r.number hart))) ≡ set (homes_of tasks) t (Some r.number)
  homes = map-set (λ (o : Option Task). option_map (λ (x : Task). x.proc) o) tasks t (Some (new_task r.number hart))

  pub out : has t (slots_of links r.ready) ≡ false
  out = not_has (homes_of tasks) (slots_of links r.ready) t r.number (own_good links rs tasks (free ++ t ∷ []) made ready i r kept e).here (no_home r.number)

  s : Proc
  s = started_proc r t

  size : length (set tasks t (Some (new_task r.number hart))) ≡ length tasks
  size = length-set tasks t (Some (new_task r.number hart))

  tail_other : (p : ℕ) (q : Proc) → proc_at p rs ≡ Some q → p ≢ r.number → slots_of (pushed_links r.ready links t) q.ready ≡ slots_of links q.ready
  tail_other p q f ne =
      let good = kept.good p q f in
      let own = own_good links rs tasks (free ++ t ∷ []) made ready i r kept e in
      pushed_other links r.ready q.ready t (λ some.
      let tail : home_at (homes_of tasks) r.ready.tail ≡ Some r.number = all_has (λ u. home_at (homes_of tasks) u ≡ Some r.number) (slots_of links r.ready) r.ready.tail own.here (tail_in links r.ready own.queue some) in
      not_has (homes_of tasks) (slots_of links q.ready) r.ready.tail q.number good.here (λ g. ne (sym (at_number rs p q f) ∙ sym (same_Some r.number q.number (sym tail ∙ g)))))

  pub started_view : procs_of (pushed_links r.ready links t) (set rs i (started_proc r t)) made ≡ starts_in_proc r.number t (procs_of links rs made)
  started_view =
      one_changed links (pushed_links r.ready links t) rs made i r (started_proc r t) (λ q. record q { ready = q.ready ++ t ∷ []; live = q.live + 1 }) kept.rising e refl tail_other
      (ap (λ xs. record { ready = xs; live = r.live + 1; parent = r.parent }) (pushed_slots links r.ready t (own_good links rs tasks (free ++ t ∷ []) made ready i r kept e).queue))

  pub started_kept : IsKept (pushed_links r.ready links t) (set rs i (started_proc r t)) (set tasks t (Some (new_task r.number hart))) free made (ready + 1)
  started_kept =
      let own = own_good links rs tasks (free ++ t ∷ []) made ready i r kept e in
      let more : List ℕ = pushed_links r.ready links t in
      let ends = different_front free t kept.different in
      record {
        rising = rising_set rs 0 i r (started_proc r t) kept.rising e refl;
        under = under_set rs made i r (started_proc r t) kept.under e refl;
        size = length-pushed links r.ready t ∙ kept.size ∙ sym size;
        small = subst (λ n. n < 2 ^ 32) (sym size) kept.small;
        good = subst (λ hs. (p : ℕ) (q : Proc) → proc_at p (set rs i (started_proc r t)) ≡ Some q → IsGood more hs q) (sym homes)
            (good_changed more (set (homes_of tasks) t (Some r.number)) rs i r (started_proc r t) kept.rising e refl
            (λ p q f ne. good_links links more (set (homes_of tasks) t (Some r.number)) q (good_set links (homes_of tasks) q t (Some r.number) (kept.good p q f) within (no_home q.number) (λ g. ne (sym (at_number rs p q f) ∙ sym (same_Some r.number q.number g))) (λ g. refl)) (tail_other p q f ne) (length-pushed links r.ready t))
            (record {
              queue = pushed_queue links r.ready t own.queue out (omega (arith, within, length-homes tasks, kept.size));
              here = subst (AllByRecursion (λ u. home_at (set (homes_of tasks) t (Some r.number)) u ≡ Some r.number)) (sym (pushed_slots links r.ready t own.queue)) (all_append _ (slots_of links r.ready) (t ∷ []) (all_reset (homes_of tasks) (slots_of links r.ready) t r.number (Some r.number) out own.here) (get_or-set_same (homes_of tasks) t (Some r.number) None within, tt));
              live = omega (arith, own.live, count_gains (homes_of tasks) t r.number within (no_home r.number));
              some = omega arith;
              parent = λ u f. parent_stays u f (eqb_tells u t);
              away = λ f. omega arith;
            }));
        known = λ u p f. known_changed rs i p r (started_proc r t) kept.rising e refl (known u p f (eqb_tells u t));
        harts = λ u x f none q g. harts u x f none q g (eqb_tells u t) (eqb_tells x.proc r.number);
        branches = λ u x f. branches u x f (eqb_tells u t) ∙ sym (ap (count_by (waits_on u)) started_view ∙ sum_kept (λ q. cond (waits_on u q) 1 0) (λ q. record q { ready = q.ready ++ t ∷ []; live = q.live + 1 }) (procs_of links rs made) r.number (λ q. refl));
        used = omega (arith, kept.used, size, length-append free (t ∷ []), sum_by-set (λ (q : Proc). q.live) rs i (started_proc r t) r (slice_get_within rs i r e), ap (λ (q : Proc). q.live) (get_or_from_slice_get rs i r r e));
        total = omega (arith, kept.total, size, length-append free (t ∷ []), ap (sum_by (λ (q : ProcState ℕ). q.live)) started_view, sum_changed (λ (q : ProcState ℕ). q.live) (λ q. record q { ready = q.ready ++ t ∷ []; live = q.live + 1 }) (procs_of links rs made) r.number (state_of links (Some r)) (own_state links rs tasks (free ++ t ∷ []) made ready i r kept e));
        sum = omega (arith, kept.sum, ap (sum_by (λ (q : ProcState ℕ). length q.ready)) started_view, length-append (slots_of links r.ready) (t ∷ []), sum_changed (λ (q : ProcState ℕ). length q.ready) (λ q. record q { ready = q.ready ++ t ∷ []; live = q.live + 1 }) (procs_of links rs made) r.number (state_of links (Some r)) (own_state links rs tasks (free ++ t ∷ []) made ready i r kept e));
        unused = unused_stay tasks free t (Some (new_task r.number hart)) ends.1 (all_front (λ u. slice_get tasks u ≡ Some None) free t kept.unused).0;
        different = ends.0;
      }
    where
      parent_stays : (u : ℕ) → r.parent ≡ Some u → (((u == t) ≡ true) × (u ≡ t)) ⊎ (((u == t) ≡ false) × (u ≢ t)) → IsSome (home_at (set (homes_of tasks) t (Some r.number)) u)
      parent_stays u f (inl k) = ap is_some (ap (home_at (set (homes_of tasks) t (Some r.number))) k.1 ∙ get_or-set_same (homes_of tasks) t (Some r.number) None within)
      parent_stays u f (inr k) = ap is_some (get_or-set_other (homes_of tasks) t u (Some r.number) None k.1) ∙ (own_good links rs tasks (free ++ t ∷ []) made ready i r kept e).parent u f

      known : (u p : ℕ) → home_at (homes_of (set tasks t (Some (new_task r.number hart)))) u ≡ Some p → (((u == t) ≡ true) × (u ≡ t)) ⊎ (((u == t) ≡ false) × (u ≢ t)) → IsSome (proc_at p rs)
      known u p f (inl k) =
          let g : r.number ≡ p = same_Some r.number p (sym (get_or-set_same (homes_of tasks) t (Some r.number) None within) ∙ ap (home_at (set (homes_of tasks) t (Some r.number))) (sym k.1) ∙ ap (λ hs. home_at hs u) (sym homes) ∙ f) in
          ap is_some (ap (λ n. proc_at n rs) (sym g) ∙ own_at links rs tasks (free ++ t ∷ []) made ready i r kept e)
      known u p f (inr k) = kept.known u p (sym (get_or-set_other (homes_of tasks) t u (Some r.number) None k.1) ∙ ap (λ hs. home_at hs u) (sym homes) ∙ f)

      is_new : (u : ℕ) (x : Task) → slice_get (set tasks t (Some (new_task r.number hart))) u ≡ Some (Some x) → u ≡ t → new_task r.number hart ≡ x
      is_new u x f k = same_Some _ x (same_Some (Some (new_task r.number hart)) (Some x) (sym (get_set_same tasks t None (Some (new_task r.number hart)) unused) ∙ ap (slice_get (set tasks t (Some (new_task r.number hart)))) (sym k) ∙ f))

      lent : (u : ℕ) → IsLent u r → IsLent u (started_proc r t)
      lent u l = record { away = l.away; some = omega arith; first = (rw (eqb_not r.ready.len 0 (λ f. absurd (let g = l.some in omega arith))) refl) ∙ l.first }

      harts : (u : ℕ) (x : Task) → slice_get (set tasks t (Some (new_task r.number hart))) u ≡ Some (Some x) → x.hart ≡ None → (q : Proc) → proc_at x.proc (set rs i (started_proc r t)) ≡ Some q → (((u == t) ≡ true) × (u ≡ t)) ⊎ (((u == t) ≡ false) × (u ≢ t)) → (((x.proc == r.number) ≡ true) × (x.proc ≡ r.number)) ⊎ (((x.proc == r.number) ≡ false) × (x.proc ≢ r.number)) → IsLent u q
      harts u x f none q g (inl k) m = absurd (let a = ap (λ (y : Task). y.hart) (is_new u x f k.1) ∙ none in cc)
      harts u x f none q g (inr k) (inl m) =
          let same : started_proc r t ≡ q = same_Some _ q (sym (at_set_same rs 0 i r (started_proc r t) kept.rising e refl) ∙ ap (λ n. proc_at n (set rs i (started_proc r t))) (sym m.1) ∙ g) in
          subst (IsLent u) same (lent u (kept.harts u x (sym (get_set_other tasks t u (Some (new_task r.number hart)) k.1) ∙ f) none r (ap (λ n. proc_at n rs) m.1 ∙ own_at links rs tasks (free ++ t ∷ []) made ready i r kept e)))
      harts u x f none q g (inr k) (inr m) = kept.harts u x (sym (get_set_other tasks t u (Some (new_task r.number hart)) k.1) ∙ f) none q (sym (at_set_other rs i x.proc r (started_proc r t) e refl m.1) ∙ g)

      branches : (u : ℕ) (x : Task) → slice_get (set tasks t (Some (new_task r.number hart))) u ≡ Some (Some x) → (((u == t) ≡ true) × (u ≡ t)) ⊎ (((u == t) ≡ false) × (u ≢ t)) → x.branches ≡ count_by (waits_on u) (procs_of links rs made)
      branches u x f (inl k) = ap (λ (y : Task). y.branches) (sym (is_new u x f k.1)) ∙ sym (ap (λ v. count_by (waits_on v) (procs_of links rs made)) k.1 ∙ none_wait links rs tasks (free ++ t ∷ []) made ready kept t (home_none tasks t unused))
      branches u x f (inr k) = kept.branches u x (sym (get_set_other tasks t u (Some (new_task r.number hart)) k.1) ∙ f)

  -- there is room to count them
  pub started_len : r.ready.len < length tasks
  started_len = len_after (kept_len started_kept)
    where
      kept_len : IsKept (pushed_links r.ready links t) (set rs i (started_proc r t)) (set tasks t (Some (new_task r.number hart))) free made (ready + 1) → r.ready.len + 1 ≤ length tasks
      kept_len after =
          let good = after.good r.number (started_proc r t) (at_set_same rs 0 i r (started_proc r t) kept.rising e refl) in
          let slots = fits (slots_of (pushed_links r.ready links t) (pushed r.ready t)) (homes_of (set tasks t (Some (new_task r.number hart)))) r.number good.queue.different good.here in
          omega (arith, slots, length-slots (pushed_links r.ready links t) (pushed r.ready t), count_by-le-length (is_of r.number) (homes_of (set tasks t (Some (new_task r.number hart)))), length-homes (set tasks t (Some (new_task r.number hart))), size)

      len_after : r.ready.len + 1 ≤ length tasks → r.ready.len < length tasks
      len_after h = omega arith

  pub started_sum : ready < length tasks
  started_sum =
      let after = started_kept in
      let there = get_set_same rs i r (started_proc r t) e in
      let le = sum_le (λ (q : ProcState ℕ). length q.ready) (λ q. q.live) (procs_of (pushed_links r.ready links t) (set rs i (started_proc r t)) made) (few (pushed_links r.ready links t) (set rs i (started_proc r t)) (set tasks t (Some (new_task r.number hart))) free made (ready + 1) i (started_proc r t) after there) in
      omega (arith, le, after.sum, after.total, size)

-- ---- the first of several tasks ends

abbrev pub ended_proc : List ℕ → Proc → Proc
ended_proc links r = record { number = r.number; ready = popped links r.ready; live = r.live - 1; parent = r.parent; privates = r.privates }

module _ (links : List ℕ) (rs : List Proc) (tasks : List (Option Task)) (free : List ℕ) (made ready i : ℕ) (r : Proc) (t : ℕ) (kept : IsKept links rs tasks free made ready) (e : slice_get rs i ≡ Some r) (head : r.ready.head ≡ t) (some : 0 < r.ready.len) (home : home_at (homes_of tasks) t ≡ Some r.number) (others : 1 < r.live) (here : r.privates ≢ None) (alone : count_by (waits_on t) (procs_of links rs made) ≡ 0) where
  gone : List (Option Task)
  gone = set tasks t None

  less : length (set tasks t None) ≡ length tasks
  less = length-set tasks t None

  own : IsGood links (homes_of tasks) r
  own = own_good links rs tasks free made ready i r kept e

  gone_homes : homes_of (set tasks t None) ≡ set (homes_of tasks) t None
  gone_homes = map-set (λ (o : Option Task). option_map (λ (x : Task). x.proc) o) tasks t None

  inside : t < length (homes_of tasks)
  inside = home_within (homes_of tasks) t r.number home

  pub ended_view : procs_of links (set rs i (ended_proc links r)) made ≡ loses_first r.number (procs_of links rs made)
  ended_view =
      one_changed links links rs made i r (ended_proc links r) (λ q. record q { ready = drop 1 q.ready; live = q.live - 1 }) kept.rising e refl (λ p q f ne. refl)
      (ap (λ xs. record { ready = xs; live = r.live - 1; parent = r.parent }) (popped_slots links r.ready some))

  pub free_less : length free < length tasks
  free_less = omega (arith, kept.used, get_or-le-sum_by (λ (q : Proc). q.live) rs i r (slice_get_within rs i r e), ap (λ (q : Proc). q.live) (get_or_from_slice_get rs i r r e), own.some)

  pub ended_kept : IsKept links (set rs i (ended_proc links r)) (set tasks t None) (free ++ t ∷ []) made (ready - 1)
  ended_kept =
      record {
        rising = rising_set rs 0 i r (ended_proc links r) kept.rising e refl;
        under = under_set rs made i r (ended_proc links r) kept.under e refl;
        size = kept.size ∙ sym less;
        small = subst (λ n. n < 2 ^ 32) (sym less) kept.small;
        good = subst (λ hs. (p : ℕ) (q : Proc) → proc_at p (set rs i (ended_proc links r)) ≡ Some q → IsGood links hs q) (sym gone_homes)
            (good_changed links (set (homes_of tasks) t None) rs i r (ended_proc links r) kept.rising e refl
            (λ p q f ne. good_set links (homes_of tasks) q t None (kept.good p q f) inside (λ g. ne (sym (at_number rs p q f) ∙ sym (same_Some r.number q.number (sym home ∙ g)))) (λ g. absurd (cc)) (λ g. absurd (no_child p q f g)))
            (record {
              queue = popped_queue links r.ready some own.queue;
              here = subst (AllByRecursion (λ u. home_at (set (homes_of tasks) t None) u ≡ Some r.number)) (sym (popped_slots links r.ready some)) (all_reset (homes_of tasks) (drop 1 (slots_of links r.ready)) t r.number None (head_out r.ready.len r.ready.head head own.queue.different) (all_drop _ (slots_of links r.ready) own.here));
              live = omega (arith, own.live, count_loses (homes_of tasks) t r.number home);
              some = omega arith;
              parent = λ u f. ap is_some (get_or-set_other (homes_of tasks) t u None None (λ g. no_child r.number r (own_at links rs tasks free made ready i r kept e) (f ∙ ap Some g))) ∙ own.parent u f;
              away = λ f. absurd (here f);
            }));
        known = λ u p f. known_changed rs i p r (ended_proc links r) kept.rising e refl (known u p f (eqb_tells u t));
        harts = λ u x f none q g. harts u x f none q g (eqb_tells x.proc r.number);
        branches = λ u x f. kept.branches u x (was u x f) ∙ sym (ap (count_by (waits_on u)) ended_view ∙ sum_kept (λ q. cond (waits_on u q) 1 0) (λ q. record q { ready = drop 1 q.ready; live = q.live - 1 }) (procs_of links rs made) r.number (λ q. refl));
        used = omega (arith, kept.used, less, length-append free (t ∷ []), own.some, sum_by-set (λ (q : Proc). q.live) rs i (ended_proc links r) r (slice_get_within rs i r e), ap (λ (q : Proc). q.live) (get_or_from_slice_get rs i r r e));
        total = omega (arith, kept.total, less, own.some, length-append free (t ∷ []), ap (sum_by (λ (q : ProcState ℕ). q.live)) ended_view, sum_changed (λ (q : ProcState ℕ). q.live) (λ q. record q { ready = drop 1 q.ready; live = q.live - 1 }) (procs_of links rs made) r.number (state_of links (Some r)) (own_state links rs tasks free made ready i r kept e));
        sum = omega (arith, kept.sum, ap (sum_by (λ (q : ProcState ℕ). length q.ready)) ended_view, length-slots links r.ready, drop_less (slots_of links r.ready), sum_changed (λ (q : ProcState ℕ). length q.ready) (λ q. record q { ready = drop 1 q.ready; live = q.live - 1 }) (procs_of links rs made) r.number (state_of links (Some r)) (own_state links rs tasks free made ready i r kept e));
        unused = all_append _ free (t ∷ []) (all_to _ _ (λ y h. none_set tasks y t h) free kept.unused) (get_set_same tasks t (Some there.0) None there.1, tt);
        different = different_push free t kept.different (not_free (has t free) refl);
      }
    where
      there : (x : Task) × (slice_get tasks t ≡ Some (Some x)) × (x.proc ≡ r.number)
      there = home_task tasks t r.number home

      drop_less : (xs : List ℕ) → 0 < length xs → length (drop 1 xs) + 1 ≡ length xs
      drop_less [] lt = absurd (omega arith)
      drop_less (x ∷ xs) lt = omega arith

      head_out : (n at : ℕ) → at ≡ t → are_different (chain links n at) ≡ true → has t (drop 1 (chain links n at)) ≡ false
      head_out zero at f d = refl
      head_out (suc n) at f d = ap (λ v. has v (chain links n (get_or links at 0))) (sym f) ∙ not_true _ (and_true (not (has at (chain links n (get_or links at 0)))) (are_different (chain links n (get_or links at 0))) d).0

      no_child : (p : ℕ) (q : Proc) → proc_at p rs ≡ Some q → q.parent ≡ Some t → ⊥
      no_child p q f g =
          let state = get_proc links rs made p q kept.under f in
          let waits : waits_on t (state_of links (Some q)) ≡ true = ap (is_parent nat_eq (λ u. 0) t) g ∙ eqb_same t in
          absurd (omega (arith, alone, get_or-le-sum_by (λ v. cond (waits_on t v) 1 0) (procs_of links rs made) p (state_of links (Some q)) (slice_get_within (procs_of links rs made) p (state_of links (Some q)) state), ap {B = ℕ} (λ v. cond (waits_on t v) 1 0) (get_or_from_slice_get (procs_of links rs made) p (state_of links (Some q)) (state_of links (Some q)) state), ap {B = ℕ} (λ b. cond b 1 0) waits))

      not_free : (b : Bool) → has t free ≡ b → has t free ≡ false
      not_free false f = f
      not_free true f = absurd (let a : slice_get tasks t ≡ Some None = all_has (λ u. slice_get tasks u ≡ Some None) free t kept.unused f in let b = same_Some None (Some there.0) (sym a ∙ there.1) in cc)

      was : (u : ℕ) (x : Task) → slice_get (set tasks t None) u ≡ Some (Some x) → slice_get tasks u ≡ Some (Some x)
      was u x f = on (eqb_tells u t)
        where
          on : (((u == t) ≡ true) × (u ≡ t)) ⊎ (((u == t) ≡ false) × (u ≢ t)) → slice_get tasks u ≡ Some (Some x)
          on (inl k) = absurd (let a = same_Some None (Some x) (sym (get_set_same tasks t (Some there.0) None there.1) ∙ ap (slice_get (set tasks t None)) (sym k.1) ∙ f) in cc)
          on (inr k) = sym (get_set_other tasks t u None k.1) ∙ f

      known : (u p : ℕ) → home_at (homes_of (set tasks t None)) u ≡ Some p → (((u == t) ≡ true) × (u ≡ t)) ⊎ (((u == t) ≡ false) × (u ≢ t)) → IsSome (proc_at p rs)
      known u p f (inl k) = absurd (let a = sym (get_or-set_same (homes_of tasks) t None None inside) ∙ ap (home_at (set (homes_of tasks) t None)) (sym k.1) ∙ ap (λ hs. home_at hs u) (sym gone_homes) ∙ f in cc)
      known u p f (inr k) = kept.known u p (sym (get_or-set_other (homes_of tasks) t u None None k.1) ∙ ap (λ hs. home_at hs u) (sym gone_homes) ∙ f)

      harts : (u : ℕ) (x : Task) → slice_get (set tasks t None) u ≡ Some (Some x) → x.hart ≡ None → (q : Proc) → proc_at x.proc (set rs i (ended_proc links r)) ≡ Some q → (((x.proc == r.number) ≡ true) × (x.proc ≡ r.number)) ⊎ (((x.proc == r.number) ≡ false) × (x.proc ≢ r.number)) → IsLent u q
      harts u x f none q g (inl k) = absurd (here (kept.harts u x (was u x f) none r (ap (λ n. proc_at n rs) k.1 ∙ own_at links rs tasks free made ready i r kept e)).away)
      harts u x f none q g (inr k) = kept.harts u x (was u x f) none q (sym (at_set_other rs i x.proc r (ended_proc links r) e refl k.1) ∙ g)
