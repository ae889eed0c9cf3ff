-- A task leaves its ready list, or joins it.
use Rattle.std.proofs.Common.{◌≡◌, ◌≢◌, ℕ, zero, suc, ◌+◌, ◌-◌, ◌<◌, ◌≤◌, true, false, ◌==◌, List, [], ◌∷◌, ◌++◌, length, set, get_or, refl, sym, ap, ◌∙◌, subst, arith, ◌⊎◌, inl, inr, cond, Option, Some, None, slice_get}
use Rattle.std.specs.Prelude.{drop}
use Rattle.std.specs.List.{sum_by, count_by, AllByRecursion}
use Rattle.std.proofs.lemmas.List.{length-append}
use Rattle.std.proofs.lemmas.Bool.{cases_lt}
use Rattle.std.proofs.lemmas.Option.{same_Some, slice_get_past, slice_get_within}
use Rattle.std.proofs.lemmas.List.Sums.{sum_by-set, get_or-le-sum_by}
use Rattle.std.proofs.lemmas.Option.{get_or_from_slice_get}
use Rattle.std.proofs.lemmas.Bool.Decides.{eqb_tells}
use Rattle.al_world.proofs.Lists.{all_append}
use Rattle.al_world.specs.Procs.{ProcState, leaves_ready, joins_ready}
use Rattle.task_book.specs.declared.proc.Proc.{Proc}
use Rattle.task_book.specs.declared.proc.Task.{Task}
use Rattle.task_book.specs.Queues.{chain, slots_of, has, pushed, pushed_links, popped}
use Rattle.task_book.specs.Procs.{proc_at}
use Rattle.task_book.specs.Homes.{homes_of, home_at}
use Rattle.task_book.specs.Kept.{IsKept, IsGood, IsLent, procs_of, state_of, waits_on}
use Rattle.task_book.proofs.Queueing.{eqb_not, pushed_slots, pushed_other, pushed_queue, popped_slots, popped_queue, all_drop, length-slots, length-pushed, tail_in, all_has, different_push}
use Rattle.task_book.proofs.Places.{rising_set, under_set, at_index, at_set_same, at_set_other}
use Rattle.task_book.proofs.Tables.{sum_changed, sum_kept, sum_lt, get-listed, length-listed}
use Rattle.task_book.proofs.Good.{good_links, fits, not_has, home_within}
use Rattle.task_book.proofs.Views.{at_number, get_proc, one_changed, good_changed, known_changed}

abbrev pub popped_proc : List ℕ → Proc → Proc
popped_proc links r = record { number = r.number; ready = popped links r.ready; live = r.live; parent = r.parent; privates = r.privates }

abbrev pub pushed_proc : Proc → ℕ → Proc
pushed_proc r t = record { number = r.number; ready = pushed r.ready t; live = r.live; parent = r.parent; privates = r.privates }

-- the sum over live procs stays
pub live_stays : (rs : List Proc) (i : ℕ) (r s : Proc) → slice_get rs i ≡ Some r → s.live ≡ r.live → sum_by (λ (q : Proc). q.live) (set rs i s) ≡ sum_by (λ (q : Proc). q.live) rs
live_stays rs i r s e same =
    let old : (get_or rs i s).live ≡ r.live = ap (λ (q : Proc). q.live) (get_or_from_slice_get rs i r s e) in
    omega (arith, sum_by-set (λ (q : Proc). q.live) rs i s s (slice_get_within rs i r e), old, same)

pub length-homes : (tasks : List (Option Task)) → length (homes_of tasks) ≡ length tasks
length-homes [] = refl
length-homes (x ∷ xs) = ap suc (length-homes xs)

module _ (links : List ℕ) (rs : List Proc) (tasks : List (Option Task)) (free : List ℕ) (made ready i : ℕ) (r : Proc) (kept : IsKept links rs tasks free made ready) (e : slice_get rs i ≡ Some r) where
  pub own_at : proc_at r.number rs ≡ Some r
  own_at = at_index rs 0 i r kept.rising e

  pub own_good : IsGood links (homes_of tasks) r
  own_good = kept.good r.number r own_at

  pub own_state : slice_get (procs_of links rs made) r.number ≡ Some (state_of links (Some r))
  own_state = get_proc links rs made r.number r kept.under own_at

  pub popped_view : 0 < r.ready.len → procs_of links (set rs i (popped_proc links r)) made ≡ leaves_ready r.number (procs_of links rs made)
  popped_view some =
      one_changed links links rs made i r (popped_proc links r) (λ q. record q { ready = drop 1 q.ready }) kept.rising e refl (λ p q f ne. refl)
      (ap (λ xs. record { ready = xs; live = r.live; parent = r.parent }) (popped_slots links r.ready some))

  pub popped_kept : 0 < r.ready.len → r.privates ≢ None → IsKept links (set rs i (popped_proc links r)) tasks free made (ready - 1)
  popped_kept some here =
      let s : Proc = popped_proc links r in
      let view = popped_view some in
      record {
        rising = rising_set rs 0 i r s kept.rising e refl;
        under = under_set rs made i r s kept.under e refl;
        size = kept.size;
        small = kept.small;
        good = good_changed links (homes_of tasks) rs i r s kept.rising e refl (λ p q f ne. kept.good p q f) (record {
          queue = popped_queue links r.ready some own_good.queue;
          here = subst (AllByRecursion (λ t. home_at (homes_of tasks) t ≡ Some r.number)) (sym (popped_slots links r.ready some)) (all_drop _ (slots_of links r.ready) own_good.here);
          live = own_good.live;
          some = own_good.some;
          parent = own_good.parent;
          away = λ f. absurd (here f);
        });
        known = λ t p h. known_changed rs i p r s kept.rising e refl (kept.known t p h);
        harts = λ t x f none q g. harts t x f none q g (eqb_tells x.proc r.number);
        branches = λ t x f. kept.branches t x f ∙ sym (ap (count_by (waits_on t)) view ∙ sum_kept (λ q. cond (waits_on t q) 1 0) (λ q. record q { ready = drop 1 q.ready }) (procs_of links rs made) r.number (λ q. refl));
        used = ap (λ n. n + length free) (live_stays rs i r s e refl) ∙ kept.used;
        total = ap (λ n. n + length free) (ap (sum_by (λ (q : ProcState ℕ). q.live)) view ∙ sum_kept (λ q. q.live) (λ q. record q { ready = drop 1 q.ready }) (procs_of links rs made) r.number (λ q. refl)) ∙ kept.total;
        sum = ap (sum_by (λ (q : ProcState ℕ). length q.ready)) view ∙ fewer;
        unused = kept.unused;
        different = kept.different;
      }
    where
      harts : (t : ℕ) (x : Task) → slice_get tasks t ≡ Some (Some x) → x.hart ≡ None → (q : Proc) → proc_at x.proc (set rs i (popped_proc links r)) ≡ Some q → (((x.proc == r.number) ≡ true) × (x.proc ≡ r.number)) ⊎ (((x.proc == r.number) ≡ false) × (x.proc ≢ r.number)) → IsLent t q
      harts t x f none q g (inl k) = absurd (here (kept.harts t x f none r (ap (λ n. proc_at n rs) k.1 ∙ own_at)).away)
      harts t x f none q g (inr k) = kept.harts t x f none q (sym (at_set_other rs i x.proc r (popped_proc links r) e refl k.1) ∙ g)

      length-drop1 : (xs : List ℕ) → 0 < length xs → length (drop 1 xs) + 1 ≡ length xs
      length-drop1 [] lt = absurd (omega arith)
      length-drop1 (x ∷ xs) lt = omega arith

      fewer : sum_by (λ (q : ProcState ℕ). length q.ready) (leaves_ready r.number (procs_of links rs made)) ≡ ready - 1
      fewer =
          omega (arith, kept.sum, sum_changed (λ (q : ProcState ℕ). length q.ready) (λ q. record q { ready = drop 1 q.ready }) (procs_of links rs made) r.number (state_of links (Some r)) own_state, length-slots links r.ready, length-drop1 (slots_of links r.ready) (omega (arith, length-slots links r.ready)))

  pub ready_some : 0 < r.ready.len → 1 ≤ ready
  ready_some some =
      omega (arith, kept.sum, length-slots links r.ready, get_or-le-sum_by (λ (q : ProcState ℕ). length q.ready) (procs_of links rs made) r.number (state_of links (Some r)) (slice_get_within (procs_of links rs made) r.number (state_of links (Some r)) own_state), ap (λ (q : ProcState ℕ). length q.ready) (get_or_from_slice_get (procs_of links rs made) r.number (state_of links (Some r)) (state_of links (Some r)) own_state))

  pub head_within : 0 < r.ready.len → r.ready.head < length links
  head_within some = on r.ready.len r.ready.head own_good.queue.within some
    where
      on : (n head : ℕ) → AllByRecursion (λ x. x < length links) (chain links n head) → 0 < n → head < length links
      on zero head h some = absurd (omega arith)
      on (suc n) head h some = h.0

  -- the number of ready tasks is at most that of live ones
  pub few : (p : ℕ) (q : ProcState ℕ) → slice_get (procs_of links rs made) p ≡ Some q → length q.ready ≤ q.live
  few p q f = on (cases_lt p made)
    where
      state : (o : Option Proc) → proc_at p rs ≡ o → length (state_of links o).ready ≤ (state_of links o).live
      state None g = omega arith
      state (Some s) g = let good = kept.good p s g in omega (arith, good.live, fits (slots_of links s.ready) (homes_of tasks) s.number good.queue.different good.here)

      on : (p < made) ⊎ (made ≤ p) → length q.ready ≤ q.live
      on (inl lt) = let same : state_of links (proc_at p rs) ≡ q = same_Some _ q (sym (get-listed (λ n. state_of links (proc_at n rs)) made p lt) ∙ f) in subst (λ (q : ProcState ℕ). length q.ready ≤ q.live) same (state (proc_at p rs) refl)
      on (inr le) = absurd (let a = slice_get_past (procs_of links rs made) p (rw (length-listed (λ n. state_of links (proc_at n rs)) made) le) in cc)

  module _ (t : ℕ) (home : home_at (homes_of tasks) t ≡ Some r.number) (out : has t (slots_of links r.ready) ≡ false) where
    -- it is one of more live tasks than were ready
    fewer_ready : r.ready.len < r.live
    fewer_ready =
        omega (arith, own_good.live, length-slots links r.ready, length-append (slots_of links r.ready) (t ∷ []), fits (slots_of links r.ready ++ t ∷ []) (homes_of tasks) r.number (different_push (slots_of links r.ready) t own_good.queue.different out) (all_append _ (slots_of links r.ready) (t ∷ []) own_good.here (home, tt)))

    pub ready_fits : ready < length tasks
    ready_fits =
        omega (arith, kept.sum, kept.total, sum_lt (λ (q : ProcState ℕ). length q.ready) (λ q. q.live) (procs_of links rs made) r.number (state_of links (Some r)) few own_state (omega (arith, fewer_ready, length-slots links r.ready)))

    pub len_fits : r.ready.len < length tasks
    len_fits = omega (arith, kept.sum, length-slots links r.ready, ready_fits, get_or-le-sum_by (λ (q : ProcState ℕ). length q.ready) (procs_of links rs made) r.number (state_of links (Some r)) (slice_get_within (procs_of links rs made) r.number (state_of links (Some r)) own_state), ap (λ (q : ProcState ℕ). length q.ready) (get_or_from_slice_get (procs_of links rs made) r.number (state_of links (Some r)) (state_of links (Some r)) own_state))

    -- the queues of other procs have none of its slots
    others_stay : (p : ℕ) (q : Proc) → proc_at p rs ≡ Some q → p ≢ r.number → slots_of (pushed_links r.ready links t) q.ready ≡ slots_of links q.ready
    others_stay p q f ne =
        let good = kept.good p q f in
        pushed_other links r.ready q.ready t (λ some.
        let tail : home_at (homes_of tasks) r.ready.tail ≡ Some r.number = all_has (λ u. home_at (homes_of tasks) u ≡ Some r.number) (slots_of links r.ready) r.ready.tail own_good.here (tail_in links r.ready own_good.queue some) in
        not_has (homes_of tasks) (slots_of links q.ready) r.ready.tail q.number good.here (λ g. ne (sym (at_number rs p q f) ∙ sym (same_Some r.number q.number (sym tail ∙ g)))))

    pub pushed_view : procs_of (pushed_links r.ready links t) (set rs i (pushed_proc r t)) made ≡ joins_ready r.number t (procs_of links rs made)
    pushed_view =
        one_changed links (pushed_links r.ready links t) rs made i r (pushed_proc r t) (λ q. record q { ready = q.ready ++ t ∷ [] }) kept.rising e refl others_stay
        (ap (λ xs. record { ready = xs; live = r.live; parent = r.parent }) (pushed_slots links r.ready t own_good.queue))

    pub pushed_kept : IsKept (pushed_links r.ready links t) (set rs i (pushed_proc r t)) tasks free made (ready + 1)
    pushed_kept =
        let s : Proc = pushed_proc r t in
        let more : List ℕ = pushed_links r.ready links t in
        let within : t < length links = omega (arith, home_within (homes_of tasks) t r.number home, kept.size, length-homes tasks) in
        record {
          rising = rising_set rs 0 i r s kept.rising e refl;
          under = under_set rs made i r s kept.under e refl;
          size = length-pushed links r.ready t ∙ kept.size;
          small = kept.small;
          good = good_changed more (homes_of tasks) rs i r s kept.rising e refl (λ p q f ne. good_links links more (homes_of tasks) q (kept.good p q f) (others_stay p q f ne) (length-pushed links r.ready t)) (record {
            queue = pushed_queue links r.ready t own_good.queue out within;
            here = subst (AllByRecursion (λ t. home_at (homes_of tasks) t ≡ Some r.number)) (sym (pushed_slots links r.ready t own_good.queue)) (all_append _ (slots_of links r.ready) (t ∷ []) own_good.here (home, tt));
            live = own_good.live;
            some = own_good.some;
            parent = own_good.parent;
            away = λ f. omega arith;
          });
          known = λ t p h. known_changed rs i p r s kept.rising e refl (kept.known t p h);
          harts = λ u x f none q g. harts u x f none q g (eqb_tells x.proc r.number);
          branches = λ u x f. kept.branches u x f ∙ sym (ap (count_by (waits_on u)) pushed_view ∙ sum_kept (λ q. cond (waits_on u q) 1 0) (λ q. record q { ready = q.ready ++ t ∷ [] }) (procs_of links rs made) r.number (λ q. refl));
          used = ap (λ n. n + length free) (live_stays rs i r s e refl) ∙ kept.used;
          total = ap (λ n. n + length free) (ap (sum_by (λ (q : ProcState ℕ). q.live)) pushed_view ∙ sum_kept (λ q. q.live) (λ q. record q { ready = q.ready ++ t ∷ [] }) (procs_of links rs made) r.number (λ q. refl)) ∙ kept.total;
          sum = ap (sum_by (λ (q : ProcState ℕ). length q.ready)) pushed_view ∙ one_more;
          unused = kept.unused;
          different = kept.different;
        }
      where
        head_stays : (n head : ℕ) → 0 < n → cond (n == 0) t head ≡ head
        head_stays n head some = rw (eqb_not n 0 (λ f. absurd (omega arith))) refl

        lent : (u : ℕ) → IsLent u r → IsLent u (pushed_proc r t)
        lent u l = record { away = l.away; some = omega arith; first = head_stays r.ready.len r.ready.head l.some ∙ l.first }

        harts : (u : ℕ) (x : Task) → slice_get tasks u ≡ Some (Some x) → x.hart ≡ None → (q : Proc) → proc_at x.proc (set rs i (pushed_proc r t)) ≡ Some q → (((x.proc == r.number) ≡ true) × (x.proc ≡ r.number)) ⊎ (((x.proc == r.number) ≡ false) × (x.proc ≢ r.number)) → IsLent u q
        harts u x f none q g (inl k) =
            let same : pushed_proc r t ≡ q = same_Some _ q (sym (at_set_same rs 0 i r (pushed_proc r t) kept.rising e refl) ∙ ap (λ n. proc_at n (set rs i (pushed_proc r t))) (sym k.1) ∙ g) in
            subst (IsLent u) same (lent u (kept.harts u x f none r (ap (λ n. proc_at n rs) k.1 ∙ own_at)))
        harts u x f none q g (inr k) = kept.harts u x f none q (sym (at_set_other rs i x.proc r (pushed_proc r t) e refl k.1) ∙ g)

        one_more : sum_by (λ (q : ProcState ℕ). length q.ready) (joins_ready r.number t (procs_of links rs made)) ≡ ready + 1
        one_more =
            omega (arith, kept.sum, sum_changed (λ (q : ProcState ℕ). length q.ready) (λ q. record q { ready = q.ready ++ t ∷ [] }) (procs_of links rs made) r.number (state_of links (Some r)) own_state, length-append (slots_of links r.ready) (t ∷ []))
