-- A proc begins, with one task.
use Rattle.std.proofs.Common.{◌≡◌, ◌≢◌, ℕ, suc, ◌+◌, ◌<◌, ◌^◌, true, false, ◌==◌, List, [], ◌∷◌, ◌++◌, length, set, refl, sym, ap, ◌∙◌, subst, arith, ◌⊎◌, inl, inr, cond, Option, Some, None, slice_get, option_map, get_or-set_other, get_or-set_same}
use Rattle.std.specs.Prelude.{is_some, IsSome}
use Rattle.std.specs.List.{sum_by, count_by}
use Rattle.std.proofs.lemmas.List.{length-append, length-set, map-set}
use Rattle.std.proofs.lemmas.List.Sums.{sum_by_push}
use Rattle.std.proofs.lemmas.Option.{same_Some, slice_get_within}
use Rattle.std.proofs.lemmas.Bool.Decides.{eqb_tells}
use Rattle.al_world.proofs.Lists.{all_to}
use Rattle.al_world.specs.Procs.{ProcState, new_proc}
use Rattle.rv_exec.specs.declared.run.Hart.{Hart}
use Rattle.rv_exec.specs.declared.run.Privates.{Privates}
use Rattle.task_book.specs.declared.proc.Proc.{Proc}
use Rattle.task_book.specs.declared.proc.Task.{Task}
use Rattle.task_book.specs.Queues.{queue_of}
use Rattle.task_book.specs.Procs.{proc_at}
use Rattle.task_book.specs.Homes.{homes_of, home_at}
use Rattle.task_book.specs.Starting.{with_branch_of}
use Rattle.task_book.specs.Kept.{IsKept, IsGood, IsLent, listed, procs_of, privates_of, state_of, waits_on}
use Rattle.task_book.proofs.Queueing.{eqb_not}
use Rattle.task_book.proofs.Places.{rising_push, under_push, at_push_same, at_push_other, at_above}
use Rattle.task_book.proofs.Tables.{listed_push, listed_below}
use Rattle.task_book.proofs.Good.{good_set, count_gains}
use Rattle.task_book.proofs.Views.{at_number}
use Rattle.task_book.proofs.Seen.{privates_seen}
use Rattle.task_book.proofs.Ready.{length-homes, own_good}
use Rattle.task_book.proofs.Starts.{get_set_other, get_set_same, home_none, all_front, different_front, unused_stay, none_wait, new_task}
use Rattle.task_book.proofs.Branches.{counted, homes-joined, none-joined, length-joined, Joined, joined, task_home, count_none, few_ready, procs_fit}

pushed_list : {X : Type 0} (f g : ℕ → X) (x : X) (n : ℕ) → g n ≡ x → ((m : ℕ) → m ≢ n → g m ≡ f m) → listed g (n + 1) ≡ listed f n ++ x ∷ []
pushed_list f g x n at others =
    (let e : n + 1 ≡ suc n = omega arith in ap (listed g) e) ∙ listed_push g n ∙ ap (λ y. listed g n ++ y ∷ []) at ∙ ap (λ xs. xs ++ x ∷ []) (listed_below g f n (λ m lt. others m (λ e. absurd (omega arith))))

abbrev pub begun_proc : ℕ → ℕ → Option ℕ → Privates → Proc
begun_proc made t o v = record { number = made; ready = queue_of t; live = 1; parent = o; privates = Some v }

module _ (links : List ℕ) (rs : List Proc) (tasks : List (Option Task)) (free : List ℕ) (made ready t : ℕ) (o : Option ℕ) (hart : Hart) (v : Privates) (kept : IsKept links rs tasks (free ++ t ∷ []) made ready) (lives : (u : ℕ) → o ≡ Some u → IsSome (home_at (homes_of tasks) u)) where
  pub unused : slice_get tasks t ≡ Some None
  unused = (all_front (λ u. slice_get tasks u ≡ Some None) free t kept.unused).1

  unused-joined : slice_get (with_branch_of o tasks) t ≡ Some None
  unused-joined = none-joined o t tasks unused

  within : t < length (homes_of tasks)
  within = omega (arith, slice_get_within tasks t None unused, length-homes tasks)

  no_home : (p : ℕ) → home_at (homes_of tasks) t ≢ Some p
  no_home p f = let g = sym (home_none tasks t unused) ∙ f in absurd (cc)

  none_at : proc_at made rs ≡ None
  none_at = at_above rs made made kept.under (omega arith)

  -- no task was in it before
  not_in : (u : ℕ) → home_at (homes_of tasks) u ≢ Some made
  not_in u f = let g = sym (ap is_some none_at) ∙ kept.known u made f in absurd (cc)

  pub homes : homes_of (set (with_branch_of o tasks) t (Some (new_task made hart))) ≡ set (homes_of tasks) t (Some made)
  homes =
      map-set (λ (x : Option Task). option_map (λ (x : Task). x.proc) x) (with_branch_of o tasks) t (Some (new_task made hart)) ∙ ap (λ hs. set hs t (Some made)) (homes-joined o tasks)

  pub size : length (set (with_branch_of o tasks) t (Some (new_task made hart))) ≡ length tasks
  size = length-set (with_branch_of o tasks) t (Some (new_task made hart)) ∙ length-joined o tasks

  pub begun_view : procs_of links (rs ++ begun_proc made t o v ∷ []) (made + 1) ≡ procs_of links rs made ++ new_proc o t ∷ []
  begun_view =
      pushed_list (λ n. state_of links (proc_at n rs)) (λ n. state_of links (proc_at n (rs ++ begun_proc made t o v ∷ []))) (new_proc o t) made (ap (state_of links) (at_push_same rs made (begun_proc made t o v) kept.under refl))
      (λ m ne. ap (state_of links) (at_push_other rs m (begun_proc made t o v) ne))

  pub begun_privates : privates_seen (rs ++ begun_proc made t o v ∷ []) (made + 1) ≡ privates_seen rs made ++ Some v ∷ []
  begun_privates =
      pushed_list (λ n. privates_of (proc_at n rs)) (λ n. privates_of (proc_at n (rs ++ begun_proc made t o v ∷ []))) (Some v) made (ap privates_of (at_push_same rs made (begun_proc made t o v) kept.under refl))
      (λ m ne. ap privates_of (at_push_other rs m (begun_proc made t o v) ne))

  own : IsGood links (set (homes_of tasks) t (Some made)) (begun_proc made t o v)
  own = record {
    queue = record { different = refl; within = (omega (arith, within, length-homes tasks, kept.size), tt); last = refl };
    here = (get_or-set_same (homes_of tasks) t (Some made) None within, tt);
    live = omega (arith, count_gains (homes_of tasks) t made within (no_home made), count_none (homes_of tasks) made not_in);
    some = omega arith;
    parent = λ u e. ap is_some (get_or-set_other (homes_of tasks) t u (Some made) None (other u e)) ∙ lives u e;
    away = λ f. absurd (cc);
  }
    where
      other : (u : ℕ) → o ≡ Some u → u ≢ t
      other u e f = absurd (let g = sym (ap is_some (ap (home_at (homes_of tasks)) f ∙ home_none tasks t unused)) ∙ lives u e in cc)

  -- nothing waits for it at its own slot
  not_parent : (x : Option ℕ) → ((u : ℕ) → x ≡ Some u → IsSome (home_at (homes_of tasks) u)) → counted t x ≡ 0
  not_parent None h = refl
  not_parent (Some u) h = ap {B = ℕ} (λ b. cond b 1 0) (eqb_not u t (λ f. absurd (let g = sym (ap is_some (ap (home_at (homes_of tasks)) f ∙ home_none tasks t unused)) ∙ h u refl in cc)))

  is_new : (u : ℕ) (x : Task) → slice_get (set (with_branch_of o tasks) t (Some (new_task made hart))) u ≡ Some (Some x) → u ≡ t → new_task made hart ≡ x
  is_new u x f k =
      same_Some _ x (same_Some (Some (new_task made hart)) (Some x) (sym (get_set_same (with_branch_of o tasks) t None (Some (new_task made hart)) unused-joined) ∙ ap (slice_get (set (with_branch_of o tasks) t (Some (new_task made hart)))) (sym k) ∙ f))

  is_old : (u : ℕ) (x : Task) → slice_get (set (with_branch_of o tasks) t (Some (new_task made hart))) u ≡ Some (Some x) → u ≢ t → Joined tasks o u x
  is_old u x f ne = joined o u tasks x (sym (get_set_other (with_branch_of o tasks) t u (Some (new_task made hart)) ne) ∙ f)

  good : (p : ℕ) (q : Proc) → proc_at p (rs ++ begun_proc made t o v ∷ []) ≡ Some q → (((p == made) ≡ true) × (p ≡ made)) ⊎ (((p == made) ≡ false) × (p ≢ made)) → IsGood links (set (homes_of tasks) t (Some made)) q
  good p q f (inl k) =
      let same : begun_proc made t o v ≡ q = same_Some _ q (sym (at_push_same rs made (begun_proc made t o v) kept.under refl) ∙ ap (λ n. proc_at n (rs ++ begun_proc made t o v ∷ [])) (sym k.1) ∙ f) in
      subst (IsGood links (set (homes_of tasks) t (Some made))) same own
  good p q f (inr k) =
      let g : proc_at p rs ≡ Some q = sym (at_push_other rs p (begun_proc made t o v) k.1) ∙ f in
      good_set links (homes_of tasks) q t (Some made) (kept.good p q g) within (no_home q.number) (λ h. k.1 (sym (at_number rs p q g) ∙ sym (same_Some made q.number h))) (λ h. refl)

  still : (p : ℕ) → IsSome (proc_at p rs) → (((p == made) ≡ true) × (p ≡ made)) ⊎ (((p == made) ≡ false) × (p ≢ made)) → IsSome (proc_at p (rs ++ begun_proc made t o v ∷ []))
  still p h (inl k) = ap is_some (ap (λ n. proc_at n (rs ++ begun_proc made t o v ∷ [])) k.1 ∙ at_push_same rs made (begun_proc made t o v) kept.under refl)
  still p h (inr k) = ap is_some (at_push_other rs p (begun_proc made t o v) k.1) ∙ h

  known : (u p : ℕ) → home_at (set (homes_of tasks) t (Some made)) u ≡ Some p → (((u == t) ≡ true) × (u ≡ t)) ⊎ (((u == t) ≡ false) × (u ≢ t)) → IsSome (proc_at p (rs ++ begun_proc made t o v ∷ []))
  known u p f (inl k) =
      let g : made ≡ p = same_Some made p (sym (get_or-set_same (homes_of tasks) t (Some made) None within) ∙ ap (home_at (set (homes_of tasks) t (Some made))) (sym k.1) ∙ f) in
      ap is_some (ap (λ n. proc_at n (rs ++ begun_proc made t o v ∷ [])) (sym g) ∙ at_push_same rs made (begun_proc made t o v) kept.under refl)
  known u p f (inr k) = still p (kept.known u p (sym (get_or-set_other (homes_of tasks) t u (Some made) None k.1) ∙ f)) (eqb_tells p made)

  harts : (u : ℕ) (x : Task) → slice_get (set (with_branch_of o tasks) t (Some (new_task made hart))) u ≡ Some (Some x) → x.hart ≡ None → (q : Proc) → proc_at x.proc (rs ++ begun_proc made t o v ∷ []) ≡ Some q → (((u == t) ≡ true) × (u ≡ t)) ⊎ (((u == t) ≡ false) × (u ≢ t)) → IsLent u q
  harts u x f none q g (inl k) = absurd (let a = ap (λ (y : Task). y.hart) (is_new u x f k.1) ∙ none in cc)
  harts u x f none q g (inr k) = on (is_old u x f k.1)
    where
      on : Joined tasks o u x → IsLent u q
      on b = kept.harts u b.task b.there (sym b.hart ∙ none) q (ap (λ n. proc_at n rs) (sym b.proc) ∙ sym (at_push_other rs x.proc (begun_proc made t o v) (λ m. not_in u (task_home tasks u b.task b.there ∙ ap Some (sym b.proc ∙ m)))) ∙ g)

  waiting : (u : ℕ) → count_by (waits_on u) (procs_of links (rs ++ begun_proc made t o v ∷ []) (made + 1)) ≡ count_by (waits_on u) (procs_of links rs made) + counted u o
  waiting u = ap (count_by (waits_on u)) begun_view ∙ sum_by_push (λ q. cond (waits_on u q) 1 0) (procs_of links rs made) (new_proc o t)

  branches : (u : ℕ) (x : Task) → slice_get (set (with_branch_of o tasks) t (Some (new_task made hart))) u ≡ Some (Some x) → (((u == t) ≡ true) × (u ≡ t)) ⊎ (((u == t) ≡ false) × (u ≢ t)) → x.branches ≡ count_by (waits_on u) (procs_of links (rs ++ begun_proc made t o v ∷ []) (made + 1))
  branches u x f (inl k) =
      ap (λ (y : Task). y.branches) (sym (is_new u x f k.1)) ∙ sym (ap (λ w. count_by (waits_on w) (procs_of links (rs ++ begun_proc made t o v ∷ []) (made + 1))) k.1 ∙ none)
    where
      none : count_by (waits_on t) (procs_of links (rs ++ begun_proc made t o v ∷ []) (made + 1)) ≡ 0
      none = omega (arith, waiting t, none_wait links rs tasks (free ++ t ∷ []) made ready kept t (home_none tasks t unused), not_parent o lives)
  branches u x f (inr k) = on (is_old u x f k.1)
    where
      on : Joined tasks o u x → x.branches ≡ count_by (waits_on u) (procs_of links (rs ++ begun_proc made t o v ∷ []) (made + 1))
      on b = b.branches ∙ ap (λ n. n + counted u o) (kept.branches u b.task b.there) ∙ sym (waiting u)

  pub begun_kept : IsKept links (rs ++ begun_proc made t o v ∷ []) (set (with_branch_of o tasks) t (Some (new_task made hart))) free (made + 1) (ready + 1)
  begun_kept =
      let ends = different_front free t kept.different in
      record {
        rising = rising_push rs 0 made (begun_proc made t o v) kept.rising kept.under (omega arith) refl;
        under = under_push rs made (begun_proc made t o v) kept.under refl;
        size = kept.size ∙ sym size;
        small = subst (λ n. n < 2 ^ 32) (sym size) kept.small;
        good = subst (λ hs. (p : ℕ) (q : Proc) → proc_at p (rs ++ begun_proc made t o v ∷ []) ≡ Some q → IsGood links hs q) (sym homes) (λ p q f. good p q f (eqb_tells p made));
        known = λ u p f. known u p (ap (λ hs. home_at hs u) (sym homes) ∙ f) (eqb_tells u t);
        harts = λ u x f none q g. harts u x f none q g (eqb_tells u t);
        branches = λ u x f. branches u x f (eqb_tells u t);
        used = omega (arith, kept.used, size, length-append free (t ∷ []), sum_by_push (λ (q : Proc). q.live) rs (begun_proc made t o v));
        total = omega (arith, kept.total, size, length-append free (t ∷ []), ap (sum_by (λ (q : ProcState ℕ). q.live)) begun_view, sum_by_push (λ (q : ProcState ℕ). q.live) (procs_of links rs made) (new_proc o t));
        sum = omega (arith, kept.sum, ap (sum_by (λ (q : ProcState ℕ). length q.ready)) begun_view, sum_by_push (λ (q : ProcState ℕ). length q.ready) (procs_of links rs made) (new_proc o t));
        unused = unused_stay (with_branch_of o tasks) free t (Some (new_task made hart)) ends.1 (all_to (λ u. slice_get tasks u ≡ Some None) (λ u. slice_get (with_branch_of o tasks) u ≡ Some None) (λ u h. none-joined o u tasks h) free (all_front (λ u. slice_get tasks u ≡ Some None) free t kept.unused).0);
        different = ends.0;
      }

  pub begun_sum : ready < length tasks
  begun_sum = omega (arith, few_ready links rs tasks (free ++ t ∷ []) made ready kept, kept.total, length-append free (t ∷ []))

  -- there is room for one more proc
  pub begun_room : length rs < length tasks
  begun_room = omega (arith, procs_fit rs (λ j q e. (own_good links rs tasks (free ++ t ∷ []) made ready j q kept e).some), kept.used, length-append free (t ∷ []))
