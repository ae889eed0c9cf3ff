-- The only task of a proc ends, and the proc with it.
use Rattle.std.proofs.Common.{◌≡◌, ◌≢◌, ℕ, zero, suc, ◌+◌, ◌-◌, ◌<◌, ◌^◌, Bool, true, false, ◌==◌, List, [], ◌∷◌, ◌++◌, length, set, refl, sym, ap, ◌∙◌, subst, arith, ◌⊎◌, inl, inr, cond, Option, Some, None, slice_get, option_map, get_or-set_other, get_or-set_same}
use Rattle.std.specs.Prelude.{is_some, IsSome, drop, nat_eq}
use Rattle.std.specs.List.{sum_by, count_by, remove}
use Rattle.std.proofs.lemmas.List.{length-append, length-set, map-set}
use Rattle.std.proofs.lemmas.List.Sums.{sum_by-remove, get_or-le-sum_by}
use Rattle.std.proofs.lemmas.Option.{same_Some, slice_get_within, get_or_from_slice_get}
use Rattle.std.proofs.lemmas.Bool.Decides.{eqb_tells}
use Rattle.al_world.proofs.Lists.{all_append, all_to}
use Rattle.al_world.specs.Channels.{changed_at}
use Rattle.al_world.specs.Procs.{ProcState, is_parent, loses_first, without_parent}
use Rattle.task_book.specs.declared.proc.Proc.{Proc}
use Rattle.task_book.specs.declared.proc.Task.{Task}
use Rattle.task_book.specs.Queues.{slots_of, has}
use Rattle.task_book.specs.Procs.{proc_at}
use Rattle.task_book.specs.Homes.{homes_of, home_at}
use Rattle.task_book.specs.Starting.{without_branch_of}
use Rattle.task_book.specs.Kept.{IsKept, IsGood, IsLent, procs_of, privates_of, state_of, waits_on}
use Rattle.task_book.proofs.Queueing.{all_has, eqb_same, length-slots, different_push}
use Rattle.task_book.proofs.Places.{rising_remove, under_remove, at_remove_same, at_remove_other}
use Rattle.task_book.proofs.Tables.{listed_changed, listed_set, sum_changed}
use Rattle.task_book.proofs.Good.{fits, good_set, count_loses, home_within}
use Rattle.task_book.proofs.Harts.{home_task}
use Rattle.task_book.proofs.Views.{at_number, get_proc}
use Rattle.task_book.proofs.Seen.{privates_seen}
use Rattle.task_book.proofs.Ready.{own_at, own_good, own_state}
use Rattle.task_book.proofs.Starts.{get_set_other, get_set_same, none_set}
use Rattle.task_book.proofs.Branches.{counted, homes-left, none-left, length-left, Left, left, task_home, count_has}

changed_twice : {X : Type 0} (p : ℕ) (f g : X → X) (xs : List X) → changed_at p g (changed_at p f xs) ≡ changed_at p (λ x. g (f x)) xs
changed_twice p f g [] = refl
changed_twice zero f g (x ∷ xs) = refl
changed_twice (suc p) f g (x ∷ xs) = ap (λ ys. x ∷ ys) (changed_twice p f g xs)

drop_one : (xs : List ℕ) → length xs ≡ 1 → drop 1 xs ≡ []
drop_one [] e = refl
drop_one (x ∷ []) e = refl
drop_one (x ∷ (y ∷ ys)) e = absurd (omega arith)

abbrev pub left_state : ProcState ℕ → ProcState ℕ
left_state q = record { ready = drop 1 q.ready; live = q.live - 1; parent = None }

module _ (links : List ℕ) (rs : List Proc) (tasks : List (Option Task)) (free : List ℕ) (made ready i : ℕ) (r : Proc) (t : ℕ) (kept : IsKept links rs tasks free made ready) (e : slice_get rs i ≡ Some r) (some : 0 < r.ready.len) (home : home_at (homes_of tasks) t ≡ Some r.number) (last : r.live ≡ 1) (alone : count_by (waits_on t) (procs_of links rs made) ≡ 0) where
  own : IsGood links (homes_of tasks) r
  own = own_good links rs tasks free made ready i r kept e

  is_at : proc_at r.number rs ≡ Some r
  is_at = own_at links rs tasks free made ready i r kept e

  one : length (slots_of links r.ready) ≡ 1
  one = omega (arith, own.live, last, length-slots links r.ready, some, fits (slots_of links r.ready) (homes_of tasks) r.number own.queue.different own.here)

  inside : t < length (homes_of tasks)
  inside = home_within (homes_of tasks) t r.number home

  there : (x : Task) × (slice_get tasks t ≡ Some (Some x)) × (x.proc ≡ r.number)
  there = home_task tasks t r.number home

  homes : homes_of (set (without_branch_of r.parent tasks) t None) ≡ set (homes_of tasks) t None
  homes = map-set (λ (x : Option Task). option_map (λ (x : Task). x.proc) x) (without_branch_of r.parent tasks) t None ∙ ap (λ hs. set hs t None) (homes-left r.parent tasks)

  pub size : length (set (without_branch_of r.parent tasks) t None) ≡ length tasks
  size = length-set (without_branch_of r.parent tasks) t None ∙ length-left r.parent tasks

  pub free_less : length free < length tasks
  free_less = omega (arith, kept.used, get_or-le-sum_by (λ (q : Proc). q.live) rs i r (slice_get_within rs i r e), ap (λ (q : Proc). q.live) (get_or_from_slice_get rs i r r e), own.some)

  -- ---- what is seen

  left_view : procs_of links (remove rs i) made ≡ changed_at r.number left_state (procs_of links rs made)
  left_view =
      listed_changed (λ m. state_of links (proc_at m rs)) (λ m. state_of links (proc_at m (remove rs i))) left_state made r.number
      (ap (state_of links) (at_remove_same rs 0 i r kept.rising e) ∙ sym (ap (λ x. left_state (state_of links x)) is_at ∙ same_state (drop 1 (slots_of links r.ready)) (r.live - 1) (drop_one (slots_of links r.ready) one) (omega (arith, last))))
      (λ m ne. ap (state_of links) (at_remove_other rs i m r e ne))
    where
      same_state : (xs : List ℕ) (n : ℕ) → xs ≡ [] → n ≡ 0 → ◌≡◌ {A = ProcState ℕ} (record { ready = xs; live = n; parent = None }) (record { ready = []; live = 0; parent = None })
      same_state xs n f g = λ j. record { ready = f j; live = g j; parent = None }

  pub ended_view : procs_of links (remove rs i) made ≡ without_parent r.number (loses_first r.number (procs_of links rs made))
  ended_view = left_view ∙ sym (changed_twice r.number (λ q. record q { ready = drop 1 q.ready; live = q.live - 1 }) (λ q. record q { parent = None }) (procs_of links rs made))

  pub ended_privates : privates_seen (remove rs i) made ≡ set (privates_seen rs made) r.number None
  ended_privates =
      listed_set (λ m. privates_of (proc_at m rs)) (λ m. privates_of (proc_at m (remove rs i))) None made r.number (ap privates_of (at_remove_same rs 0 i r kept.rising e)) (λ m ne. ap privates_of (at_remove_other rs i m r e ne))

  -- ---- what holds

  no_child : (p : ℕ) (q : Proc) → proc_at p rs ≡ Some q → q.parent ≡ Some t → ⊥
  no_child p q f g =
      let state = get_proc links rs made p q kept.under f in
      let waits : waits_on t (state_of links (Some q)) ≡ true = ap (is_parent nat_eq (λ u. 0) t) g ∙ eqb_same t in
      absurd (omega (arith, alone, get_or-le-sum_by (λ v. cond (waits_on t v) 1 0) (procs_of links rs made) p (state_of links (Some q)) (slice_get_within (procs_of links rs made) p (state_of links (Some q)) state), ap {B = ℕ} (λ v. cond (waits_on t v) 1 0) (get_or_from_slice_get (procs_of links rs made) p (state_of links (Some q)) (state_of links (Some q)) state), ap {B = ℕ} (λ b. cond b 1 0) waits))

  -- it has no other task
  only : (u : ℕ) → u ≢ t → home_at (homes_of tasks) u ≢ Some r.number
  only u ne f =
      absurd (omega (arith, count_has (set (homes_of tasks) t None) u r.number (get_or-set_other (homes_of tasks) t u None None ne ∙ f), count_loses (homes_of tasks) t r.number home, own.live, last))

  good : (p : ℕ) (q : Proc) → proc_at p (remove rs i) ≡ Some q → (((p == r.number) ≡ true) × (p ≡ r.number)) ⊎ (((p == r.number) ≡ false) × (p ≢ r.number)) → IsGood links (set (homes_of tasks) t None) q
  good p q f (inl k) = absurd (let g = sym (at_remove_same rs 0 i r kept.rising e) ∙ ap (λ n. proc_at n (remove rs i)) (sym k.1) ∙ f in cc)
  good p q f (inr k) =
      let g : proc_at p rs ≡ Some q = sym (at_remove_other rs i p r e k.1) ∙ f in
      good_set links (homes_of tasks) q t None (kept.good p q g) inside (λ h. k.1 (sym (at_number rs p q g) ∙ sym (same_Some r.number q.number (sym home ∙ h)))) (λ h. absurd (cc)) (λ h. absurd (no_child p q g h))

  known : (u p : ℕ) → home_at (set (homes_of tasks) t None) u ≡ Some p → (((u == t) ≡ true) × (u ≡ t)) ⊎ (((u == t) ≡ false) × (u ≢ t)) → IsSome (proc_at p (remove rs i))
  known u p f (inl k) = absurd (let a = sym (get_or-set_same (homes_of tasks) t None None inside) ∙ ap (home_at (set (homes_of tasks) t None)) (sym k.1) ∙ f in cc)
  known u p f (inr k) =
      let g : home_at (homes_of tasks) u ≡ Some p = sym (get_or-set_other (homes_of tasks) t u None None k.1) ∙ f in
      ap is_some (at_remove_other rs i p r e (λ h. only u k.1 (g ∙ ap Some h))) ∙ kept.known u p g

  there-left : (x : Task) × (slice_get (without_branch_of r.parent tasks) t ≡ Some (Some x))
  there-left = let f = home_task (without_branch_of r.parent tasks) t r.number (ap (λ hs. home_at hs t) (homes-left r.parent tasks) ∙ home) in (f.0, f.1)

  not_it : (u : ℕ) (x : Task) → slice_get (set (without_branch_of r.parent tasks) t None) u ≡ Some (Some x) → u ≢ t
  not_it u x f k = absurd (let a = same_Some None (Some x) (sym (get_set_same (without_branch_of r.parent tasks) t (Some there-left.0) None there-left.1) ∙ ap (slice_get (set (without_branch_of r.parent tasks) t None)) (sym k) ∙ f) in cc)

  was : (u : ℕ) (x : Task) → slice_get (set (without_branch_of r.parent tasks) t None) u ≡ Some (Some x) → Left tasks r.parent u x
  was u x f = left r.parent u tasks x (sym (get_set_other (without_branch_of r.parent tasks) t u None (not_it u x f)) ∙ f)

  harts : (u : ℕ) (x : Task) → slice_get (set (without_branch_of r.parent tasks) t None) u ≡ Some (Some x) → x.hart ≡ None → (q : Proc) → proc_at x.proc (remove rs i) ≡ Some q → IsLent u q
  harts u x f none q g = on (was u x f)
    where
      on : Left tasks r.parent u x → IsLent u q
      on b = kept.harts u b.task b.there (sym b.hart ∙ none) q (ap (λ n. proc_at n rs) (sym b.proc) ∙ sym (at_remove_other rs i x.proc r e (λ m. only u (not_it u x f) (task_home tasks u b.task b.there ∙ ap Some (sym b.proc ∙ m)))) ∙ g)

  fewer : (u : ℕ) → count_by (waits_on u) (procs_of links (remove rs i) made) + counted u r.parent ≡ count_by (waits_on u) (procs_of links rs made)
  fewer u = omega (arith, ap (count_by (waits_on u)) left_view, sum_changed (λ q. cond (waits_on u q) 1 0) left_state (procs_of links rs made) r.number (state_of links (Some r)) (own_state links rs tasks free made ready i r kept e))

  branches : (u : ℕ) (x : Task) → slice_get (set (without_branch_of r.parent tasks) t None) u ≡ Some (Some x) → x.branches ≡ count_by (waits_on u) (procs_of links (remove rs i) made)
  branches u x f = on (was u x f)
    where
      on : Left tasks r.parent u x → x.branches ≡ count_by (waits_on u) (procs_of links (remove rs i) made)
      on b = omega (arith, b.branches, kept.branches u b.task b.there, fewer u)

  not_free : (b : Bool) → has t free ≡ b → has t free ≡ false
  not_free false f = f
  not_free true f = absurd (let a : slice_get tasks t ≡ Some None = all_has (λ u. slice_get tasks u ≡ Some None) free t kept.unused f in let b = same_Some None (Some there.0) (sym a ∙ there.1) in cc)

  pub last_kept : IsKept links (remove rs i) (set (without_branch_of r.parent tasks) t None) (free ++ t ∷ []) made (ready - 1)
  last_kept = record {
    rising = rising_remove rs 0 i kept.rising;
    under = under_remove rs made i kept.under;
    size = kept.size ∙ sym size;
    small = subst (λ n. n < 2 ^ 32) (sym size) kept.small;
    good = subst (λ hs. (p : ℕ) (q : Proc) → proc_at p (remove rs i) ≡ Some q → IsGood links hs q) (sym homes) (λ p q f. good p q f (eqb_tells p r.number));
    known = λ u p f. known u p (ap (λ hs. home_at hs u) (sym homes) ∙ f) (eqb_tells u t);
    harts = harts;
    branches = branches;
    used = omega (arith, kept.used, size, last, length-append free (t ∷ []), sum_by-remove (λ (q : Proc). q.live) rs i r (slice_get_within rs i r e), ap (λ (q : Proc). q.live) (get_or_from_slice_get rs i r r e));
    total = omega (arith, kept.total, size, last, length-append free (t ∷ []), ap (sum_by (λ (q : ProcState ℕ). q.live)) left_view, sum_changed (λ (q : ProcState ℕ). q.live) left_state (procs_of links rs made) r.number (state_of links (Some r)) (own_state links rs tasks free made ready i r kept e));
    sum = omega (arith, kept.sum, one, ap length (drop_one (slots_of links r.ready) one), ap (sum_by (λ (q : ProcState ℕ). length q.ready)) left_view, sum_changed (λ (q : ProcState ℕ). length q.ready) left_state (procs_of links rs made) r.number (state_of links (Some r)) (own_state links rs tasks free made ready i r kept e));
    unused = all_append _ free (t ∷ []) (all_to (λ u. slice_get tasks u ≡ Some None) (λ u. slice_get (set (without_branch_of r.parent tasks) t None) u ≡ Some None) (λ y h. none_set (without_branch_of r.parent tasks) y t (none-left r.parent y tasks h)) free kept.unused) (get_set_same (without_branch_of r.parent tasks) t (Some there-left.0) None there-left.1, tt);
    different = different_push free t kept.different (not_free (has t free) refl);
  }
