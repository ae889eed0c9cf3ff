-- Procs whose ready tasks are different ones of their live tasks, and what changes leave of that.
use Rattle.std.proofs.Common.{◌≡◌, ◌≢◌, ℕ, ◌+◌, ◌<◌, ◌≤◌, Bool, true, false, not, ◌==◌, List, [], ◌∷◌, length, set, refl, sym, ap, ◌∙◌, subst, arith, get_or-set_other, get_or-set_same, ◌⊎◌, inl, inr, cond, Option, Some, None}
use Rattle.std.specs.Prelude.{is_some, IsSome}
use Rattle.std.specs.List.{AllByRecursion, count_by}
use Rattle.std.proofs.lemmas.Bool.Decides.{eqb_tells}
use Rattle.std.proofs.lemmas.Bool.{cases_lt}
use Rattle.std.proofs.lemmas.List.{get_or_past}
use Rattle.std.proofs.lemmas.List.Sums.{sum_by-set}
use Rattle.al_world.proofs.Lists.{or_false, and_true}
use Rattle.task_book.specs.declared.proc.Proc.{Proc}
use Rattle.task_book.specs.Queues.{slots_of, has, are_different, EndsIn}
use Rattle.task_book.specs.Homes.{home_at, is_of}
use Rattle.task_book.specs.Kept.{IsGood}
use Rattle.task_book.proofs.Queueing.{eqb_false, eqb_not, eqb_same, not_true, all_has}

-- a task of a proc is in no queue of another one
pub not_has : (homes : List (Option ℕ)) (xs : List ℕ) (t p : ℕ) → AllByRecursion (λ u. home_at homes u ≡ Some p) xs → home_at homes t ≢ Some p → has t xs ≡ false
not_has homes xs t p h ne = on (has t xs) refl
  where
    on : (b : Bool) → has t xs ≡ b → has t xs ≡ false
    on true e = absurd (ne (all_has (λ u. home_at homes u ≡ Some p) xs t h e))
    on false e = e

pub home_within : (homes : List (Option ℕ)) (t p : ℕ) → home_at homes t ≡ Some p → t < length homes
home_within homes t p h = on (cases_lt t (length homes))
  where
    on : (t < length homes) ⊎ (length homes ≤ t) → t < length homes
    on (inl lt) = lt
    on (inr le) = absurd (let e = get_or_past homes t None le in cc)

pub all_reset : (homes : List (Option ℕ)) (xs : List ℕ) (t p : ℕ) (h : Option ℕ) → has t xs ≡ false → AllByRecursion (λ u. home_at homes u ≡ Some p) xs → AllByRecursion (λ u. home_at (set homes t h) u ≡ Some p) xs
all_reset homes [] t p h out all = tt
all_reset homes (x ∷ xs) t p h out all =
    let parts = or_false (x == t) (has t xs) out in
    (get_or-set_other homes t x h None (eqb_false x t parts.0) ∙ all.0, all_reset homes xs t p h parts.1 all.1)

not_of : (o : Option ℕ) (p : ℕ) → o ≢ Some p → is_of p o ≡ false
not_of None p ne = refl
not_of (Some q) p ne = eqb_not q p (λ e. ne (ap Some e))

is_of_own : (o : Option ℕ) (p : ℕ) → o ≡ Some p → is_of p o ≡ true
is_of_own o p e = ap (is_of p) e ∙ eqb_same p

-- how many tasks a proc has, after one slot changed
pub count_gains : (homes : List (Option ℕ)) (t p : ℕ) → t < length homes → home_at homes t ≢ Some p → count_by (is_of p) (set homes t (Some p)) ≡ count_by (is_of p) homes + 1
count_gains homes t p lt ne =
    omega (arith, sum_by-set (λ o. cond (is_of p o) 1 0) homes t (Some p) None lt, ap {B = ℕ} (λ b. cond b 1 0) (not_of (home_at homes t) p ne), ap {B = ℕ} (λ b. cond b 1 0) (eqb_same p))

pub count_loses : (homes : List (Option ℕ)) (t p : ℕ) → home_at homes t ≡ Some p → count_by (is_of p) (set homes t None) + 1 ≡ count_by (is_of p) homes
count_loses homes t p e =
    omega (arith, sum_by-set (λ o. cond (is_of p o) 1 0) homes t None None (home_within homes t p e), ap {B = ℕ} (λ b. cond b 1 0) (is_of_own (home_at homes t) p e))

pub count_stays : (homes : List (Option ℕ)) (t p : ℕ) (h : Option ℕ) → t < length homes → home_at homes t ≢ Some p → h ≢ Some p → count_by (is_of p) (set homes t h) ≡ count_by (is_of p) homes
count_stays homes t p h lt ne not_new =
    omega (arith, sum_by-set (λ o. cond (is_of p o) 1 0) homes t h None lt, ap {B = ℕ} (λ b. cond b 1 0) (not_of (home_at homes t) p ne), ap {B = ℕ} (λ b. cond b 1 0) (not_of h p not_new))

-- different tasks of a proc are no more than it has
pub fits : (xs : List ℕ) (homes : List (Option ℕ)) (p : ℕ) → are_different xs ≡ true → AllByRecursion (λ u. home_at homes u ≡ Some p) xs → length xs ≤ count_by (is_of p) homes
fits [] homes p d h = omega arith
fits (x ∷ xs) homes p d h =
    let parts = and_true (not (has x xs)) (are_different xs) d in
    omega (arith, fits xs (set homes x None) p parts.1 (all_reset homes xs x p None (not_true _ parts.0) h.1), count_loses homes x p h.0)

-- a slot of another proc, or none, has another home
pub good_set : (links : List ℕ) (homes : List (Option ℕ)) (q : Proc) (t : ℕ) (h : Option ℕ) → IsGood links homes q → t < length homes → home_at homes t ≢ Some q.number → h ≢ Some q.number → (q.parent ≡ Some t → IsSome h) → IsGood links (set homes t h) q
good_set links homes q t h good lt ne not_new stays = record {
  queue = good.queue;
  here = all_reset homes (slots_of links q.ready) t q.number h (not_has homes (slots_of links q.ready) t q.number good.here ne) good.here;
  live = good.live ∙ sym (count_stays homes t q.number h lt ne not_new);
  some = good.some;
  parent = λ u e. parent_stays u e (eqb_tells u t);
  away = good.away;
}
  where
    parent_stays : (u : ℕ) → q.parent ≡ Some u → (((u == t) ≡ true) × (u ≡ t)) ⊎ (((u == t) ≡ false) × (u ≢ t)) → IsSome (home_at (set homes t h) u)
    parent_stays u e (inl k) = ap is_some (ap (home_at (set homes t h)) k.1 ∙ get_or-set_same homes t h None lt) ∙ stays (e ∙ ap Some k.1)
    parent_stays u e (inr k) = ap is_some (get_or-set_other homes t u h None k.1) ∙ good.parent u e

-- links change that are not those of its queue
pub good_links : (links more : List ℕ) (homes : List (Option ℕ)) (q : Proc) → IsGood links homes q → slots_of more q.ready ≡ slots_of links q.ready → length more ≡ length links → IsGood more homes q
good_links links more homes q good same size = record {
  queue = record {
    different = ap are_different same ∙ good.queue.different;
    within = subst (λ n. AllByRecursion (λ x. x < n) (slots_of more q.ready)) (sym size) (subst (AllByRecursion (λ x. x < length links)) (sym same) good.queue.within);
    last = subst (EndsIn q.ready.tail) (sym same) good.queue.last;
  };
  here = subst (AllByRecursion (λ u. home_at homes u ≡ Some q.number)) (sym same) good.here;
  live = good.live;
  some = good.some;
  parent = good.parent;
  away = good.away;
}
