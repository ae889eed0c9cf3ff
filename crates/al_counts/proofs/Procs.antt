-- How an action changes how many procs there are, and how many tasks live.
use Rattle.std.proofs.Common.{◌≡◌, ℕ, zero, suc, ◌+◌, ◌-◌, ◌<◌, ◌≤◌, List, [], ◌∷◌, ◌++◌, length, drop, Option, Some, None, refl, sym, ap, ◌∙◌, true, false, Bool, cond, ◌==◌, ◌⊎◌, inl, inr, arith, length-append}
use Rattle.std.specs.Prelude.{nat_lt}
use Rattle.std.proofs.lemmas.Bool.Decides.{leb_tells}
use Rattle.std.proofs.lemmas.List.Sums.{sum_by-cons}
use Rattle.al_event.specs.declared.act.Start.{Start}
use Rattle.al_world.specs.Channels.{changed_at}
use Rattle.al_world.specs.Procs.{ProcState, Ended, live_tasks, is_full, most_tasks, joins, ends_proc, has_branches, new_proc, loses_first, without_parent, joins_ready, starts_in_proc}
use Rattle.al_world.specs.World.{TaskName, same_task}
use Rattle.al_world.specs.Actions.{first_task, procs_from}
use Rattle.al_world.proofs.Sound.{length-changed}

abbrev Procs : Type 0
Procs = List (ProcState TaskName)

pub live_cons : (q : ProcState TaskName) (qs : Procs) → live_tasks (q ∷ qs) ≡ q.live + live_tasks qs
live_cons q qs = sum_by-cons (λ (q : ProcState TaskName). q.live) q qs

module _ (f : ProcState TaskName → ProcState TaskName) where
  pub live_same : ((q : ProcState TaskName) → (f q).live ≡ q.live) → (k : ℕ) (procs : Procs) → live_tasks (changed_at k f procs) ≡ live_tasks procs
  live_same h k [] = refl
  live_same h zero (q ∷ qs) = live_cons (f q) qs ∙ ap (λ n. n + live_tasks qs) (h q) ∙ sym (live_cons q qs)
  live_same h (suc k) (q ∷ qs) = live_cons q (changed_at k f qs) ∙ ap (λ n. q.live + n) (live_same h k qs) ∙ sym (live_cons q qs)

  live_at_most : (n : ℕ) → ((q : ProcState TaskName) → (f q).live ≤ q.live + n) → (k : ℕ) (procs : Procs) → live_tasks (changed_at k f procs) ≤ live_tasks procs + n
  live_at_most n h k [] = omega arith
  live_at_most n h zero (q ∷ qs) = let one = h q in let a = live_cons (f q) qs in let b = live_cons q qs in omega (arith, one, a, b)
  live_at_most n h (suc k) (q ∷ qs) = let rest = live_at_most n h k qs in let a = live_cons q (changed_at k f qs) in let b = live_cons q qs in omega (arith, rest, a, b)

  live_at_least : (n : ℕ) → ((q : ProcState TaskName) → q.live ≤ (f q).live + n) → (k : ℕ) (procs : Procs) → live_tasks procs ≤ live_tasks (changed_at k f procs) + n
  live_at_least n h k [] = omega arith
  live_at_least n h zero (q ∷ qs) = let one = h q in let a = live_cons (f q) qs in let b = live_cons q qs in omega (arith, one, a, b)
  live_at_least n h (suc k) (q ∷ qs) = let rest = live_at_least n h k qs in let a = live_cons q (changed_at k f qs) in let b = live_cons q qs in omega (arith, rest, a, b)

live_append : (procs more : Procs) → live_tasks (procs ++ more) ≡ live_tasks procs + live_tasks more
live_append [] more = omega arith
live_append (q ∷ qs) more = let rest = live_append qs more in let a = live_cons q (qs ++ more) in let b = live_cons q qs in omega (arith, rest, a, b)

live_from : (parent : Option TaskName) (p : ℕ) (starts : List Start) → live_tasks (procs_from parent p starts) ≡ length starts
live_from parent p [] = refl
live_from parent p (s ∷ ss) = let rest = live_from parent (p + 1) ss in let a = live_cons (new_proc parent (first_task p)) (procs_from parent (p + 1) ss) in omega (arith, rest, a)

length_from : (parent : Option TaskName) (p : ℕ) (starts : List Start) → length (procs_from parent p starts) ≡ length starts
length_from parent p [] = refl
length_from parent p (s ∷ ss) = ap suc (length_from parent (p + 1) ss)

-- How procs may change by an entry: each that is made has a task that lives, and at most one task ends.
pub record ProcsGrow (before now : Procs) : Type 0 where
  pub kept : length now + live_tasks before ≤ length before + live_tasks now + 1
  pub few : live_tasks before ≤ most_tasks → live_tasks now ≤ most_tasks

pub stay : (procs : Procs) → ProcsGrow procs procs
stay procs = record { kept = omega arith; few = λ h. h }

-- a change that keeps how many there are
pub changed_grows : (before now : Procs) (k : ℕ) (f : ProcState TaskName → ProcState TaskName) → ((q : ProcState TaskName) → (f q).live ≡ q.live) → ProcsGrow before now → ProcsGrow before (changed_at k f now)
changed_grows before now k f same g =
    let live = live_same f same k now in
    let count = length-changed k f now in
    let kept = g.kept in record {
      kept = omega (arith, count, kept, live);
      few = λ h. let few = g.few h in omega (arith, few, live);
    }

pub loses_grows : (k : ℕ) (procs : Procs) → ProcsGrow procs (loses_first k procs)
loses_grows k procs =
    let least = live_at_least (λ (q : ProcState TaskName). record q { ready = drop 1 q.ready; live = q.live - 1 }) 1 (λ q. omega arith) k procs in
    let most = live_at_most (λ (q : ProcState TaskName). record q { ready = drop 1 q.ready; live = q.live - 1 }) 0 (λ q. omega arith) k procs in
    let count = length-changed k (λ (q : ProcState TaskName). record q { ready = drop 1 q.ready; live = q.live - 1 }) procs in record {
      kept = omega (arith, count, least);
      few = λ h. omega (arith, h, most);
    }

pub not_full : (procs : Procs) (n : ℕ) → is_full procs n ≡ false → live_tasks procs + n ≤ most_tasks
not_full procs n e = below (most_tasks) (live_tasks procs + n) e
  where
    below : (a b : ℕ) → nat_lt a b ≡ false → b ≤ a
    below a b e = on (leb_tells (suc a) b)
      where
        on : ((nat_lt a b ≡ true) × (suc a ≤ b)) ⊎ ((nat_lt a b ≡ false) × (b < suc a)) → b ≤ a
        on (inl x) = absurd (let no = sym e ∙ x.0 in cc)
        on (inr x) = let y = x.1 in omega (arith, y)

pub starts_grow : (before now : Procs) (p : ℕ) → live_tasks before + 1 ≤ most_tasks → (live_tasks now ≡ live_tasks before) → length now ≡ length before → (t : TaskName) → ProcsGrow before (starts_in_proc p t now)
starts_grow before now p room same count t =
    let least = live_at_least (λ (q : ProcState TaskName). record q { ready = q.ready ++ t ∷ []; live = q.live + 1 }) 0 (λ q. omega arith) p now in
    let most = live_at_most (λ (q : ProcState TaskName). record q { ready = q.ready ++ t ∷ []; live = q.live + 1 }) 1 (λ q. omega arith) p now in
    let length_is = length-changed p (λ (q : ProcState TaskName). record q { ready = q.ready ++ t ∷ []; live = q.live + 1 }) now in record {
      kept = omega (arith, length_is, count, least, same);
      few = λ h. omega (arith, most, same, room);
    }

pub more_grow : (before now : Procs) (parent : Option TaskName) (p : ℕ) (starts : List Start) → live_tasks before + length starts ≤ most_tasks → live_tasks now ≡ live_tasks before → length now ≡ length before → ProcsGrow before (now ++ procs_from parent p starts)
more_grow before now parent p starts room same count =
    let live = live_append now (procs_from parent p starts) in
    let new = live_from parent p starts in
    let all = length-append now (procs_from parent p starts) in
    let added = length_from parent p starts in record {
      kept = omega (arith, all, added, count, live, new, same);
      few = λ h. omega (arith, live, new, same, room);
    }

abbrev GrowsEnd : Procs → Ended TaskName → Type 0
GrowsEnd before e = ProcsGrow before e.procs

end_if : (before : Procs) (b : Bool) (x y : Ended TaskName) → GrowsEnd before x → GrowsEnd before y → GrowsEnd before (cond b x y)
end_if before true x y h k = h
end_if before false x y h k = k

joins_grow : (before now : Procs) → ProcsGrow before now → (o : Option TaskName) → GrowsEnd before (joins same_task (λ (u : TaskName). u.proc) now o)
joins_grow before now g None = g
joins_grow before now g (Some u) =
    end_if before (has_branches same_task (λ (u : TaskName). u.proc) u now) (record { procs = now; proc_ended = true; woke = None }) (record { procs = joins_ready u.proc u now; proc_ended = true; woke = Some u }) g (changed_grows before now u.proc (λ (q : ProcState TaskName). record q { ready = q.ready ++ u ∷ [] }) (λ q. refl) g)

pub ends_grow : (before now : Procs) (p : ℕ) → ProcsGrow before now → (o : Option (ProcState TaskName)) → GrowsEnd before (ends_proc same_task (λ (u : TaskName). u.proc) now p o)
ends_grow before now p g None = g
ends_grow before now p g (Some q) =
    end_if before (q.live == 0) (joins same_task (λ (u : TaskName). u.proc) (without_parent p now) q.parent) (record { procs = now; proc_ended = false; woke = None }) (joins_grow before (without_parent p now) (changed_grows before now p (λ (q : ProcState TaskName). record q { parent = None }) (λ q. refl) g) q.parent) g
