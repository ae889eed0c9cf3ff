-- The clocks after one entry more tell as much of the longer run.
use Rattle.std.proofs.Common.{◌≡◌, ℕ, suc, ◌<◌, ◌≤◌, Bool, true, false, cond, ◌&&◌, ◌||◌, ◌==◌, ◌⊎◌, inl, inr, List, [], ◌∷◌, length, Option, Some, refl, sym, ap, ◌∙◌, subst, arith}
use Rattle.std.specs.Prelude.{is_some, is_none}
use Rattle.al_world.specs.World.{TaskName, same_task}
use Rattle.al_seen.specs.declared.seen.Seen.{Seen}
use Rattle.al_race.specs.Order.{entry, procs, starts, wakes, is_of, same_proc, started, woke, joined, is_branch, is_of_branch, met, passed, leads, is_before}
use Rattle.al_race.proofs.Bools.{equal, unequal, same_number, is_below, both_true, true_or, or_true, and_true}
use Rattle.al_race.proofs.Paths.{upto, reach, at_new, upto_old, upto_outside, entry_new, entry_old}
use Rattle.al_clocks.specs.Clocks.{Clock, nothing, both, Clocks, clock_of, entry_clocks, proc_clocks, of_some, told, heard_by, after_entry, clocks, AllMade}
use Rattle.al_clocks.proofs.Facts.{pick, or_cases, max_cases, reach_at, reach_by, reach_more_of, entry_cases, reach_new, reach_old, reach_cases, starts_range, started_low, branch_of, woke_low, joined_low, branch_low, branch_starter, of_some_by, of_some_at}
use Rattle.al_clocks.proofs.Coming.{Sound, Full, Low, own, heard_of, owned, Told, new_sound, new_full, new_low}
use Rattle.al_clocks.proofs.Steps.{or_none, none_or, some_or, of_entry, clash, not_started, of_some_low, made_below}

module _ (e : Seen) (past : List Seen) (c : Clocks) (was : Told past c) (made : e.task.proc < procs past) (all : AllMade past) where
  abbrev run : List Seen
  run = e ∷ past

  abbrev n : ℕ
  n = length past

  abbrev p : ℕ
  p = e.task.proc

  abbrev new : Clock
  new = clock_of e past c

  know : Sound run new (λ i. upto run i n)
  know = new_sound e past c was made

  known : Full run new (λ i. upto run i n)
  known = new_full e past c was made

  low : Low run new
  low = new_low e past c was made

  -- no entry of the past comes after it
  none_later : (i k : ℕ) → i ≡ n → k < n → upto past i k ≡ true → ⊥
  none_later i k at less up = clash (upto past i k) up (upto_outside past i k (omega (arith, at)) less)

  -- ---- entries

  entry_sound : (k : ℕ) → k < suc n → Sound run (entry_clocks new n c.entries k) (λ i. upto run i k)
  entry_sound k less i d h lt = on (pick (k == n)) lt
    where
      by : k < n → ((i ≡ n) × (e ≡ d)) ⊎ ((i < n) × (entry past i ≡ Some d)) → i < c.entries k d.task.proc → upto run i k ≡ true
      by before (inl x) m = let at = x.0 in let bound = was.entry_low k d.task.proc in absurd (omega (arith, at, bound, m))
      by before (inr x) m = upto_old e past i k before ∙ was.entry_sound k before i d x.1 m

      on : ((k == n) ≡ true) ⊎ ((k == n) ≡ false) → i < entry_clocks new n c.entries k d.task.proc → upto run i k ≡ true
      on (inl same) l = ap (upto run i) (equal k n same) ∙ know i d h (subst (λ (v : Bool). i < cond v new (c.entries k) d.task.proc) same l)
      on (inr apart) l =
          let s = unequal k n apart in
          by (omega (arith, less, s)) (entry_cases e past i d h) (subst (λ (v : Bool). i < cond v new (c.entries k) d.task.proc) apart l)

  entry_full : (k : ℕ) → k < suc n → Full run (entry_clocks new n c.entries k) (λ i. upto run i k)
  entry_full k less i d h up = on (pick (k == n))
    where
      by : k < n → ((i ≡ n) × (e ≡ d)) ⊎ ((i < n) × (entry past i ≡ Some d)) → i < c.entries k d.task.proc
      by before (inl x) = absurd (none_later i k x.0 before (sym (upto_old e past i k before) ∙ up))
      by before (inr x) = was.entry_full k before i d x.1 (sym (upto_old e past i k before) ∙ up)

      on : ((k == n) ≡ true) ⊎ ((k == n) ≡ false) → i < entry_clocks new n c.entries k d.task.proc
      on (inl same) =
          subst (λ (v : Bool). i < cond v new (c.entries k) d.task.proc) (sym same) (known i d h (ap (upto run i) (sym (equal k n same)) ∙ up))
      on (inr apart) =
          let s = unequal k n apart in
          subst (λ (v : Bool). i < cond v new (c.entries k) d.task.proc) (sym apart) (by (omega (arith, less, s)) (entry_cases e past i d h))

  entry_low : (k : ℕ) → Low run (entry_clocks new n c.entries k)
  entry_low k q = on (k == n)
    where
      on : (v : Bool) → cond v new (c.entries k) q ≤ suc n
      on true = low q
      on false = let bound = was.entry_low k q in omega (arith, bound)

  -- ---- procs

  abbrev now : ℕ → Clock
  now = proc_clocks new e past c.procs

  abbrev fresh : ℕ → Bool
  fresh q = (q == p) || starts e past q

  now_new : (q : ℕ) → fresh q ≡ true → now q ≡ new
  now_new q h = on (pick (q == p))
    where
      on : ((q == p) ≡ true) ⊎ ((q == p) ≡ false) → now q ≡ new
      on (inl same) = ap (λ (v : Bool). cond v new (cond (starts e past q) new (c.procs q))) same
      on (inr apart) =
          ap (λ (v : Bool). cond v new (cond (starts e past q) new (c.procs q))) apart
          ∙ ap (λ (v : Bool). cond v new (c.procs q)) (sym (ap (λ (v : Bool). v || starts e past q) apart) ∙ h)

  now_old : (q : ℕ) → fresh q ≡ false → now q ≡ c.procs q
  now_old q h =
      let lacks = or_none (q == p) (starts e past q) h in
      ap (λ (v : Bool). cond v new (cond (starts e past q) new (c.procs q))) lacks.0 ∙ ap (λ (v : Bool). cond v new (c.procs q)) lacks.1

  of_new : (q : ℕ) → same_proc run q n ≡ (p == q)
  of_new q = ap (λ (o : Option Seen). is_of o q) (entry_new e past)

  of_old : (q k : ℕ) → k < n → same_proc run q k ≡ same_proc past q k
  of_old q k less = ap (λ (o : Option Seen). is_of o q) (entry_old e past k (λ same. let s = same in omega (arith, less, s)))

  own_new : (q : ℕ) → fresh q ≡ true → own run q n ≡ true
  own_new q h = on (or_cases (q == p) (starts e past q) h)
    where
      on : ((q == p) ≡ true) ⊎ (starts e past q ≡ true) → own run q n ≡ true
      on (inl same) = true_or (same_proc run q n) (started run q n) (of_new q ∙ (ap (λ (m : ℕ). p == m) (equal q p same) ∙ same_number p))
      on (inr is) =
          or_true (same_proc run q n) (started run q n)
          (true_or (starts e past q && (n == n)) (started past q n) (and_true (starts e past q) (n == n) is (same_number n)))

  own_new_only : (q : ℕ) → own run q n ≡ true → fresh q ≡ true
  own_new_only q h = on (or_cases (same_proc run q n) (started run q n) h)
    where
      by : ((starts e past q && (n == n)) ≡ true) ⊎ (started past q n ≡ true) → fresh q ≡ true
      by (inl x) = or_true (q == p) (starts e past q) (both_true (starts e past q) (n == n) x).0
      by (inr y) = absurd (let less = (started_low past q n y).0 in omega (arith, less))

      on : (same_proc run q n ≡ true) ⊎ (started run q n ≡ true) → fresh q ≡ true
      on (inl x) = true_or (q == p) (starts e past q) (ap (λ (m : ℕ). m == p) (sym (equal p q (sym (of_new q) ∙ x))) ∙ same_number p)
      on (inr y) = by (or_cases (starts e past q && (n == n)) (started past q n) y)

  own_old : (q k : ℕ) → k < n → own past q k ≡ true → own run q k ≡ true
  own_old q k less h = on (or_cases (same_proc past q k) (started past q k) h)
    where
      on : (same_proc past q k ≡ true) ⊎ (started past q k ≡ true) → own run q k ≡ true
      on (inl x) = true_or (same_proc run q k) (started run q k) (of_old q k less ∙ x)
      on (inr y) = or_true (same_proc run q k) (started run q k) (or_true (starts e past q && (k == n)) (started past q k) y)

  own_back : (q k : ℕ) → k < n → own run q k ≡ true → own past q k ≡ true
  own_back q k less h = on (or_cases (same_proc run q k) (started run q k) h)
    where
      by : ((starts e past q && (k == n)) ≡ true) ⊎ (started past q k ≡ true) → own past q k ≡ true
      by (inl x) = absurd (let at = equal k n (both_true (starts e past q) (k == n) x).1 in omega (arith, less, at))
      by (inr y) = or_true (same_proc past q k) (started past q k) y

      on : (same_proc run q k ≡ true) ⊎ (started run q k ≡ true) → own past q k ≡ true
      on (inl x) = true_or (same_proc past q k) (started past q k) (sym (of_old q k less) ∙ x)
      on (inr y) = by (or_cases (starts e past q && (k == n)) (started past q k) y)

  -- a new proc has no entry
  own_none : (q k : ℕ) → starts e past q ≡ true → own past q k ≡ true → ⊥
  own_none q k is h = on (or_cases (same_proc past q k) (started past q k) h)
    where
      on : (same_proc past q k ≡ true) ⊎ (started past q k ≡ true) → ⊥
      on (inl x) =
          let one = of_entry (entry past k) q x in
          let less = made_below past all k one.0 one.1 in
          let same = equal one.0.task.proc q one.2 in
          let high = (starts_range e past q is).0 in
          omega (arith, less, same, high)
      on (inr y) =
          let less = (started_low past q k y).1 in
          let high = (starts_range e past q is).0 in
          omega (arith, less, high)

  proc_sound : (q : ℕ) → q < procs run → Sound run (now q) (reach run (own run q))
  proc_sound q less i d h lt = on (pick (fresh q))
    where
      by : fresh q ≡ false → ((i ≡ n) × (e ≡ d)) ⊎ ((i < n) × (entry past i ≡ Some d)) → i < c.procs q d.task.proc → reach run (own run q) i ≡ true
      by lacks (inl x) m = let at = x.0 in let bound = was.proc_low q d.task.proc in absurd (omega (arith, at, bound, m))
      by lacks (inr x) m =
          reach_old e past (own past q) (own run q) i (own_old q)
          (was.proc_sound q (not_started e past q (or_none (q == p) (starts e past q) lacks).1 less) i d x.1 m)

      on : (fresh q ≡ true) ⊎ (fresh q ≡ false) → reach run (own run q) i ≡ true
      on (inl held) = reach_new e past (own run q) i (own_new q held) (know i d h (subst (λ (k : Clock). i < k d.task.proc) (now_new q held) lt))
      on (inr lacks) = by lacks (entry_cases e past i d h) (subst (λ (k : Clock). i < k d.task.proc) (now_old q lacks) lt)

  proc_full : (q : ℕ) → q < procs run → Full run (now q) (reach run (own run q))
  proc_full q less i d h r = on (pick (fresh q)) (reach_cases e past (own run q) i r)
    where
      own_leads : (m : ℕ) → own past p m ≡ true → leads e past m ≡ true
      own_leads m x = ap (λ (v : Bool). v || woke past e.task m || joined past e.task m || met past e.went e.woke m || passed past e.went m) x

      leads_up : (k : ℕ) → k < n → own past p k ≡ true → upto past i k ≡ true → upto run i n ≡ true
      leads_up k before is up =
          or_true (n == i) (is_before run i n) (at_new e past i ∙ reach_at past (leads e past) i k before (own_leads k is) up)

      mine : upto run i n ≡ true → fresh q ≡ true → i < now q d.task.proc
      mine up held = subst (λ (k : Clock). i < k d.task.proc) (sym (now_new q held)) (known i d h up)

      by : (k : ℕ) → k < n → own past q k ≡ true → upto past i k ≡ true → fresh q ≡ true → ((q == p) ≡ true) ⊎ (starts e past q ≡ true) → i < now q d.task.proc
      by k before is up held (inl same) = mine (leads_up k before (subst (λ (m : ℕ). own past m k ≡ true) (equal q p same) is) up) held
      by k before is up held (inr new_one) = absurd (own_none q k new_one is)

      old : (k : ℕ) → k < n → own past q k ≡ true → upto past i k ≡ true → fresh q ≡ false → ((i ≡ n) × (e ≡ d)) ⊎ ((i < n) × (entry past i ≡ Some d)) → i < c.procs q d.task.proc
      old k before is up lacks (inl x) = absurd (none_later i k x.0 before up)
      old k before is up lacks (inr x) =
          was.proc_full q (not_started e past q (or_none (q == p) (starts e past q) lacks).1 less) i d x.1 (reach_at past (own past q) i k before is up)

      on : (fresh q ≡ true) ⊎ (fresh q ≡ false) → ((own run q n ≡ true) × (upto run i n ≡ true)) ⊎ ((k : ℕ) × (k < n) × (own run q k ≡ true) × (upto past i k ≡ true)) → i < now q d.task.proc
      on (inl held) (inl x) = mine x.1 held
      on (inl held) (inr x) = by x.0 x.1 (own_back q x.0 x.1 x.2) x.3 held (or_cases (q == p) (starts e past q) held)
      on (inr lacks) (inl x) = absurd (clash (fresh q) (own_new_only q x.0) lacks)
      on (inr lacks) (inr x) =
          subst (λ (k : Clock). i < k d.task.proc) (sym (now_old q lacks))
          (old x.0 x.1 (own_back q x.0 x.1 x.2) x.3 lacks (entry_cases e past i d h))

  proc_low : (q : ℕ) → Low run (now q)
  proc_low q r = on (q == p) (starts e past q)
    where
      on : (v w : Bool) → cond v new (cond w new (c.procs q)) r ≤ suc n
      on true w = low r
      on false true = low r
      on false false = let bound = was.proc_low q r in omega (arith, bound)

  -- ---- what a task is told

  -- its talk went, by the new entry
  abbrev goes_by : TaskName → ℕ → Bool
  goes_by t k = wakes e t && is_some e.went && (k == n)

  -- its par is over, and k is an entry of a branch
  abbrev ends_by : TaskName → ℕ → Bool
  ends_by t k = wakes e t && is_none e.went && is_of_branch run t (entry run k)

  heard_form : (t : TaskName) (k : ℕ) → same_task e.task t ≡ false → heard_of run t k ≡ ((goes_by t k || woke past t k) || (ends_by t k || joined past t k))
  heard_form t k apart = ap (λ (v : Bool). cond v false (goes_by t k || woke past t k) || cond v false (ends_by t k || joined past t k)) apart

  heard_gone : (t : TaskName) (k : ℕ) → same_task e.task t ≡ true → heard_of run t k ≡ false
  heard_gone t k same = ap (λ (v : Bool). cond v false (goes_by t k || woke past t k) || cond v false (ends_by t k || joined past t k)) same

  goes_heard : (t : TaskName) (k : ℕ) → same_task e.task t ≡ false → goes_by t k ≡ true → heard_of run t k ≡ true
  goes_heard t k apart h = heard_form t k apart ∙ true_or (goes_by t k || woke past t k) (ends_by t k || joined past t k) (true_or (goes_by t k) (woke past t k) h)

  ends_heard : (t : TaskName) (k : ℕ) → same_task e.task t ≡ false → ends_by t k ≡ true → heard_of run t k ≡ true
  ends_heard t k apart h = heard_form t k apart ∙ or_true (goes_by t k || woke past t k) (ends_by t k || joined past t k) (true_or (ends_by t k) (joined past t k) h)

  heard_old : (t : TaskName) (k : ℕ) → same_task e.task t ≡ false → heard_of past t k ≡ true → heard_of run t k ≡ true
  heard_old t k apart h = heard_form t k apart ∙ on (or_cases (woke past t k) (joined past t k) h)
    where
      on : (woke past t k ≡ true) ⊎ (joined past t k ≡ true) → ((goes_by t k || woke past t k) || (ends_by t k || joined past t k)) ≡ true
      on (inl x) = true_or (goes_by t k || woke past t k) (ends_by t k || joined past t k) (or_true (goes_by t k) (woke past t k) x)
      on (inr x) = or_true (goes_by t k || woke past t k) (ends_by t k || joined past t k) (or_true (ends_by t k) (joined past t k) x)

  heard_cases : (t : TaskName) (k : ℕ) → same_task e.task t ≡ false → heard_of run t k ≡ true → (goes_by t k ≡ true) ⊎ ((ends_by t k ≡ true) ⊎ (heard_of past t k ≡ true))
  heard_cases t k apart h = on (or_cases (goes_by t k || woke past t k) (ends_by t k || joined past t k) (sym (heard_form t k apart) ∙ h))
    where
      first : (goes_by t k ≡ true) ⊎ (woke past t k ≡ true) → (goes_by t k ≡ true) ⊎ ((ends_by t k ≡ true) ⊎ (heard_of past t k ≡ true))
      first (inl x) = inl x
      first (inr x) = inr (inr (true_or (woke past t k) (joined past t k) x))

      second : (ends_by t k ≡ true) ⊎ (joined past t k ≡ true) → (goes_by t k ≡ true) ⊎ ((ends_by t k ≡ true) ⊎ (heard_of past t k ≡ true))
      second (inl x) = inr (inl x)
      second (inr x) = inr (inr (or_true (woke past t k) (joined past t k) x))

      on : ((goes_by t k || woke past t k) ≡ true) ⊎ ((ends_by t k || joined past t k) ≡ true) → (goes_by t k ≡ true) ⊎ ((ends_by t k ≡ true) ⊎ (heard_of past t k ≡ true))
      on (inl x) = first (or_cases (goes_by t k) (woke past t k) x)
      on (inr x) = second (or_cases (ends_by t k) (joined past t k) x)

  heard_low : (t : TaskName) (k : ℕ) → heard_of past t k ≡ true → k < n
  heard_low t k h = on (or_cases (woke past t k) (joined past t k) h)
    where
      on : (woke past t k ≡ true) ⊎ (joined past t k ≡ true) → k < n
      on (inl x) = woke_low past t k x
      on (inr x) = joined_low past t k x

  owned_old : (t : TaskName) (k : ℕ) → same_task e.task t ≡ false → k < n → owned past t k ≡ true → owned run t k ≡ true
  owned_old t k apart less h = on (or_cases (own past t.proc k) (heard_of past t k) h)
    where
      on : (own past t.proc k ≡ true) ⊎ (heard_of past t k ≡ true) → owned run t k ≡ true
      on (inl x) = true_or (own run t.proc k) (heard_of run t k) (own_old t.proc k less x)
      on (inr x) = or_true (own run t.proc k) (heard_of run t k) (heard_old t k apart x)

  branch_now : (t : TaskName) (q : ℕ) → same_task e.task t ≡ false → is_branch run t q ≡ is_branch past t q
  branch_now t q apart = ap (λ (v : Bool). cond v (starts e past q) (is_branch past t q)) apart

  abbrev tells : TaskName → Clock
  tells t = told e past new now t

  abbrev hears : TaskName → Clock
  hears t = heard_by e past new now c.heard t

  hears_none : (t : TaskName) → same_task e.task t ≡ true → hears t ≡ nothing
  hears_none t same = ap (λ (v : Bool). cond v nothing (cond (wakes e t) (both (c.heard t) (tells t)) (c.heard t))) same

  hears_more : (t : TaskName) → same_task e.task t ≡ false → wakes e t ≡ true → hears t ≡ both (c.heard t) (tells t)
  hears_more t apart wake =
      ap (λ (v : Bool). cond v nothing (cond (wakes e t) (both (c.heard t) (tells t)) (c.heard t))) apart
      ∙ ap (λ (v : Bool). cond v (both (c.heard t) (tells t)) (c.heard t)) wake

  hears_same : (t : TaskName) → same_task e.task t ≡ false → wakes e t ≡ false → hears t ≡ c.heard t
  hears_same t apart wake =
      ap (λ (v : Bool). cond v nothing (cond (wakes e t) (both (c.heard t) (tells t)) (c.heard t))) apart
      ∙ ap (λ (v : Bool). cond v (both (c.heard t) (tells t)) (c.heard t)) wake

  module _ (t : TaskName) (apart : same_task e.task t ≡ false) where
    old_sound : Sound run (c.heard t) (reach run (owned run t))
    old_sound i d h lt = on (entry_cases e past i d h)
      where
        on : ((i ≡ n) × (e ≡ d)) ⊎ ((i < n) × (entry past i ≡ Some d)) → reach run (owned run t) i ≡ true
        on (inl x) = let at = x.0 in let bound = was.heard_low t d.task.proc in absurd (omega (arith, at, bound, lt))
        on (inr x) = reach_old e past (owned past t) (owned run t) i (λ k less is. owned_old t k apart less is) (was.heard_sound t i d x.1 lt)

    -- what a branch knows belongs to it, or to what started it, which is an entry of the task
    branch_sound : wakes e t ≡ true → is_none e.went ≡ true → (q : ℕ) → q < procs run → is_branch past t q ≡ true → Sound run (now q) (reach run (owned run t))
    branch_sound wake none q less is i d h lt =
        reach_more_of run (own run q) (owned run t) i (λ k _ x. on k (or_cases (same_proc run q k) (started run q k) x)) (proc_sound q less i d h lt)
      where
        here : is_branch run t q ≡ true
        here = branch_now t q apart ∙ is

        by : (k : ℕ) → (s : Seen) × (entry run k ≡ Some s) × ((s.task.proc == q) ≡ true) → is_of_branch run t (entry run k) ≡ true
        by k x = ap (is_of_branch run t) x.1 ∙ (ap (is_branch run t) (equal x.0.task.proc q x.2) ∙ here)

        on : (k : ℕ) → (same_proc run q k ≡ true) ⊎ (started run q k ≡ true) → owned run t k ≡ true
        on k (inl x) =
            or_true (own run t.proc k) (heard_of run t k)
            (ends_heard t k apart
            (and_true (wakes e t && is_none e.went) (is_of_branch run t (entry run k)) (and_true (wakes e t) (is_none e.went) wake none) (by k (of_entry (entry run k) q x))))
        on k (inr y) =
            true_or (own run t.proc k) (heard_of run t k) (true_or (same_proc run t.proc k) (started run t.proc k) (branch_starter run t q k here y))

    told_sound : wakes e t ≡ true → (b : Bool) → is_some e.went ≡ b → Sound run (cond b new (of_some (procs run) (is_branch past t) now)) (reach run (owned run t))
    told_sound wake true some i d h lt =
        reach_new e past (owned run t) i
        (or_true (own run t.proc n) (heard_of run t n)
        (goes_heard t n apart (and_true (wakes e t && is_some e.went) (n == n) (and_true (wakes e t) (is_some e.went) wake some) (same_number n))))
        (know i d h lt)
    told_sound wake false none i d h lt =
        let one = of_some_by (procs run) (is_branch past t) now d.task.proc i lt in
        branch_sound wake (none_or e.went none) one.0 one.1 one.2 i d h one.3

    told_low : (b : Bool) → Low run (cond b new (of_some (procs run) (is_branch past t) now))
    told_low true q = low q
    told_low false q = of_some_low (procs run) (is_branch past t) now q (suc n) (λ r. proc_low r q)

    goes_full : (i : ℕ) (d : Seen) (k : ℕ) → entry run i ≡ Some d → goes_by t k ≡ true → upto run i k ≡ true → i < hears t d.task.proc
    goes_full i d k h is up =
        let two = both_true (wakes e t && is_some e.went) (k == n) is in
        let first = both_true (wakes e t) (is_some e.went) two.0 in
        let knows : i < tells t d.task.proc =
        subst (λ (v : Bool). i < cond v new (of_some (procs run) (is_branch past t) now) d.task.proc) (sym first.1)
        (known i d h (ap (upto run i) (sym (equal k n two.1)) ∙ up))
        in
        subst (λ (x : Clock). i < x d.task.proc) (sym (hears_more t apart first.0)) (omega (arith, knows))

    ends_full : (i : ℕ) (d : Seen) (k : ℕ) → k < suc n → entry run i ≡ Some d → ends_by t k ≡ true → upto run i k ≡ true → i < hears t d.task.proc
    ends_full i d k less h is up =
        let two = both_true (wakes e t && is_none e.went) (is_of_branch run t (entry run k)) is in
        let first = both_true (wakes e t) (is_none e.went) two.0 in
        let one = branch_of run t (entry run k) two.1 in
        let q = one.0.task.proc in
        let branch : is_branch past t q ≡ true = sym (branch_now t q apart) ∙ one.2 in
        let before = branch_low past t q branch in
        let there : q < procs run = omega (arith, before) in
        let mine : own run q k ≡ true = true_or (same_proc run q k) (started run q k) (ap (λ (o : Option Seen). is_of o q) one.1 ∙ same_number q) in
        let at = proc_full q there i d h (reach_at run (own run q) i k less mine up) in
        let knows : i < tells t d.task.proc =
        subst (λ (v : Bool). i < cond v new (of_some (procs run) (is_branch past t) now) d.task.proc) (sym (some_or e.went first.1))
        (of_some_at (procs run) (is_branch past t) now d.task.proc i q there branch at)
        in
        subst (λ (x : Clock). i < x d.task.proc) (sym (hears_more t apart first.0)) (omega (arith, knows))

    old_full : (i : ℕ) (d : Seen) (k : ℕ) → entry run i ≡ Some d → heard_of past t k ≡ true → upto run i k ≡ true → i < hears t d.task.proc
    old_full i d k h is up = on (pick (wakes e t)) (by (entry_cases e past i d h))
      where
        less : k < n
        less = heard_low t k is

        first : upto past i k ≡ true
        first = sym (upto_old e past i k less) ∙ up

        by : ((i ≡ n) × (e ≡ d)) ⊎ ((i < n) × (entry past i ≡ Some d)) → i < c.heard t d.task.proc
        by (inl x) = absurd (none_later i k x.0 less first)
        by (inr x) = was.heard_full t i d x.1 (reach_at past (heard_of past t) i k less is first)

        on : (wakes e t ≡ true) ⊎ (wakes e t ≡ false) → i < c.heard t d.task.proc → i < hears t d.task.proc
        on (inl wake) m = subst (λ (x : Clock). i < x d.task.proc) (sym (hears_more t apart wake)) (omega (arith, m))
        on (inr wake) m = subst (λ (x : Clock). i < x d.task.proc) (sym (hears_same t apart wake)) m

    other_sound : Sound run (hears t) (reach run (owned run t))
    other_sound i d h lt = on (pick (wakes e t))
      where
        by : wakes e t ≡ true → (i < c.heard t d.task.proc) ⊎ (i < tells t d.task.proc) → reach run (owned run t) i ≡ true
        by wake (inl x) = old_sound i d h x
        by wake (inr x) = told_sound wake (is_some e.went) refl i d h x

        on : (wakes e t ≡ true) ⊎ (wakes e t ≡ false) → reach run (owned run t) i ≡ true
        on (inl wake) =
            by wake (max_cases i (c.heard t d.task.proc) (tells t d.task.proc) (subst (λ (x : Clock). i < x d.task.proc) (hears_more t apart wake) lt))
        on (inr wake) = old_sound i d h (subst (λ (x : Clock). i < x d.task.proc) (hears_same t apart wake) lt)

    other_full : Full run (hears t) (reach run (heard_of run t))
    other_full i d h r =
        let one = reach_by run (heard_of run t) i r in
        on one.0 one.1 one.3 (heard_cases t one.0 apart one.2)
      where
        on : (k : ℕ) → k < suc n → upto run i k ≡ true → (goes_by t k ≡ true) ⊎ ((ends_by t k ≡ true) ⊎ (heard_of past t k ≡ true)) → i < hears t d.task.proc
        on k less up (inl x) = goes_full i d k h x up
        on k less up (inr (inl x)) = ends_full i d k less h x up
        on k less up (inr (inr x)) = old_full i d k h x up

    other_low : Low run (hears t)
    other_low q = on (pick (wakes e t))
      where
        on : (wakes e t ≡ true) ⊎ (wakes e t ≡ false) → hears t q ≤ suc n
        on (inl wake) =
            let a = was.heard_low t q in
            let b : tells t q ≤ suc n = told_low (is_some e.went) q in
            subst (λ (x : Clock). x q ≤ suc n) (sym (hears_more t apart wake)) (omega (arith, a, b))
        on (inr wake) = let a = was.heard_low t q in subst (λ (x : Clock). x q ≤ suc n) (sym (hears_same t apart wake)) (omega (arith, a))

  hears_sound : (t : TaskName) → Sound run (hears t) (reach run (owned run t))
  hears_sound t i d h lt = on (pick (same_task e.task t))
    where
      on : (same_task e.task t ≡ true) ⊎ (same_task e.task t ≡ false) → reach run (owned run t) i ≡ true
      on (inl same) = absurd (let none : i < 0 = subst (λ (x : Clock). i < x d.task.proc) (hears_none t same) lt in omega (arith, none))
      on (inr apart) = other_sound t apart i d h lt

  hears_full : (t : TaskName) → Full run (hears t) (reach run (heard_of run t))
  hears_full t i d h r = on (pick (same_task e.task t))
    where
      on : (same_task e.task t ≡ true) ⊎ (same_task e.task t ≡ false) → i < hears t d.task.proc
      on (inl same) = let one = reach_by run (heard_of run t) i r in absurd (clash (heard_of run t one.0) one.2 (heard_gone t one.0 same))
      on (inr apart) = other_full t apart i d h r

  hears_low : (t : TaskName) → Low run (hears t)
  hears_low t q = on (pick (same_task e.task t))
    where
      on : (same_task e.task t ≡ true) ⊎ (same_task e.task t ≡ false) → hears t q ≤ suc n
      on (inl same) = subst (λ (x : Clock). x q ≤ suc n) (sym (hears_none t same)) (omega arith)
      on (inr apart) = other_low t apart q

  pub told_after : Told (e ∷ past) (after_entry e past (clock_of e past c) c)
  told_after = record {
    entry_sound = entry_sound;
    entry_full = entry_full;
    entry_low = entry_low;
    proc_sound = proc_sound;
    proc_full = proc_full;
    proc_low = proc_low;
    heard_sound = hears_sound;
    heard_full = hears_full;
    heard_low = hears_low;
  }

-- ---- each run

nothing_told : Told [] (clocks [])
nothing_told = record {
  entry_sound = λ k low i d h lt. absurd (omega (arith, low));
  entry_full = λ k low i d h up. absurd (omega (arith, low));
  entry_low = λ k q. omega arith;
  proc_sound = λ q low i d h lt. absurd (omega (arith, lt));
  proc_full = λ q low i d h up. absurd (cc);
  proc_low = λ q r. omega arith;
  heard_sound = λ t i d h lt. absurd (omega (arith, lt));
  heard_full = λ t i d h up. absurd (cc);
  heard_low = λ t q. omega arith;
}

pub clocks_told : (past : List Seen) → AllMade past → Told past (clocks past)
clocks_told [] all = nothing_told
clocks_told (e ∷ past) all =
    told_after e past (clocks past) (clocks_told past all.1) (is_below e.task.proc (procs past) all.0) all.1
