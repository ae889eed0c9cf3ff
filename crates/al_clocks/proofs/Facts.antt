-- Facts on entries, procs and edges, and on clocks.
use Rattle.std.proofs.Common.{◌≡◌, ◌≢◌, ℕ, zero, suc, ◌+◌, ◌<◌, ◌≤◌, Bool, true, false, cond, ◌&&◌, ◌||◌, ◌==◌, ◌⊎◌, inl, inr, List, [], ◌∷◌, length, Option, Some, None, refl, sym, ap, ◌∙◌, subst, arith}
use Rattle.std.specs.Prelude.{max, nat_le, nat_lt, is_some, is_none}
use Rattle.std.proofs.lemmas.Bool.Decides.{leb_tells}
use Rattle.al_world.specs.World.{TaskName, same_task}
use Rattle.al_seen.specs.declared.seen.Seen.{Seen}
use Rattle.al_race.specs.Order.{entry, procs, starts, wakes, is_of, started, woke, joined, is_branch, is_of_branch}
use Rattle.al_race.proofs.Bools.{equal, unequal, is_below, both_true, and_true, some_at, some_by}
use Rattle.al_race.proofs.Paths.{upto, reach, reach_more, upto_old, entry_old, entry_within}
use Rattle.al_clocks.specs.Clocks.{Clock, nothing, of_some}

-- ---- cases

pub pick : (b : Bool) → (b ≡ true) ⊎ (b ≡ false)
pick true = inl refl
pick false = inr refl

pub or_cases : (a b : Bool) → (a || b) ≡ true → (a ≡ true) ⊎ (b ≡ true)
or_cases true b h = inl refl
or_cases false b h = inr h

pub max_cases : (i a b : ℕ) → i < max a b → (i < a) ⊎ (i < b)
max_cases i a b h = on (leb_tells (suc i) a)
  where
    on : ((nat_lt i a ≡ true) × (suc i ≤ a)) ⊎ ((nat_lt i a ≡ false) × (a < suc i)) → (i < a) ⊎ (i < b)
    on (inl x) = inl (x.1)
    on (inr x) = inr (let y = x.1 in omega (arith, h, y))

pub at_most : (a b : ℕ) → nat_le a b ≡ true → a ≤ b
at_most a b e = on (leb_tells a b)
  where
    on : ((nat_le a b ≡ true) × (a ≤ b)) ⊎ ((nat_le a b ≡ false) × (b < a)) → a ≤ b
    on (inl x) = x.1
    on (inr x) = absurd (let differ = sym e ∙ x.0 in cc)

-- ---- what is reached

pub reach_at : (past : List Seen) (f : ℕ → Bool) (i k : ℕ) → k < length past → f k ≡ true → upto past i k ≡ true → reach past f i ≡ true
reach_at past f i k low h up = some_at (length past) (λ m. f m && upto past i m) k low (and_true (f k) (upto past i k) h up)

pub reach_by : (past : List Seen) (f : ℕ → Bool) (i : ℕ) → reach past f i ≡ true → (k : ℕ) × (k < length past) × (f k ≡ true) × (upto past i k ≡ true)
reach_by past f i h =
    let one = some_by (length past) (λ m. f m && upto past i m) h in
    let two = both_true (f one.0) (upto past i one.0) one.2 in
    (one.0, one.1, two.0, two.1)

pub reach_more_of : (past : List Seen) (f g : ℕ → Bool) (i : ℕ) → ((k : ℕ) → k < length past → f k ≡ true → g k ≡ true) → reach past f i ≡ true → reach past g i ≡ true
reach_more_of past f g i sub h =
    let r = reach_by past f i h in reach_at past g i r.0 r.1 (sub r.0 r.1 r.2) r.3

module _ (e : Seen) (past : List Seen) where
  pub entry_cases : (i : ℕ) (d : Seen) → entry (e ∷ past) i ≡ Some d → ((i ≡ length past) × (e ≡ d)) ⊎ ((i < length past) × (entry past i ≡ Some d))
  entry_cases i d h = on (pick (i == length past))
    where
      on : ((i == length past) ≡ true) ⊎ ((i == length past) ≡ false) → ((i ≡ length past) × (e ≡ d)) ⊎ ((i < length past) × (entry past i ≡ Some d))
      on (inl same) =
          let is : Some e ≡ Some d = sym (ap (λ (b : Bool). cond b (Some e) (entry past i)) same) ∙ h in
          let seen : e ≡ d = cc in
          inl (equal i (length past) same, seen)
      on (inr apart) =
          let is : entry past i ≡ Some d = sym (ap (λ (b : Bool). cond b (Some e) (entry past i)) apart) ∙ h in
          inr (entry_within past i d is, is)

  pub reach_new : (f : ℕ → Bool) (i : ℕ) → f (length past) ≡ true → upto (e ∷ past) i (length past) ≡ true → reach (e ∷ past) f i ≡ true
  reach_new f i h up = reach_at (e ∷ past) f i (length past) (omega arith) h up

  pub reach_old : (f g : ℕ → Bool) (i : ℕ) → ((k : ℕ) → k < length past → f k ≡ true → g k ≡ true) → reach past f i ≡ true → reach (e ∷ past) g i ≡ true
  reach_old f g i sub h =
      let r = reach_by past f i h in
      let low = r.1 in
      reach_at (e ∷ past) g i r.0 (omega (arith, low)) (sub r.0 r.1 r.2) (upto_old e past i r.0 r.1 ∙ r.3)

  -- by the new entry, or by one before
  pub reach_cases : (f : ℕ → Bool) (i : ℕ) → reach (e ∷ past) f i ≡ true → ((f (length past) ≡ true) × (upto (e ∷ past) i (length past) ≡ true)) ⊎ ((k : ℕ) × (k < length past) × (f k ≡ true) × (upto past i k ≡ true))
  reach_cases f i h = on (or_cases (f (length past) && upto (e ∷ past) i (length past)) (reach past f i) (sym (reach_more e past f i) ∙ h))
    where
      on : ((f (length past) && upto (e ∷ past) i (length past)) ≡ true) ⊎ (reach past f i ≡ true) → ((f (length past) ≡ true) × (upto (e ∷ past) i (length past) ≡ true)) ⊎ ((k : ℕ) × (k < length past) × (f k ≡ true) × (upto past i k ≡ true))
      on (inl x) = inl (both_true (f (length past)) (upto (e ∷ past) i (length past)) x)
      on (inr y) = inr (reach_by past f i y)

-- ---- procs and edges

pub starts_range : (e : Seen) (past : List Seen) (q : ℕ) → starts e past q ≡ true → (procs past ≤ q) × (q < procs past + e.started)
starts_range e past q h =
    let two = both_true (nat_le (procs past) q) (nat_lt q (procs past + e.started)) h in
    (at_most (procs past) q two.0, is_below q (procs past + e.started) two.1)

pub started_low : (past : List Seen) (q k : ℕ) → started past q k ≡ true → (k < length past) × (q < procs past)
started_low [] q k h = absurd (cc)
started_low (e ∷ past) q k h = on (or_cases (starts e past q && (k == length past)) (started past q k) h) (started_low past q k)
  where
    on : ((starts e past q && (k == length past)) ≡ true) ⊎ (started past q k ≡ true) → (started past q k ≡ true → (k < length past) × (q < procs past)) → (k < suc (length past)) × (q < procs past + e.started)
    on (inl x) later =
        let two = both_true (starts e past q) (k == length past) x in
        let at = equal k (length past) two.1 in
        (omega (arith, at), (starts_range e past q two.0).1)
    on (inr y) later =
        let low = later y in
        let first = low.0 in
        let second = low.1 in
        (omega (arith, first), omega (arith, second))

pub branch_of : (past : List Seen) (t : TaskName) (o : Option Seen) → is_of_branch past t o ≡ true → (d : Seen) × (o ≡ Some d) × (is_branch past t d.task.proc ≡ true)
branch_of past t None h = absurd (cc)
branch_of past t (Some d) h = (d, refl, h)

pub woke_low : (past : List Seen) (t : TaskName) (k : ℕ) → woke past t k ≡ true → k < length past
woke_low [] t k h = absurd (cc)
woke_low (e ∷ past) t k h = on (same_task e.task t) h (woke_low past t k)
  where
    by : ((wakes e t && is_some e.went && (k == length past)) ≡ true) ⊎ (woke past t k ≡ true) → (woke past t k ≡ true → k < length past) → k < suc (length past)
    by (inl x) later =
        let at = equal k (length past) (both_true (wakes e t && is_some e.went) (k == length past) x).1 in
        omega (arith, at)
    by (inr y) later = let low = later y in omega (arith, low)

    on : (b : Bool) → cond b false ((wakes e t && is_some e.went && (k == length past)) || woke past t k) ≡ true → (woke past t k ≡ true → k < length past) → k < suc (length past)
    on true lacks later = absurd (cc)
    on false held later = by (or_cases (wakes e t && is_some e.went && (k == length past)) (woke past t k) held) later

pub joined_low : (past : List Seen) (t : TaskName) (k : ℕ) → joined past t k ≡ true → k < length past
joined_low [] t k h = absurd (cc)
joined_low (e ∷ past) t k h = on (same_task e.task t) h (joined_low past t k)
  where
    by : ((wakes e t && is_none e.went && is_of_branch (e ∷ past) t (entry (e ∷ past) k)) ≡ true) ⊎ (joined past t k ≡ true) → (joined past t k ≡ true → k < length past) → k < suc (length past)
    by (inl x) later =
        let is = branch_of (e ∷ past) t (entry (e ∷ past) k) (both_true (wakes e t && is_none e.went) (is_of_branch (e ∷ past) t (entry (e ∷ past) k)) x).1 in
        entry_within (e ∷ past) k is.0 is.1
    by (inr y) later = let low = later y in omega (arith, low)

    on : (b : Bool) → cond b false ((wakes e t && is_none e.went && is_of_branch (e ∷ past) t (entry (e ∷ past) k)) || joined past t k) ≡ true → (joined past t k ≡ true → k < length past) → k < suc (length past)
    on true lacks later = absurd (cc)
    on false held later = by (or_cases (wakes e t && is_none e.went && is_of_branch (e ∷ past) t (entry (e ∷ past) k)) (joined past t k) held) later

pub branch_low : (past : List Seen) (t : TaskName) (q : ℕ) → is_branch past t q ≡ true → q < procs past
branch_low [] t q h = absurd (cc)
branch_low (e ∷ past) t q h = on (same_task e.task t) h (branch_low past t q)
  where
    on : (b : Bool) → cond b (starts e past q) (is_branch past t q) ≡ true → (is_branch past t q ≡ true → q < procs past) → q < procs past + e.started
    on true is later = (starts_range e past q is).1
    on false is later = let low = later is in omega (arith, low)

-- what started a branch of a task's par is an entry of that task
pub branch_starter : (past : List Seen) (t : TaskName) (q k : ℕ) → is_branch past t q ≡ true → started past q k ≡ true → is_of (entry past k) t.proc ≡ true
branch_starter [] t q k b s = absurd (cc)
branch_starter (e ∷ past) t q k b s =
    on (pick (same_task e.task t)) (or_cases (starts e past q && (k == length past)) (started past q k) s) (branch_starter past t q k)
  where
    here : same_task e.task t ≡ true → (k == length past) ≡ true → is_of (entry (e ∷ past) k) t.proc ≡ true
    here same at =
        ap (λ (v : Bool). is_of (cond v (Some e) (entry past k)) t.proc) at
        ∙ (both_true (e.task.proc == t.proc) (e.task.number == t.number) same).0

    on : (same_task e.task t ≡ true) ⊎ (same_task e.task t ≡ false) → ((starts e past q && (k == length past)) ≡ true) ⊎ (started past q k ≡ true) → (is_branch past t q ≡ true → started past q k ≡ true → is_of (entry past k) t.proc ≡ true) → is_of (entry (e ∷ past) k) t.proc ≡ true
    on (inl same) (inl x) later = here same (both_true (starts e past q) (k == length past) x).1
    on (inl same) (inr y) later =
        let low = (started_low past q k y).1 in
        let high = (starts_range e past q (sym (ap (λ (v : Bool). cond v (starts e past q) (is_branch past t q)) same) ∙ b)).0 in
        absurd (omega (arith, low, high))
    on (inr apart) (inl x) later =
        let low = branch_low past t q (sym (ap (λ (v : Bool). cond v (starts e past q) (is_branch past t q)) apart) ∙ b) in
        let high = (starts_range e past q (both_true (starts e past q) (k == length past) x).0).0 in
        absurd (omega (arith, low, high))
    on (inr apart) (inr y) later =
        let low = (started_low past q k y).0 in
        ap (λ (o : Option Seen). is_of o t.proc) (entry_old e past k (λ same. let s = same in omega (arith, low, s)))
        ∙ later (sym (ap (λ (v : Bool). cond v (starts e past q) (is_branch past t q)) apart) ∙ b) y

-- ---- clocks of some procs

pub of_some_by : (n : ℕ) (b : ℕ → Bool) (clocks : ℕ → Clock) (q i : ℕ) → i < of_some n b clocks q → (r : ℕ) × (r < n) × (b r ≡ true) × (i < clocks r q)
of_some_by zero b clocks q i h = absurd (omega (arith, h))
of_some_by (suc m) b clocks q i h = on (max_cases i (cond (b m) (clocks m) nothing q) (of_some m b clocks q) h) (pick (b m)) (of_some_by m b clocks q i)
  where
    on : (i < cond (b m) (clocks m) nothing q) ⊎ (i < of_some m b clocks q) → (b m ≡ true) ⊎ (b m ≡ false) → (i < of_some m b clocks q → (r : ℕ) × (r < m) × (b r ≡ true) × (i < clocks r q)) → (r : ℕ) × (r < suc m) × (b r ≡ true) × (i < clocks r q)
    on (inl x) (inl is) later = (m, omega arith, is, subst (λ (v : Bool). i < cond v (clocks m) nothing q) is x)
    on (inl x) (inr lacks) later =
        let none : i < 0 = subst (λ (v : Bool). i < cond v (clocks m) nothing q) lacks x in absurd (omega (arith, none))
    on (inr y) c later =
        let r = later y in
        let low = r.1 in
        (r.0, omega (arith, low), r.2, r.3)

pub of_some_at : (n : ℕ) (b : ℕ → Bool) (clocks : ℕ → Clock) (q i r : ℕ) → r < n → b r ≡ true → i < clocks r q → i < of_some n b clocks q
of_some_at zero b clocks q i r low is h = absurd (omega (arith, low))
of_some_at (suc m) b clocks q i r low is h = on (pick (m == r)) (λ less. of_some_at m b clocks q i r less is h)
  where
    lower : m ≢ r → r < m
    lower apart = omega (arith, low, apart)

    on : ((m == r) ≡ true) ⊎ ((m == r) ≡ false) → (r < m → i < of_some m b clocks q) → i < max (cond (b m) (clocks m) nothing q) (of_some m b clocks q)
    on (inl same) later =
        let here : b m ≡ true = ap b (equal m r same) ∙ is in
        let first : i < clocks m q = subst (λ (k : ℕ). i < clocks k q) (sym (equal m r same)) h in
        let at : i < cond (b m) (clocks m) nothing q = subst (λ (v : Bool). i < cond v (clocks m) nothing q) (sym here) first in
        omega (arith, at)
    on (inr apart) later =
        let rest = later (lower (unequal m r apart)) in
        omega (arith, rest)
