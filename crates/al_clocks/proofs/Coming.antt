-- What comes to an entry: its clock knows just what the edges to it lead from, and all before that.
use Rattle.std.proofs.Common.{◌≡◌, ℕ, zero, suc, ◌+◌, ◌<◌, ◌≤◌, Bool, true, false, cond, ◌&&◌, ◌||◌, not, ◌==◌, ◌⊎◌, inl, inr, List, [], ◌∷◌, ◌++◌, length, Option, Some, None, refl, sym, ap, ◌∙◌, subst, arith}
use Rattle.std.specs.Prelude.{slice_get}
use Rattle.al_world.specs.World.{TaskName}
use Rattle.al_seen.specs.declared.seen.Went.{Went}
use Rattle.al_seen.specs.declared.seen.Seen.{Seen}
use Rattle.al_race.specs.Order.{entry, procs, latest, is_number, is_of, same_proc, started, woke, joined, talk_of, met, let_in, puts_by, puts, gets, is_talk, passed, leads, is_before}
use Rattle.al_race.proofs.Bools.{not_equal, same_number, true_or, or_true}
use Rattle.al_race.proofs.Paths.{upto, reach, upto_talk, IsPast, reach_talk, latest_past, at_new}
use Rattle.al_clocks.specs.Clocks.{Clock, Clocks, clock_at, met_talk, talk_or, passed_talk, own_and_heard, talked, comes, clock_of}
use Rattle.al_clocks.proofs.Facts.{pick, or_cases, max_cases, reach_at, reach_by, reach_more_of, entry_cases}

-- ---- what a clock tells

abbrev pub Sound : List Seen → Clock → (ℕ → Bool) → Type 0
Sound past c g = (i : ℕ) (d : Seen) → entry past i ≡ Some d → i < c d.task.proc → g i ≡ true

abbrev pub Full : List Seen → Clock → (ℕ → Bool) → Type 0
Full past c g = (i : ℕ) (d : Seen) → entry past i ≡ Some d → g i ≡ true → i < c d.task.proc

abbrev pub Low : List Seen → Clock → Type 0
Low past c = (q : ℕ) → c q ≤ length past

abbrev pub own : List Seen → ℕ → ℕ → Bool
own past q k = same_proc past q k || started past q k

abbrev pub heard_of : List Seen → TaskName → ℕ → Bool
heard_of past t k = woke past t k || joined past t k

abbrev pub owned : List Seen → TaskName → ℕ → Bool
owned past t k = own past t.proc k || heard_of past t k

-- what the clocks tell of a run
pub record Told (past : List Seen) (c : Clocks) : Type 0 where
  pub entry_sound : (k : ℕ) → k < length past → Sound past (c.entries k) (λ i. upto past i k)
  pub entry_full : (k : ℕ) → k < length past → Full past (c.entries k) (λ i. upto past i k)
  pub entry_low : (k : ℕ) → Low past (c.entries k)
  pub proc_sound : (q : ℕ) → q < procs past → Sound past (c.procs q) (reach past (own past q))
  pub proc_full : (q : ℕ) → q < procs past → Full past (c.procs q) (reach past (own past q))
  pub proc_low : (q : ℕ) → Low past (c.procs q)
  pub heard_sound : (t : TaskName) → Sound past (c.heard t) (reach past (owned past t))
  pub heard_full : (t : TaskName) → Full past (c.heard t) (reach past (heard_of past t))
  pub heard_low : (t : TaskName) → Low past (c.heard t)

-- ---- the talks

choose_not : (b : Bool) (o : Option ℕ) (k : ℕ) → is_number (cond b None o) k ≡ (not b && is_number o k)
choose_not true o k = refl
choose_not false o k = refl

choose : (b : Bool) (o : Option ℕ) (k : ℕ) → is_number (cond b o None) k ≡ (b && is_number o k)
choose true o k = refl
choose false o k = refl

talk_number : (o : Option (Option ℕ)) (k : ℕ) → is_number (talk_or o) k ≡ is_talk o k
talk_number None k = refl
talk_number (Some talk) k = refl

pub met_number : (past : List Seen) (w : Option Went) (woken : Option TaskName) (k : ℕ) → is_number (met_talk past w woken) k ≡ met past w woken k
met_number past None woken k = refl
met_number past (Some w) woken k = choose_not w.buffered (talk_of past woken) k

pub passed_number : (past : List Seen) (w : Option Went) (k : ℕ) → is_number (passed_talk past w) k ≡ passed past w k
passed_number past None k = refl
passed_number past (Some w) k =
    choose (w.buffered && not w.send) (talk_or (slice_get (puts past w.chan) (gets past w.chan))) k
    ∙ ap (λ (b : Bool). w.buffered && not w.send && b) (talk_number (slice_get (puts past w.chan) (gets past w.chan)) k)

talk_past : (past : List Seen) (o : Option TaskName) → IsPast past (talk_of past o)
talk_past past None = tt
talk_past past (Some t) = latest_past past t

choose_past : (past : List Seen) (b : Bool) (o p : Option ℕ) → IsPast past o → IsPast past p → IsPast past (cond b o p)
choose_past past true o p g h = g
choose_past past false o p g h = h

pub met_past : (past : List Seen) (w : Option Went) (woken : Option TaskName) → IsPast past (met_talk past w woken)
met_past past None woken = tt
met_past past (Some w) woken = choose_past past w.buffered None (talk_of past woken) tt (talk_past past woken)

abbrev AllPast : List Seen → List (Option ℕ) → Type 0
AllPast past [] = Unit {0}
AllPast past (o ∷ os) = IsPast past o × AllPast past os

all_append : (past : List Seen) (a b : List (Option ℕ)) → AllPast past a → AllPast past b → AllPast past (a ++ b)
all_append past [] b g h = h
all_append past (o ∷ os) b g h = (g.0, all_append past os b g.1 h)

more_past : (e : Seen) (past : List Seen) (o : Option ℕ) → IsPast past o → IsPast (e ∷ past) o
more_past e past None h = tt
more_past e past (Some k) h = omega (arith, h)

all_more : (e : Seen) (past : List Seen) (a : List (Option ℕ)) → AllPast past a → AllPast (e ∷ past) a
all_more e past [] h = tt
all_more e past (o ∷ os) h = (more_past e past o h.0, all_more e past os h.1)

all_get : (past : List Seen) (a : List (Option ℕ)) (n : ℕ) → AllPast past a → IsPast past (talk_or (slice_get a n))
all_get past [] n h = tt
all_get past (o ∷ os) zero h = h.0
all_get past (o ∷ os) (suc n) h = all_get past os n h.1

choose_all : (past : List Seen) (b : Bool) (x y : List (Option ℕ)) → AllPast past x → AllPast past y → AllPast past (cond b x y)
choose_all past true x y g h = g
choose_all past false x y g h = h

put_past : (e : Seen) (past : List Seen) (w : Option Went) (woken : Option TaskName) (c : ℕ) → AllPast (e ∷ past) (puts_by past w woken c)
put_past e past None woken c = tt
put_past e past (Some w) woken c =
    choose_all (e ∷ past) (w.buffered && (w.chan == c)) (cond w.send (Some (length past) ∷ []) (let_in past woken)) []
    (choose_all (e ∷ past) w.send (Some (length past) ∷ []) (let_in past woken) (omega arith, tt) (let_past woken)) tt
  where
    let_past : (o : Option TaskName) → AllPast (e ∷ past) (let_in past o)
    let_past None = tt
    let_past (Some t) = (more_past e past (latest past t) (latest_past past t), tt)

puts_past : (past : List Seen) (c : ℕ) → AllPast past (puts past c)
puts_past [] c = tt
puts_past (e ∷ past) c =
    all_append (e ∷ past) (puts past c) (puts_by past e.went e.woke c) (all_more e past (puts past c) (puts_past past c)) (put_past e past e.went e.woke c)

pub passed_past : (past : List Seen) (w : Option Went) → IsPast past (passed_talk past w)
passed_past past None = tt
passed_past past (Some w) =
    choose_past past (w.buffered && not w.send) (talk_or (slice_get (puts past w.chan) (gets past w.chan))) None
    (all_get past (puts past w.chan) (gets past w.chan) (puts_past past w.chan)) tt

-- ---- the six edges

in_own : (a b c d e f : Bool) → (a || b) ≡ true → (a || b || c || d || e || f) ≡ true
in_own a b c d e f h = ap (λ (x : Bool). x || c || d || e || f) h

in_heard : (a b c d e f : Bool) → (c || d) ≡ true → (a || b || c || d || e || f) ≡ true
in_heard a b c d e f h = on (or_cases c d h)
  where
    on : (c ≡ true) ⊎ (d ≡ true) → (a || b || c || d || e || f) ≡ true
    on (inl x) = ap (λ (y : Bool). y || d || e || f) (or_true (a || b) c x)
    on (inr x) = ap (λ (y : Bool). y || e || f) (or_true (a || b || c) d x)

in_met : (a b c d e f : Bool) → e ≡ true → (a || b || c || d || e || f) ≡ true
in_met a b c d e f h = ap (λ (y : Bool). y || f) (or_true (a || b || c || d) e h)

in_passed : (a b c d e f : Bool) → f ≡ true → (a || b || c || d || e || f) ≡ true
in_passed a b c d e f h = or_true (a || b || c || d || e) f h

out_of : (a b c d e f : Bool) → (a || b || c || d || e || f) ≡ true → ((a || b) ≡ true) ⊎ (((c || d) ≡ true) ⊎ ((e ≡ true) ⊎ (f ≡ true)))
out_of true b c d e f h = inl refl
out_of false true c d e f h = inl refl
out_of false false true d e f h = inr (inl refl)
out_of false false false true e f h = inr (inl refl)
out_of false false false false true f h = inr (inr (inl refl))
out_of false false false false false f h = inr (inr (inr h))

-- ---- a clock of a talk

at_sound : (past : List Seen) (c : Clocks) → Told past c → (o : Option ℕ) → IsPast past o → Sound past (clock_at c.entries o) (reach past (is_number o))
at_sound past c told None low i d h lt = absurd (omega (arith, lt))
at_sound past c told (Some k) low i d h lt = reach_talk past (Some k) i low ∙ told.entry_sound k low i d h lt

at_full : (past : List Seen) (c : Clocks) → Told past c → (o : Option ℕ) → IsPast past o → Full past (clock_at c.entries o) (upto_talk past o)
at_full past c told None low i d h up = absurd (cc)
at_full past c told (Some k) low i d h up = told.entry_full k low i d h up

at_low : (past : List Seen) (c : Clocks) → Told past c → (o : Option ℕ) → Low past (clock_at c.entries o)
at_low past c told None q = omega arith
at_low past c told (Some k) q = told.entry_low k q

module _ (e : Seen) (past : List Seen) (c : Clocks) (told : Told past c) (made : e.task.proc < procs past) where
  abbrev a : ℕ → Bool
  a k = same_proc past e.task.proc k

  abbrev b : ℕ → Bool
  b k = started past e.task.proc k

  abbrev w : ℕ → Bool
  w k = woke past e.task k

  abbrev j : ℕ → Bool
  j k = joined past e.task k

  abbrev m : ℕ → Bool
  m k = met past e.went e.woke k

  abbrev p : ℕ → Bool
  p k = passed past e.went k

  own_leads : (k : ℕ) → own past e.task.proc k ≡ true → leads e past k ≡ true
  own_leads k h = in_own (a k) (b k) (w k) (j k) (m k) (p k) h

  owned_leads : (k : ℕ) → owned past e.task k ≡ true → leads e past k ≡ true
  owned_leads k h = on (or_cases (own past e.task.proc k) (heard_of past e.task k) h)
    where
      on : (own past e.task.proc k ≡ true) ⊎ (heard_of past e.task k ≡ true) → leads e past k ≡ true
      on (inl x) = own_leads k x
      on (inr x) = in_heard (a k) (b k) (w k) (j k) (m k) (p k) x

  pub comes_sound : Sound past (comes e past c) (reach past (leads e past))
  comes_sound i d h lt = on (max_cases i (own_and_heard e c d.task.proc) (talked e past c d.task.proc) lt)
    where
      talk : (i < clock_at c.entries (met_talk past e.went e.woke) d.task.proc) ⊎ (i < clock_at c.entries (passed_talk past e.went) d.task.proc) → reach past (leads e past) i ≡ true
      talk (inl x) =
          reach_more_of past (is_number (met_talk past e.went e.woke)) (leads e past) i
          (λ k _ is. in_met (a k) (b k) (w k) (j k) (m k) (p k) (sym (met_number past e.went e.woke k) ∙ is))
          (at_sound past c told (met_talk past e.went e.woke) (met_past past e.went e.woke) i d h x)
      talk (inr x) =
          reach_more_of past (is_number (passed_talk past e.went)) (leads e past) i
          (λ k _ is. in_passed (a k) (b k) (w k) (j k) (m k) (p k) (sym (passed_number past e.went k) ∙ is))
          (at_sound past c told (passed_talk past e.went) (passed_past past e.went) i d h x)

      first : (i < c.procs e.task.proc d.task.proc) ⊎ (i < c.heard e.task d.task.proc) → reach past (leads e past) i ≡ true
      first (inl x) = reach_more_of past (own past e.task.proc) (leads e past) i (λ k _ is. own_leads k is) (told.proc_sound e.task.proc made i d h x)
      first (inr x) = reach_more_of past (owned past e.task) (leads e past) i (λ k _ is. owned_leads k is) (told.heard_sound e.task i d h x)

      on : (i < own_and_heard e c d.task.proc) ⊎ (i < talked e past c d.task.proc) → reach past (leads e past) i ≡ true
      on (inl x) = first (max_cases i (c.procs e.task.proc d.task.proc) (c.heard e.task d.task.proc) x)
      on (inr x) = talk (max_cases i (clock_at c.entries (met_talk past e.went e.woke) d.task.proc) (clock_at c.entries (passed_talk past e.went) d.task.proc) x)

  pub comes_full : Full past (comes e past c) (reach past (leads e past))
  comes_full i d h r =
      let one = reach_by past (leads e past) i r in
      on one.0 one.1 one.3 (out_of (a one.0) (b one.0) (w one.0) (j one.0) (m one.0) (p one.0) one.2)
    where
      on : (k : ℕ) → k < length past → upto past i k ≡ true → ((a k || b k) ≡ true) ⊎ (((w k || j k) ≡ true) ⊎ ((m k ≡ true) ⊎ (p k ≡ true))) → i < comes e past c d.task.proc
      on k low up (inl x) = let t = told.proc_full e.task.proc made i d h (reach_at past (own past e.task.proc) i k low x up) in omega (arith, t)
      on k low up (inr (inl x)) = let t = told.heard_full e.task i d h (reach_at past (heard_of past e.task) i k low x up) in omega (arith, t)
      on k low up (inr (inr (inl x))) =
          let t =
          at_full past c told (met_talk past e.went e.woke) (met_past past e.went e.woke) i d h
          (sym (reach_talk past (met_talk past e.went e.woke) i (met_past past e.went e.woke))
          ∙ reach_at past (is_number (met_talk past e.went e.woke)) i k low (met_number past e.went e.woke k ∙ x) up)
          in
          omega (arith, t)
      on k low up (inr (inr (inr x))) =
          let t =
          at_full past c told (passed_talk past e.went) (passed_past past e.went) i d h
          (sym (reach_talk past (passed_talk past e.went) i (passed_past past e.went))
          ∙ reach_at past (is_number (passed_talk past e.went)) i k low (passed_number past e.went k ∙ x) up)
          in
          omega (arith, t)

  pub comes_low : Low past (comes e past c)
  comes_low q =
      let x = told.proc_low e.task.proc q in
      let y = told.heard_low e.task q in
      let z = at_low past c told (met_talk past e.went e.woke) q in
      let v = at_low past c told (passed_talk past e.went) q in
      omega (arith, x, y, z, v)

  -- ---- the clock of the new entry

  abbrev new : Clock
  new = clock_of e past c

  is_own : (q : ℕ) → (q == e.task.proc) ≡ true → new q ≡ length past + 1
  is_own q is = ap (λ (v : Bool). cond v (length past + 1) (comes e past c q)) is

  is_other : (q : ℕ) → (q == e.task.proc) ≡ false → new q ≡ comes e past c q
  is_other q is = ap (λ (v : Bool). cond v (length past + 1) (comes e past c q)) is

  pub new_sound : Sound (e ∷ past) new (λ i. upto (e ∷ past) i (length past))
  new_sound i d h lt = on (entry_cases e past i d h)
    where
      led : i < length past → entry past i ≡ Some d → ((d.task.proc == e.task.proc) ≡ true) ⊎ ((d.task.proc == e.task.proc) ≡ false) → reach past (leads e past) i ≡ true
      led low is (inl same) =
          reach_at past (leads e past) i i low
          (own_leads i (true_or (a i) (b i) (ap (λ (o : Option Seen). is_of o e.task.proc) is ∙ same)))
          (true_or (i == i) (is_before past i i) (same_number i))
      led low is (inr apart) = comes_sound i d is (subst (λ (n : ℕ). i < n) (is_other d.task.proc apart) lt)

      on : ((i ≡ length past) × (e ≡ d)) ⊎ ((i < length past) × (entry past i ≡ Some d)) → upto (e ∷ past) i (length past) ≡ true
      on (inl x) = true_or (length past == i) (is_before (e ∷ past) i (length past)) (ap (λ (n : ℕ). length past == n) x.0 ∙ same_number (length past))
      on (inr x) = or_true (length past == i) (is_before (e ∷ past) i (length past)) (at_new e past i ∙ led x.0 x.1 (pick (d.task.proc == e.task.proc)))

  pub new_full : Full (e ∷ past) new (λ i. upto (e ∷ past) i (length past))
  new_full i d h up = on (entry_cases e past i d h)
    where
      mine : i < length past + 1 → (d.task.proc == e.task.proc) ≡ true → i < new d.task.proc
      mine low same = subst (λ (n : ℕ). i < n) (sym (is_own d.task.proc same)) low

      other : i < length past → entry past i ≡ Some d → ((d.task.proc == e.task.proc) ≡ true) ⊎ ((d.task.proc == e.task.proc) ≡ false) → i < new d.task.proc
      other low is (inl same) = mine (omega (arith, low)) same
      other low is (inr apart) =
          let before : is_before (e ∷ past) i (length past) ≡ true = sym (ap (λ (v : Bool). v || is_before (e ∷ past) i (length past)) (not_equal (length past) i (λ same. let s = same in omega (arith, low, s)))) ∙ up in
          let first = comes_full i d is (sym (at_new e past i) ∙ before) in
          subst (λ (n : ℕ). i < n) (sym (is_other d.task.proc apart)) first

      on : ((i ≡ length past) × (e ≡ d)) ⊎ ((i < length past) × (entry past i ≡ Some d)) → i < new d.task.proc
      on (inl x) =
          let at = x.0 in
          mine (omega (arith, at)) (ap (λ (s : Seen). s.task.proc == e.task.proc) (sym x.1) ∙ same_number e.task.proc)
      on (inr x) = other x.0 x.1 (pick (d.task.proc == e.task.proc))

  pub new_low : Low (e ∷ past) new
  new_low q = on (pick (q == e.task.proc))
    where
      on : ((q == e.task.proc) ≡ true) ⊎ ((q == e.task.proc) ≡ false) → new q ≤ suc (length past)
      on (inl same) = let is = is_own q same in omega (arith, is)
      on (inr apart) = let is = is_other q apart in let low = comes_low q in omega (arith, is, low)
