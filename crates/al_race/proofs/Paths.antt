-- What is before the entries of a run that grows.
use Rattle.std.proofs.Common.{◌≡◌, ◌≢◌, ℕ, suc, ◌<◌, ◌≤◌, Bool, true, false, cond, ◌&&◌, ◌||◌, ◌==◌, List, [], ◌∷◌, length, Option, Some, None, refl, sym, ap, ◌∙◌, arith}
use Rattle.al_seen.specs.declared.seen.Seen.{Seen}
use Rattle.al_world.specs.World.{TaskName, same_task}
use Rattle.al_race.specs.Order.{entry, latest, is_number, leads, some_below, is_before}
use Rattle.al_race.proofs.Bools.{equal, not_equal, unequal, same_number, some_same, some_none, some_or, some_one}

-- entry i is k, or before it
abbrev pub upto : List Seen → ℕ → ℕ → Bool
upto past i k = (k == i) || is_before past i k

-- entry i is up to one of the past of which f holds
abbrev pub reach : List Seen → (ℕ → Bool) → ℕ → Bool
reach past f i = some_below (length past) (λ k. f k && upto past i k)

pub reach_or : (past : List Seen) (f g : ℕ → Bool) (i : ℕ) → reach past (λ k. f k || g k) i ≡ (reach past f i || reach past g i)
reach_or past f g i = some_or (length past) f g (λ k. upto past i k)

pub reach_same : (past : List Seen) (f g : ℕ → Bool) (i : ℕ) → ((k : ℕ) → k < length past → f k ≡ g k) → reach past f i ≡ reach past g i
reach_same past f g i h = some_same (length past) (λ k. f k && upto past i k) (λ k. g k && upto past i k) (λ k low. ap (λ (x : Bool). x && upto past i k) (h k low))

pub reach_none : (past : List Seen) (f : ℕ → Bool) (i : ℕ) → ((k : ℕ) → k < length past → f k ≡ false) → reach past f i ≡ false
reach_none past f i h = some_none (length past) (λ k. f k && upto past i k) (λ k low. ap (λ (x : Bool). x && upto past i k) (h k low))

-- what is up to a talk, if there was one
abbrev pub upto_talk : List Seen → Option ℕ → ℕ → Bool
upto_talk past None i = false
upto_talk past (Some k) i = upto past i k

-- a talk of the past
abbrev pub IsPast : List Seen → Option ℕ → Type 0
IsPast past None = Unit {0}
IsPast past (Some k) = k < length past

pub reach_talk : (past : List Seen) (talk : Option ℕ) (i : ℕ) → IsPast past talk → reach past (is_number talk) i ≡ upto_talk past talk i
reach_talk past None i low = reach_none past (λ k. false) i (λ k _. refl)
reach_talk past (Some m) i low = some_one (length past) m (λ k. upto past i k) low

-- ---- one entry more

module _ (e : Seen) (past : List Seen) where
  -- the new entry
  pub at_new : (i : ℕ) → is_before (e ∷ past) i (length past) ≡ reach past (leads e past) i
  at_new i = ap (λ (b : Bool). cond b (reach past (leads e past) i) (is_before past i (length past))) (same_number (length past))

  -- the others
  pub at_old : (i k : ℕ) → k ≢ length past → is_before (e ∷ past) i k ≡ is_before past i k
  at_old i k differ = ap (λ (b : Bool). cond b (reach past (leads e past) i) (is_before past i k)) (not_equal k (length past) differ)

  pub upto_old : (i k : ℕ) → k < length past → upto (e ∷ past) i k ≡ upto past i k
  upto_old i k low = ap (λ (b : Bool). (k == i) || b) (at_old i k (λ same. let differ = same in omega (arith, low, differ)))

  pub reach_more : (f : ℕ → Bool) (i : ℕ) → reach (e ∷ past) f i ≡ ((f (length past) && upto (e ∷ past) i (length past)) || reach past f i)
  reach_more f i =
      ap (λ (b : Bool). (f (length past) && upto (e ∷ past) i (length past)) || b)
      (some_same (length past) (λ k. f k && upto (e ∷ past) i k) (λ k. f k && upto past i k) (λ k low. ap (λ (b : Bool). f k && b) (upto_old i k low)))

  pub entry_new : entry (e ∷ past) (length past) ≡ Some e
  entry_new = ap (λ (b : Bool). cond b (Some e) (entry past (length past))) (same_number (length past))

  pub entry_old : (i : ℕ) → i ≢ length past → entry (e ∷ past) i ≡ entry past i
  entry_old i differ = ap (λ (b : Bool). cond b (Some e) (entry past i)) (not_equal i (length past) differ)

-- ---- numbers outside

and_false : (b : Bool) → (b && false) ≡ false
and_false true = refl
and_false false = refl

pub before_outside : (past : List Seen) (i k : ℕ) → length past ≤ i → is_before past i k ≡ false
before_outside [] i k out = refl
before_outside (e ∷ past) i k out = on (k == length past) refl (λ m. before_outside past i m (omega (arith, out)))
  where
    each : ((m : ℕ) → is_before past i m ≡ false) → (m : ℕ) → m < length past → (leads e past m && ((m == i) || is_before past i m)) ≡ false
    each later m low =
        let differ : m ≢ i = λ same. let s = same in omega (arith, low, out, s) in
        ap (λ (b : Bool). leads e past m && (b || is_before past i m)) (not_equal m i differ)
        ∙ (ap (λ (b : Bool). leads e past m && b) (later m) ∙ and_false (leads e past m))

    on : (b : Bool) → (k == length past) ≡ b → ((m : ℕ) → is_before past i m ≡ false) → cond b (some_below (length past) (λ m. leads e past m && ((m == i) || is_before past i m))) (is_before past i k) ≡ false
    on true same later = some_none (length past) (λ m. leads e past m && ((m == i) || is_before past i m)) (each later)
    on false apart later = later k

pub upto_outside : (past : List Seen) (i k : ℕ) → length past ≤ i → k < length past → upto past i k ≡ false
upto_outside past i k out low =
    let differ : k ≢ i = λ same. let s = same in omega (arith, low, out, s) in
    ap (λ (b : Bool). b || is_before past i k) (not_equal k i differ) ∙ before_outside past i k out

pub reach_outside : (past : List Seen) (f : ℕ → Bool) (i : ℕ) → length past ≤ i → reach past f i ≡ false
reach_outside past f i out =
    some_none (length past) (λ k. f k && upto past i k) (λ k low. ap (λ (b : Bool). f k && b) (upto_outside past i k out low) ∙ and_false (f k))

-- an entry has a number below how many there are
pub entry_within : (past : List Seen) (i : ℕ) (d : Seen) → entry past i ≡ Some d → i < length past
entry_within [] i d e = absurd (cc)
entry_within (x ∷ past) i d e = on (i == length past) refl (entry_within past i d)
  where
    on : (b : Bool) → (i == length past) ≡ b → (entry past i ≡ Some d → i < length past) → i < suc (length past)
    on true same later = let s = equal i (length past) same in omega (arith, s)
    on false apart later =
        let low = later (sym (entry_old x past i (unequal i (length past) apart)) ∙ e) in
        omega (arith, low)

pub latest_past : (past : List Seen) (t : TaskName) → IsPast past (latest past t)
latest_past [] t = tt
latest_past (e ∷ past) t = on (same_task e.task t) (latest_past past t)
  where
    more : (o : Option ℕ) → IsPast past o → IsPast (e ∷ past) o
    more None h = tt
    more (Some k) h = omega (arith, h)

    on : (b : Bool) → IsPast past (latest past t) → IsPast (e ∷ past) (cond b (Some (length past)) (latest past t))
    on true h = omega arith
    on false h = more (latest past t) h
