-- Words of private globals.
use Rattle.std.proofs.Common.{◌≡◌, ℕ, zero, suc, ◌+◌, ◌%◌, ◌^◌, ◌<◌, ◌≤◌, List, [], ◌∷◌, ◌++◌, length, take, drop, Some, refl, sym, ap, ◌∙◌, subst, arith, append-nil}
use Rattle.std.specs.Prelude.{Bool, true, false, if◌then◌else◌, sum_by, slice_get, slice_set}
use Rattle.std.specs.List.{flat_map}
use Rattle.std.proofs.lemmas.List.Sums.{sum_by-cons}
use Rattle.std.proofs.lemmas.Option.{same_Some}
use Rattle.al_typed.specs.declared.layout.Unit.{Unit as StorageUnit}
use Rattle.al_typed.specs.declared.program.Global.{Global as GlobalRow}
use Rattle.al_typed.specs.declared.program.Program.{Program}
use Rattle.al_typed.specs.Types.{is_array}
use Rattle.al_meaning.specs.Places.{private_words_of, words_in}
use Rattle.al_meaning.specs.Evaluate.{put_at}
use Rattle.al_meaning.specs.Here.{units_in}
use Rattle.al_lowered.specs.Rules.{private_units}
use Rattle.al_lower_words.specs.Units.{AreOf}
use Rattle.al_lower_words.proofs.Integers.{words_are}

first_is : (a b : ℕ) (xs ys : List ℕ) → a ∷ xs ≡ b ∷ ys → a ≡ b
first_is a b xs ys e = cc

rest_is : (a b : ℕ) (xs ys : List ℕ) → a ∷ xs ≡ b ∷ ys → xs ≡ ys
rest_is a b xs ys e = cc

of_units : (u : StorageUnit) (us : List StorageUnit) (w : ℕ) (v : List ℕ) → w % 256 ^ u.size ≡ w → AreOf us v → AreOf (u ∷ us) (w ∷ v)
of_units u us w v h k = rw (h, k) refl

-- ---- parts of words

pub take_fits : (us vs : List StorageUnit) (w : List ℕ) → AreOf (us ++ vs) w → AreOf us (take (length us) w)
take_fits [] vs w h = refl
take_fits (u ∷ us) vs [] h = absurd (cc)
take_fits (u ∷ us) vs (x ∷ w) h = of_units u us x (take (length us) w) (first_is _ _ _ _ h) (take_fits us vs w (rest_is _ _ _ _ h))

pub drop_fits : (us vs : List StorageUnit) (w : List ℕ) → AreOf (us ++ vs) w → AreOf vs (drop (length us) w)
drop_fits [] vs w h = h
drop_fits (u ∷ us) vs [] h = absurd (cc)
drop_fits (u ∷ us) vs (x ∷ w) h = drop_fits us vs w (rest_is _ _ _ _ h)

pub join_fits : (us vs : List StorageUnit) (v w : List ℕ) → AreOf us v → AreOf vs w → AreOf (us ++ vs) (v ++ w)
join_fits [] vs [] w h k = k
join_fits [] vs (x ∷ v) w h k = absurd (cc)
join_fits (u ∷ us) vs [] w h k = absurd (cc)
join_fits (u ∷ us) vs (x ∷ v) w h k = of_units u (us ++ vs) x (v ++ w) (first_is _ _ _ _ h) (join_fits us vs v w (rest_is _ _ _ _ h) k)

drop_none : (b : ℕ) → ◌≡◌ {A = List ℕ} [] (drop b [])
drop_none zero = refl
drop_none (suc b) = refl

pub drop_more : (a b : ℕ) (u : List ℕ) → drop (a + b) u ≡ drop b (drop a u)
drop_more zero b u = let e : 0 + b ≡ b = omega arith in ap (λ n. drop n u) e
drop_more (suc a) b [] = let e : suc a + b ≡ suc (a + b) = omega arith in ap (λ n. drop n []) e ∙ drop_none b
drop_more (suc a) b (x ∷ u) = let e : suc a + b ≡ suc (a + b) = omega arith in ap (λ n. drop n (x ∷ u)) e ∙ drop_more a b u

-- ---- where a private global stands

module _ (p : Program) where
  -- no private global is an array
  abbrev pub NoArrayGlobals : List GlobalRow → Type 0
  NoArrayGlobals gs = (i : ℕ) (h : GlobalRow) → slice_get gs i ≡ Some h → h.is_private ≡ true → is_array h.ty ≡ false

  pub words_counted : (g : GlobalRow) → (g.is_private ≡ true → is_array g.ty ≡ false) → private_words_of p g ≡ length (private_units p g)
  words_counted g plain = on g.is_private refl
    where
      on : (b : Bool) → g.is_private ≡ b → (if b then words_in p g.ty else 0) ≡ length (if b then units_in p g.ty else [])
      on true e = words_are p g.ty (plain e)
      on false e = refl

  pub global_fits : (gs : List GlobalRow) (n : ℕ) (g : GlobalRow) (u : List ℕ) → slice_get gs n ≡ Some g → g.is_private ≡ true → NoArrayGlobals gs → AreOf (flat_map (private_units p) gs) u → AreOf (units_in p g.ty) (take (words_in p g.ty) (drop (sum_by (private_words_of p) (take n gs)) u))
  global_fits [] n g u get private plain fits = absurd (cc)
  global_fits (h ∷ gs) zero g u get private plain fits =
      let same : h ≡ g = same_Some h g get in
      let private_h : h.is_private ≡ true = ap (λ (r : GlobalRow). r.is_private) same ∙ private in
      let us : private_units p h ≡ units_in p g.ty = ap (λ b. if b then units_in p h.ty else []) private_h ∙ ap (λ (r : GlobalRow). units_in p r.ty) same in
      let plain_g : is_array g.ty ≡ false = ap (λ (r : GlobalRow). is_array r.ty) (sym same) ∙ plain zero h refl private_h in
      let t = take_fits (private_units p h) (flat_map (private_units p) gs) u fits in
      let count : length (private_units p h) ≡ words_in p g.ty = ap length us ∙ sym (words_are p g.ty plain_g) in
      subst (λ n. AreOf (units_in p g.ty) (take n u)) count (subst (λ us. AreOf us (take (length (private_units p h)) u)) us t)
  global_fits (h ∷ gs) (suc n) g u get private plain fits =
      let d = drop_fits (private_units p h) (flat_map (private_units p) gs) u fits in
      let r = global_fits gs n g (drop (length (private_units p h)) u) get private (λ i k. plain (suc i) k) d in
      let count : length (private_units p h) ≡ private_words_of p h = sym (words_counted h (plain zero h refl)) in
      let total : sum_by (private_words_of p) (take (suc n) (h ∷ gs)) ≡ length (private_units p h) + sum_by (private_words_of p) (take n gs) = sum_by-cons (private_words_of p) h (take n gs) ∙ ap (λ m. m + sum_by (private_words_of p) (take n gs)) (sym count) in
      subst (λ w. AreOf (units_in p g.ty) (take (words_in p g.ty) w)) (sym (ap (λ m. drop m u) total ∙ drop_more (length (private_units p h)) (sum_by (private_words_of p) (take n gs)) u)) r

-- ---- words that are set

-- one word after the other
abbrev pub set_all : (place : ℕ) → List ℕ → List ℕ → List ℕ
set_all place [] u = u
set_all place (w ∷ ws) u = set_all (place + 1) ws (slice_set u place w)

set_length : (u : List ℕ) (i x : ℕ) → length (slice_set u i x) ≡ length u
set_length [] i x = refl
set_length (a ∷ u) zero x = refl
set_length (a ∷ u) (suc i) x = ap suc (set_length u i x)

take_set : (u : List ℕ) (i x : ℕ) → i < length u → take (i + 1) (slice_set u i x) ≡ take i u ++ x ∷ []
take_set [] i x lt = absurd (omega (arith, lt))
take_set (a ∷ u) zero x lt = refl
take_set (a ∷ u) (suc i) x lt = let e : suc i + 1 ≡ suc (i + 1) = omega arith in ap (λ n. take n (a ∷ slice_set u i x)) e ∙ ap (λ v. a ∷ v) (take_set u i x (omega (arith, lt)))

drop_set : (u : List ℕ) (i n x : ℕ) → i < n → drop n (slice_set u i x) ≡ drop n u
drop_set [] i n x lt = refl
drop_set (a ∷ u) zero zero x lt = absurd (omega (arith, lt))
drop_set (a ∷ u) zero (suc n) x lt = refl
drop_set (a ∷ u) (suc i) zero x lt = absurd (omega (arith, lt))
drop_set (a ∷ u) (suc i) (suc n) x lt = drop_set u i n x (omega (arith, lt))

split_at : (u : List ℕ) (n : ℕ) → u ≡ take n u ++ drop n u
split_at u zero = refl
split_at [] (suc n) = refl
split_at (a ∷ u) (suc n) = ap (λ v. a ∷ v) (split_at u n)

join_one : (a : List ℕ) (x : ℕ) (b : List ℕ) → (a ++ x ∷ []) ++ b ≡ a ++ x ∷ b
join_one [] x b = refl
join_one (y ∷ a) x b = ap (λ v. y ∷ v) (join_one a x b)

pub set_all_is : (ws : List ℕ) (place : ℕ) (u : List ℕ) → place + length ws ≤ length u → set_all place ws u ≡ put_at place ws u
set_all_is [] place u le = let e : place ≡ place + 0 = omega arith in split_at u place ∙ (ap (λ n. take place u ++ drop n u) e ∙ ap (λ a. a ++ drop (place + 0) u) (sym (append-nil (take place u))))
set_all_is (w ∷ ws) place u le =
    let l = set_length u place w in
    let more = set_all_is ws (place + 1) (slice_set u place w) (omega (arith, l, le)) in
    let front = take_set u place w (omega (arith, le)) in
    let back = drop_set u place (place + 1 + length ws) w (omega arith) in
    let e : place + 1 + length ws ≡ place + length (w ∷ ws) = omega arith in
    more ∙ (ap (λ a. (a ++ ws) ++ drop (place + 1 + length ws) (slice_set u place w)) front ∙ (ap (λ b. ((take place u ++ w ∷ []) ++ ws) ++ b) back
    ∙ (ap (λ a. a ++ drop (place + 1 + length ws) u) (join_one (take place u) w ws) ∙ ap (λ n. (take place u ++ w ∷ ws) ++ drop n u) e)))

-- a word that keeps the bytes of its unit
pub set_fits : (us : List StorageUnit) (u : List ℕ) (i x : ℕ) (unit : StorageUnit) → slice_get us i ≡ Some unit → x % 256 ^ unit.size ≡ x → AreOf us u → AreOf us (slice_set u i x)
set_fits [] u i x unit get small fits = absurd (cc)
set_fits (v ∷ us) [] i x unit get small fits = absurd (cc)
set_fits (v ∷ us) (a ∷ u) zero x unit get small fits =
    let same : v ≡ unit = same_Some v unit get in
    of_units v us x u (ap (λ (r : StorageUnit). x % 256 ^ r.size) same ∙ small) (rest_is _ _ _ _ fits)
set_fits (v ∷ us) (a ∷ u) (suc i) x unit get small fits = of_units v us a (slice_set u i x) (first_is _ _ _ _ fits) (set_fits us u i x unit get small (rest_is _ _ _ _ fits))
