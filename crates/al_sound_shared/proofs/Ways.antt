-- What ways do with marks: they keep those that are set, and some set one.
use Rattle.std.proofs.Common.{◌≡◌, ℕ, zero, suc, ◌<◌, Bool, true, List, [], ◌∷◌, length, refl, sym, ap, ◌∙◌, subst, arith, ◌⊎◌, inl, inr}
use Rattle.std.specs.Prelude.{Contains, slice_set}
use Rattle.al_shared.specs.Expressions.{Way}
use Rattle.al_sound_shared.specs.Marked.{IsMarked}

-- ---- lists

pub none_in : {A X : Type 0} (x : A) → Contains [] x → X
none_in x c = absurd (omega (arith, c.1))

pub one_of : {A : Type 0} (x y : A) (xs : List A) → Contains (x ∷ xs) y → (x ≡ y) ⊎ Contains xs y
one_of x y xs (zero, lt, q) = inl q
one_of x y xs (suc k, lt, q) = inr (k, omega (arith, lt), q)

pub only_one : {A : Type 0} (x y : A) → Contains (x ∷ []) y → x ≡ y
only_one x y c = on (one_of x y [] c)
  where
    on : (x ≡ y) ⊎ Contains [] y → x ≡ y
    on (inl q) = q
    on (inr c) = none_in y c

-- ---- marks

set_many : (bs : List Bool) (m : ℕ) → length (slice_set bs m true) ≡ length bs
set_many [] zero = refl
set_many [] (suc m) = refl
set_many (b ∷ bs) zero = refl
set_many (b ∷ bs) (suc m) = ap suc (set_many bs m)

set_stays : (bs : List Bool) (m n : ℕ) → IsMarked bs n → IsMarked (slice_set bs m true) n
set_stays [] zero n h = h
set_stays [] (suc m) n h = h
set_stays (b ∷ bs) zero zero h = refl
set_stays (b ∷ bs) zero (suc n) h = h
set_stays (b ∷ bs) (suc m) zero h = h
set_stays (b ∷ bs) (suc m) (suc n) h = set_stays bs m n h

set_marks : (bs : List Bool) (n : ℕ) → n < length bs → IsMarked (slice_set bs n true) n
set_marks [] n lt = absurd (omega (arith, lt))
set_marks (b ∷ bs) zero lt = refl
set_marks (b ∷ bs) (suc n) lt = set_marks bs n (omega (arith, lt))

-- ---- ways, for the local of one number

module _ (n : ℕ) where
  pub record Keeps (way : Way) : Type 0 where
    pub many : (inside : Bool) (bs : List Bool) → length (way inside bs) ≡ length bs
    pub stays : (inside : Bool) (bs : List Bool) → IsMarked bs n → IsMarked (way inside bs) n

  abbrev pub Marks : Bool → Way → Type 0
  Marks inside way = (bs : List Bool) → n < length bs → IsMarked (way inside bs) n

  pub keeps_none : Keeps (λ inside bs. bs)
  keeps_none = record { many = λ inside bs. refl; stays = λ inside bs h. h }

  pub keeps_set : (m : ℕ) → Keeps (λ inside bs. slice_set bs m true)
  keeps_set m = record { many = λ inside bs. set_many bs m; stays = λ inside bs h. set_stays bs m n h }

  pub keeps_then : (f g : Way) → Keeps f → Keeps g → Keeps (λ inside bs. g inside (f inside bs))
  keeps_then f g h k = record {
    many = λ inside bs. k.many inside (f inside bs) ∙ h.many inside bs;
    stays = λ inside bs m. k.stays inside (f inside bs) (h.stays inside bs m);
  }

  pub first_marks : (inside : Bool) (f g : Way) → Keeps g → Marks inside f → Marks inside (λ inside bs. g inside (f inside bs))
  first_marks inside f g k m bs lt = k.stays inside (f inside bs) (m bs lt)

  pub then_marks : (inside : Bool) (f g : Way) → Keeps f → Marks inside g → Marks inside (λ inside bs. g inside (f inside bs))
  then_marks inside f g k m bs lt = m (f inside bs) (subst (λ l. n < l) (sym (k.many inside bs)) lt)

  pub set_is_marked : (inside : Bool) → Marks inside (λ inside bs. slice_set bs n true)
  set_is_marked inside bs lt = set_marks bs n lt
