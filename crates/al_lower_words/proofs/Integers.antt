-- The words of integers, pointers and channels.
use Rattle.std.proofs.Common.{◌≡◌, ℕ, suc, ◌%◌, ◌/◌, ◌^◌, ◌<◌, List, [], ◌∷◌, length, drop, Some, None, refl, sym, ap, ◌∙◌, subst, arith, ℤ, pos, negsuc}
use Rattle.std.specs.Prelude.{Bool, true, false, ◌&&◌, not, if◌then◌else◌, unsigned_abs}
use Rattle.std.specs.Int.{int_rem_euclid}
use Rattle.std.proofs.Math.Nat.{mod-eq_of_lt}
use Rattle.al_base.specs.Arith.{width_of, wrapped, applied, exact_of}
use Rattle.al_base.specs.declared.arith.Op.{Op as Arith}
use Rattle.al_base.specs.declared.arith.Kind.{Kind}
use Rattle.al_typed.specs.declared.ty.Ty.{Ty}
use Rattle.al_typed.specs.declared.ty.Ty.TheVariants as ty
use Rattle.al_typed.specs.declared.ty.Ty.TheViews.{out-Ty}
use denote.Hole.Carrier.{out}
use Rattle.al_typed.specs.declared.layout.Unit.{Unit as StorageUnit}
use Rattle.al_typed.specs.declared.program.Program.{Program}
use Rattle.al_typed.specs.Types.{bytes_of, is_void, is_array, is_complete, is_whole}
use Rattle.al_typed.specs.Layout.{Layout, of_bytes, unit_at, words_of}
use Rattle.al_typed.proofs.Layouts.{layout-Integer, layout-Pointer, layout-Chan}
use Rattle.al_meaning.specs.Words.{fitted_to}
use Rattle.al_meaning.specs.Here.{units_in}
use Rattle.al_meaning.specs.Places.{words_in}
use Rattle.al_lower_words.specs.Units.{AreOf}

pub units_of_kind : (p : Program) (k : Kind) → units_in p (ty.Integer k) ≡ (of_bytes (bytes_of k)).units
units_of_kind p k = ap (λ (l : Layout). l.units) (layout-Integer p.aggregates k)

pub units_of_pointer : (p : Program) (to : Ty) → units_in p (ty.Pointer to) ≡ unit_at 0 4 ∷ []
units_of_pointer p to = ap (λ (l : Layout). l.units) (layout-Pointer p.aggregates to)

pub units_of_channel : (p : Program) (element : Ty) (capacity : ℕ) → units_in p (ty.Chan element capacity) ≡ unit_at 0 4 ∷ []
units_of_channel p element capacity = ap (λ (l : Layout). l.units) (layout-Chan p.aggregates element capacity)

pub fitted_length : (us : List StorageUnit) (v : List ℕ) → length (fitted_to us v) ≡ length us
fitted_length [] v = refl
fitted_length (u ∷ us) v = ap suc (fitted_length us (drop 1 v))

pub length_of : (us : List StorageUnit) (v : List ℕ) → AreOf us v → length v ≡ length us
length_of us v h = ap length (sym h) ∙ fitted_length us v

-- ---- types that are no void and no array

pub whole_not_array : (p : Program) (t : Ty) → is_whole p.aggregates t ≡ true → is_array t ≡ false
whole_not_array p t h = on (is_complete p.aggregates t) (is_array t) h
  where
    on : (b c : Bool) → (b && not c) ≡ true → c ≡ false
    on true true e = absurd (cc)
    on true false e = refl
    on false c e = absurd (cc)

pub words_are : (p : Program) (t : Ty) → is_array t ≡ false → words_in p t ≡ length (units_in p t)
unfolding words_of
words_are p t h = rw h refl

pub integer_not_void : (k : Kind) → is_void (ty.Integer k) ≡ false
unfolding is_void out-Ty out
integer_not_void k = refl

pub integer_not_array : (k : Kind) → is_array (ty.Integer k) ≡ false
unfolding is_array out-Ty out
integer_not_array k = refl

pub pointer_not_void : (to : Ty) → is_void (ty.Pointer to) ≡ false
unfolding is_void out-Ty out
pointer_not_void to = refl

pub pointer_not_array : (to : Ty) → is_array (ty.Pointer to) ≡ false
unfolding is_array out-Ty out
pointer_not_array to = refl

pub channel_not_void : (t : Ty) (n : ℕ) → is_void (ty.Chan t n) ≡ false
unfolding is_void out-Ty out
channel_not_void t n = refl

pub channel_not_array : (t : Ty) (n : ℕ) → is_array (ty.Chan t n) ≡ false
unfolding is_array out-Ty out
channel_not_array t n = refl

-- ---- one and two words

pub record IsOne (v : List ℕ) : Type 0 where
  pub word : ℕ
  pub is : v ≡ word ∷ []
  pub small : word < 2 ^ 32

pub record IsTwo (v : List ℕ) : Type 0 where
  pub low : ℕ
  pub high : ℕ
  pub is : v ≡ low ∷ high ∷ []
  pub low_small : low < 2 ^ 32
  pub high_small : high < 2 ^ 32

first_of : (a b : ℕ) (xs ys : List ℕ) → a ∷ xs ≡ b ∷ ys → a ≡ b
first_of a b xs ys e = cc

rest_of : (a b : ℕ) (xs ys : List ℕ) → a ∷ xs ≡ b ∷ ys → xs ≡ ys
rest_of a b xs ys e = cc

small_word : (n : ℕ) → n % 256 ^ 4 ≡ n → n < 2 ^ 32
small_word n e = omega (arith, e)

pub one_word : (at : ℕ) (v : List ℕ) → AreOf (unit_at at 4 ∷ []) v → IsOne v
one_word at [] h = absurd (cc)
one_word at (w ∷ []) h = record { word = w; is = refl; small = small_word w (first_of _ _ _ _ h) }
one_word at (w ∷ x ∷ v) h = absurd (cc)

pub two_words : (a b : ℕ) (v : List ℕ) → AreOf (unit_at a 4 ∷ unit_at b 4 ∷ []) v → IsTwo v
two_words a b [] h = absurd (cc)
two_words a b (w ∷ []) h = absurd (cc)
two_words a b (w ∷ x ∷ []) h = record {
  low = w;
  high = x;
  is = refl;
  low_small = small_word w (first_of _ _ _ _ h);
  high_small = small_word x (first_of _ _ _ _ (rest_of _ _ _ _ h));
}
two_words a b (w ∷ x ∷ y ∷ v) h = absurd (cc)

pub one_fits : (at w : ℕ) → w < 2 ^ 32 → AreOf (unit_at at 4 ∷ []) (w ∷ [])
one_fits at w h = let e : w % 256 ^ 4 ≡ w = mod-eq_of_lt h in rw e refl

pub two_fit : (a b w x : ℕ) → w < 2 ^ 32 → x < 2 ^ 32 → AreOf (unit_at a 4 ∷ unit_at b 4 ∷ []) (w ∷ x ∷ [])
two_fit a b w x h k = let e : w % 256 ^ 4 ≡ w = mod-eq_of_lt h in let f : x % 256 ^ 4 ≡ x = mod-eq_of_lt k in rw (e, f) refl

rem_below : (z : ℤ) (n : ℕ) → 0 < n → unsigned_abs (int_rem_euclid z (pos n)) < n
rem_below (pos a) n some = omega arith
rem_below (negsuc a) n some = omega arith

pub wrapped_32 : (z : ℤ) → wrapped 32 z < 2 ^ 32
wrapped_32 z = rem_below z (2 ^ 32) (omega arith)

pub wrapped_64 : (z : ℤ) → wrapped 64 z < 2 ^ 64
wrapped_64 z = rem_below z (2 ^ 64) (omega arith)

pub low_small : (n : ℕ) → n % 2 ^ 32 < 2 ^ 32
low_small n = omega arith

pub high_small : (n : ℕ) → n < 2 ^ 64 → n / 2 ^ 32 < 2 ^ 32
high_small n h = omega (arith, h)

-- what an operation gives is one number
pub applied_small : (w : ℕ) (k : Kind) (op : Arith) (a b z : ℕ) → width_of k ≡ w → ((i : ℤ) → wrapped w i < 2 ^ w) → applied op k a b ≡ Some z → z < 2 ^ w
applied_small w k op a b z e h q = on _ q
  where
    same : (m n : ℕ) → Some m ≡ Some n → m ≡ n
    same m n e = cc

    on : (c : Bool) → (if c then None else Some (wrapped (width_of k) (exact_of op k a b))) ≡ Some z → z < 2 ^ w
    on true x = absurd (cc)
    on false x = subst (λ n. n < 2 ^ w) (same _ _ x) (subst (λ u. wrapped u (exact_of op k a b) < 2 ^ w) (sym e) (h (exact_of op k a b)))
