-- Which types of values stay as they are, and how values in slots are converted, by the forms of both types.
use native.Mathlib.Omega.{arith}
use Rattle.std.proofs.Common.{◌≡◌, ℕ, suc, ◌+◌, ◌<◌, ◌≤◌, true, false, ◌&&◌, List, [], ◌∷◌, drop, length, get_or, refl, sym, ap, ap₂, ◌∙◌, drop-cons}
use Rattle.std.proofs.lemmas.List.{at_drop_all}
use Rattle.al_base.specs.declared.arith.Kind.{Kind}
use Rattle.al_typed.specs.declared.ty.Ty.{Ty}
use Rattle.al_typed.specs.declared.ty.Ty.TheVariants as ty
use Rattle.al_typed.specs.declared.ty.Ty.TheBlock.{hidden-the_row-Ty-0, hidden-the_row-Ty-1}
use denote.Hole.Carrier.{hidden}
use Rattle.al_lower_code.specs.Operators.{keeps_bits, stays}

pub stays-Integer-Integer : (k j : Kind) → stays (ty.Integer k) (ty.Integer j) ≡ keeps_bits k j
stays-Integer-Integer k j = refl

pub stays-Integer-Void : (k : Kind) → stays (ty.Integer k) ty.Void ≡ true
unfolding hidden-the_row-Ty-0 hidden-the_row-Ty-1 hidden
stays-Integer-Void k = refl

pub stays-Integer-Pointer : (k : Kind) (t : Ty) → stays (ty.Integer k) (ty.Pointer t) ≡ true
unfolding hidden-the_row-Ty-0 hidden-the_row-Ty-1 hidden
stays-Integer-Pointer k t = refl

pub stays-Integer-Array : (k : Kind) (t : Ty) (n : ℕ) → stays (ty.Integer k) (ty.Array t n) ≡ true
unfolding hidden-the_row-Ty-0 hidden-the_row-Ty-1 hidden
stays-Integer-Array k t n = refl

pub stays-Integer-Chan : (k : Kind) (t : Ty) (n : ℕ) → stays (ty.Integer k) (ty.Chan t n) ≡ true
unfolding hidden-the_row-Ty-0 hidden-the_row-Ty-1 hidden
stays-Integer-Chan k t n = refl

pub stays-Integer-Tuple : (k : Kind) (us : List Ty) → stays (ty.Integer k) (ty.Tuple us) ≡ true
unfolding hidden-the_row-Ty-0 hidden-the_row-Ty-1 hidden
stays-Integer-Tuple k us = refl

pub stays-Integer-Aggregate : (k : Kind) (n : ℕ) → stays (ty.Integer k) (ty.Aggregate n) ≡ true
unfolding hidden-the_row-Ty-0 hidden-the_row-Ty-1 hidden
stays-Integer-Aggregate k n = refl

pub stays-Integer-Function : (k : Kind) (t : Ty) (ts : List Ty) → stays (ty.Integer k) (ty.Function t ts) ≡ true
unfolding hidden-the_row-Ty-0 hidden-the_row-Ty-1 hidden
stays-Integer-Function k t ts = refl

pub stays-Tuple-Void : (ts : List Ty) → stays (ty.Tuple ts) ty.Void ≡ true
unfolding hidden-the_row-Ty-0 hidden-the_row-Ty-1 hidden
stays-Tuple-Void ts = refl

pub stays-Tuple-Integer : (ts : List Ty) (j : Kind) → stays (ty.Tuple ts) (ty.Integer j) ≡ true
unfolding hidden-the_row-Ty-0 hidden-the_row-Ty-1 hidden
stays-Tuple-Integer ts j = refl

pub stays-Tuple-Pointer : (ts : List Ty) (t : Ty) → stays (ty.Tuple ts) (ty.Pointer t) ≡ true
unfolding hidden-the_row-Ty-0 hidden-the_row-Ty-1 hidden
stays-Tuple-Pointer ts t = refl

pub stays-Tuple-Array : (ts : List Ty) (t : Ty) (n : ℕ) → stays (ty.Tuple ts) (ty.Array t n) ≡ true
unfolding hidden-the_row-Ty-0 hidden-the_row-Ty-1 hidden
stays-Tuple-Array ts t n = refl

pub stays-Tuple-Chan : (ts : List Ty) (t : Ty) (n : ℕ) → stays (ty.Tuple ts) (ty.Chan t n) ≡ true
unfolding hidden-the_row-Ty-0 hidden-the_row-Ty-1 hidden
stays-Tuple-Chan ts t n = refl

pub stays-Tuple-Aggregate : (ts : List Ty) (n : ℕ) → stays (ty.Tuple ts) (ty.Aggregate n) ≡ true
unfolding hidden-the_row-Ty-0 hidden-the_row-Ty-1 hidden
stays-Tuple-Aggregate ts n = refl

pub stays-Tuple-Function : (ts : List Ty) (t : Ty) (us : List Ty) → stays (ty.Tuple ts) (ty.Function t us) ≡ true
unfolding hidden-the_row-Ty-0 hidden-the_row-Ty-1 hidden
stays-Tuple-Function ts t us = refl

pub stays-Void : (into : Ty) → stays ty.Void into ≡ true
unfolding hidden-the_row-Ty-0 hidden-the_row-Ty-1 hidden
stays-Void into = refl

pub stays-Pointer : (t : Ty) (into : Ty) → stays (ty.Pointer t) into ≡ true
unfolding hidden-the_row-Ty-0 hidden-the_row-Ty-1 hidden
stays-Pointer t into = refl

pub stays-Array : (t : Ty) (n : ℕ) (into : Ty) → stays (ty.Array t n) into ≡ true
unfolding hidden-the_row-Ty-0 hidden-the_row-Ty-1 hidden
stays-Array t n into = refl

pub stays-Chan : (t : Ty) (n : ℕ) (into : Ty) → stays (ty.Chan t n) into ≡ true
unfolding hidden-the_row-Ty-0 hidden-the_row-Ty-1 hidden
stays-Chan t n into = refl

pub stays-Aggregate : (n : ℕ) (into : Ty) → stays (ty.Aggregate n) into ≡ true
unfolding hidden-the_row-Ty-0 hidden-the_row-Ty-1 hidden
stays-Aggregate n into = refl

pub stays-Function : (t : Ty) (ts : List Ty) (into : Ty) → stays (ty.Function t ts) into ≡ true
unfolding hidden-the_row-Ty-0 hidden-the_row-Ty-1 hidden
stays-Function t ts into = refl

pub ruleset integers_stay = (stays-Integer-Integer, stays-Integer-Void, stays-Integer-Pointer, stays-Integer-Array, stays-Integer-Chan, stays-Integer-Tuple, stays-Integer-Aggregate, stays-Integer-Function)

pub ruleset tuples_stay = (stays-Tuple-Void, stays-Tuple-Integer, stays-Tuple-Pointer, stays-Tuple-Array, stays-Tuple-Chan, stays-Tuple-Aggregate, stays-Tuple-Function)

pub ruleset others_stay = (stays-Void, stays-Pointer, stays-Array, stays-Chan, stays-Aggregate, stays-Function)

-- tuples part by part
pub stays-parts : (t u : Ty) (ts us : List Ty) → stays (ty.Tuple (t ∷ ts)) (ty.Tuple (u ∷ us)) ≡ (stays t u && stays (ty.Tuple ts) (ty.Tuple us))
unfolding hidden-the_row-Ty-1 hidden
stays-parts t u ts us = refl

pub stays-no_part : (us : List Ty) → stays (ty.Tuple []) (ty.Tuple us) ≡ true
unfolding hidden-the_row-Ty-1 hidden
stays-no_part us = refl

pub stays-to_none : (ts : List Ty) → stays (ty.Tuple ts) (ty.Tuple []) ≡ true
unfolding hidden-the_row-Ty-1 hidden
stays-to_none [] = refl
stays-to_none (t ∷ ts) = refl

pub at_hand : {A : Type 0} (xs : List A) (i : ℕ) (x : A) → i < length xs → x ≡ get_or xs i x → drop i xs ≡ x ∷ drop (i + 1) xs
at_hand xs i x h is = drop-cons xs i x h ∙ ap (λ y. y ∷ drop (suc i) xs) (sym is) ∙ ap (λ (k : ℕ). x ∷ drop k xs) (next i)
  where
    next : (i : ℕ) → suc i ≡ i + 1
    next i = omega arith

-- one part more
pub parts_at : (from into : List Ty) (i : ℕ) (t u : Ty) → i < length from → t ≡ get_or from i t → i < length into → u ≡ get_or into i u
    → stays (ty.Tuple (drop i from)) (ty.Tuple (drop i into)) ≡ (stays t u && stays (ty.Tuple (drop (i + 1) from)) (ty.Tuple (drop (i + 1) into)))
parts_at from into i t u h is k iu =
    ap₂ (λ (a b : List Ty). stays (ty.Tuple a) (ty.Tuple b)) (at_hand from i t h is) (at_hand into i u k iu)
    ∙ stays-parts t u (drop (i + 1) from) (drop (i + 1) into)

-- no part is left on one side, or on the other
pub none_from : (from into : List Ty) (i : ℕ) → length from ≤ i → true ≡ stays (ty.Tuple (drop i from)) (ty.Tuple (drop i into))
none_from from into i h = sym (at_drop_all (λ (ts : List Ty). stays (ty.Tuple ts) (ty.Tuple (drop i into))) from i h ∙ stays-no_part (drop i into))

pub none_into : (from into : List Ty) (i : ℕ) → length into ≤ i → true ≡ stays (ty.Tuple (drop i from)) (ty.Tuple (drop i into))
none_into from into i h = sym (at_drop_all (λ (ts : List Ty). stays (ty.Tuple (drop i from)) (ty.Tuple ts)) into i h ∙ stays-to_none (drop i from))

-- a part does not stay, or it does
pub one_changes : (from into : List Ty) (i : ℕ) (t u : Ty) → i < length from → t ≡ get_or from i t → i < length into → u ≡ get_or into i u
    → stays t u ≡ false → false ≡ stays (ty.Tuple (drop i from)) (ty.Tuple (drop i into))
one_changes from into i t u h is k iu e =
    sym (parts_at from into i t u h is k iu ∙ ap (λ b. b && stays (ty.Tuple (drop (i + 1) from)) (ty.Tuple (drop (i + 1) into))) e)

pub one_stays : (from into : List Ty) (i : ℕ) (t u : Ty) → i < length from → t ≡ get_or from i t → i < length into → u ≡ get_or into i u
    → stays t u ≡ true → stays (ty.Tuple (drop (i + 1) from)) (ty.Tuple (drop (i + 1) into)) ≡ stays (ty.Tuple (drop i from)) (ty.Tuple (drop i into))
one_stays from into i t u h is k iu e =
    sym (parts_at from into i t u h is k iu ∙ ap (λ b. b && stays (ty.Tuple (drop (i + 1) from)) (ty.Tuple (drop (i + 1) into))) e)
