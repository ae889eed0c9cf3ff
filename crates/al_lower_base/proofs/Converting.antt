-- How values in slots are converted, by the forms of both types.
use Rattle.std.proofs.Common.{◌≡◌, ℕ, ◌+◌, ◌<◌, ◌≤◌, List, [], ◌∷◌, ◌++◌, drop, length, get_or, refl, sym, ap, ap₂, ◌∙◌, append_assoc}
use Rattle.std.proofs.lemmas.List.{at_drop_all, append-nil}
use Rattle.al_base.specs.declared.arith.Kind.{Kind}
use Rattle.al_typed.specs.declared.ty.Ty.{Ty}
use Rattle.al_typed.specs.declared.ty.Ty.TheVariants as ty
use Rattle.al_typed.specs.declared.ty.Ty.TheBlock.{hidden-the_row-Ty-0, hidden-the_row-Ty-1}
use denote.Hole.Carrier.{hidden}
use Rattle.al_ir.specs.declared.ir.Operation.{Operation}
use Rattle.al_ir.specs.declared.op.Op.TheVariants.{Convert}
use Rattle.al_lower_code.specs.Homes.{Spot, words, here}
use Rattle.al_lower_code.specs.Moving.{copies}
use Rattle.al_lower_code.specs.Operators.{convert_code}
use Rattle.al_lower_base.proofs.Unconverted.{at_hand}

pub convert-Integer-Integer : (s : Spot) (k j : Kind) (to at : ℕ) → convert_code s (ty.Integer k) (ty.Integer j) to at ≡ here s (Convert k j to at)
convert-Integer-Integer s k j to at = refl

pub convert-Integer-Void : (s : Spot) (k : Kind) (to at : ℕ) → convert_code s (ty.Integer k) ty.Void to at ≡ copies s.line to at (words s (ty.Integer k))
unfolding hidden-the_row-Ty-0 hidden-the_row-Ty-1 hidden
convert-Integer-Void s k to at = refl

pub convert-Integer-Pointer : (s : Spot) (k : Kind) (t : Ty) (to at : ℕ) → convert_code s (ty.Integer k) (ty.Pointer t) to at ≡ copies s.line to at (words s (ty.Integer k))
unfolding hidden-the_row-Ty-0 hidden-the_row-Ty-1 hidden
convert-Integer-Pointer s k t to at = refl

pub convert-Integer-Array : (s : Spot) (k : Kind) (t : Ty) (n : ℕ) (to at : ℕ) → convert_code s (ty.Integer k) (ty.Array t n) to at ≡ copies s.line to at (words s (ty.Integer k))
unfolding hidden-the_row-Ty-0 hidden-the_row-Ty-1 hidden
convert-Integer-Array s k t n to at = refl

pub convert-Integer-Chan : (s : Spot) (k : Kind) (t : Ty) (n : ℕ) (to at : ℕ) → convert_code s (ty.Integer k) (ty.Chan t n) to at ≡ copies s.line to at (words s (ty.Integer k))
unfolding hidden-the_row-Ty-0 hidden-the_row-Ty-1 hidden
convert-Integer-Chan s k t n to at = refl

pub convert-Integer-Tuple : (s : Spot) (k : Kind) (us : List Ty) (to at : ℕ) → convert_code s (ty.Integer k) (ty.Tuple us) to at ≡ copies s.line to at (words s (ty.Integer k))
unfolding hidden-the_row-Ty-0 hidden-the_row-Ty-1 hidden
convert-Integer-Tuple s k us to at = refl

pub convert-Integer-Aggregate : (s : Spot) (k : Kind) (n : ℕ) (to at : ℕ) → convert_code s (ty.Integer k) (ty.Aggregate n) to at ≡ copies s.line to at (words s (ty.Integer k))
unfolding hidden-the_row-Ty-0 hidden-the_row-Ty-1 hidden
convert-Integer-Aggregate s k n to at = refl

pub convert-Integer-Function : (s : Spot) (k : Kind) (t : Ty) (ts : List Ty) (to at : ℕ) → convert_code s (ty.Integer k) (ty.Function t ts) to at ≡ copies s.line to at (words s (ty.Integer k))
unfolding hidden-the_row-Ty-0 hidden-the_row-Ty-1 hidden
convert-Integer-Function s k t ts to at = refl

pub convert-Tuple-Void : (s : Spot) (ts : List Ty) (to at : ℕ) → convert_code s (ty.Tuple ts) ty.Void to at ≡ copies s.line to at (words s (ty.Tuple ts))
unfolding hidden-the_row-Ty-0 hidden-the_row-Ty-1 hidden
convert-Tuple-Void s ts to at = refl

pub convert-Tuple-Integer : (s : Spot) (ts : List Ty) (j : Kind) (to at : ℕ) → convert_code s (ty.Tuple ts) (ty.Integer j) to at ≡ copies s.line to at (words s (ty.Tuple ts))
unfolding hidden-the_row-Ty-0 hidden-the_row-Ty-1 hidden
convert-Tuple-Integer s ts j to at = refl

pub convert-Tuple-Pointer : (s : Spot) (ts : List Ty) (t : Ty) (to at : ℕ) → convert_code s (ty.Tuple ts) (ty.Pointer t) to at ≡ copies s.line to at (words s (ty.Tuple ts))
unfolding hidden-the_row-Ty-0 hidden-the_row-Ty-1 hidden
convert-Tuple-Pointer s ts t to at = refl

pub convert-Tuple-Array : (s : Spot) (ts : List Ty) (t : Ty) (n : ℕ) (to at : ℕ) → convert_code s (ty.Tuple ts) (ty.Array t n) to at ≡ copies s.line to at (words s (ty.Tuple ts))
unfolding hidden-the_row-Ty-0 hidden-the_row-Ty-1 hidden
convert-Tuple-Array s ts t n to at = refl

pub convert-Tuple-Chan : (s : Spot) (ts : List Ty) (t : Ty) (n : ℕ) (to at : ℕ) → convert_code s (ty.Tuple ts) (ty.Chan t n) to at ≡ copies s.line to at (words s (ty.Tuple ts))
unfolding hidden-the_row-Ty-0 hidden-the_row-Ty-1 hidden
convert-Tuple-Chan s ts t n to at = refl

pub convert-Tuple-Aggregate : (s : Spot) (ts : List Ty) (n : ℕ) (to at : ℕ) → convert_code s (ty.Tuple ts) (ty.Aggregate n) to at ≡ copies s.line to at (words s (ty.Tuple ts))
unfolding hidden-the_row-Ty-0 hidden-the_row-Ty-1 hidden
convert-Tuple-Aggregate s ts n to at = refl

pub convert-Tuple-Function : (s : Spot) (ts : List Ty) (t : Ty) (us : List Ty) (to at : ℕ) → convert_code s (ty.Tuple ts) (ty.Function t us) to at ≡ copies s.line to at (words s (ty.Tuple ts))
unfolding hidden-the_row-Ty-0 hidden-the_row-Ty-1 hidden
convert-Tuple-Function s ts t us to at = refl

pub convert-Void : (s : Spot) (into : Ty) (to at : ℕ) → convert_code s ty.Void into to at ≡ copies s.line to at (words s ty.Void)
unfolding hidden-the_row-Ty-0 hidden-the_row-Ty-1 hidden
convert-Void s into to at = refl

pub convert-Pointer : (s : Spot) (t : Ty) (into : Ty) (to at : ℕ) → convert_code s (ty.Pointer t) into to at ≡ copies s.line to at (words s (ty.Pointer t))
unfolding hidden-the_row-Ty-0 hidden-the_row-Ty-1 hidden
convert-Pointer s t into to at = refl

pub convert-Array : (s : Spot) (t : Ty) (n : ℕ) (into : Ty) (to at : ℕ) → convert_code s (ty.Array t n) into to at ≡ copies s.line to at (words s (ty.Array t n))
unfolding hidden-the_row-Ty-0 hidden-the_row-Ty-1 hidden
convert-Array s t n into to at = refl

pub convert-Chan : (s : Spot) (t : Ty) (n : ℕ) (into : Ty) (to at : ℕ) → convert_code s (ty.Chan t n) into to at ≡ copies s.line to at (words s (ty.Chan t n))
unfolding hidden-the_row-Ty-0 hidden-the_row-Ty-1 hidden
convert-Chan s t n into to at = refl

pub convert-Aggregate : (s : Spot) (n : ℕ) (into : Ty) (to at : ℕ) → convert_code s (ty.Aggregate n) into to at ≡ copies s.line to at (words s (ty.Aggregate n))
unfolding hidden-the_row-Ty-0 hidden-the_row-Ty-1 hidden
convert-Aggregate s n into to at = refl

pub convert-Function : (s : Spot) (t : Ty) (ts : List Ty) (into : Ty) (to at : ℕ) → convert_code s (ty.Function t ts) into to at ≡ copies s.line to at (words s (ty.Function t ts))
unfolding hidden-the_row-Ty-0 hidden-the_row-Ty-1 hidden
convert-Function s t ts into to at = refl

pub ruleset integers_convert = (convert-Integer-Integer, convert-Integer-Void, convert-Integer-Pointer, convert-Integer-Array, convert-Integer-Chan, convert-Integer-Tuple, convert-Integer-Aggregate, convert-Integer-Function)

pub ruleset tuples_convert = (convert-Tuple-Void, convert-Tuple-Integer, convert-Tuple-Pointer, convert-Tuple-Array, convert-Tuple-Chan, convert-Tuple-Aggregate, convert-Tuple-Function)

pub ruleset others_convert = (convert-Void, convert-Pointer, convert-Array, convert-Chan, convert-Aggregate, convert-Function)

-- ---- tuples part by part

convert-parts : (s : Spot) (t u : Ty) (ts us : List Ty) (to at : ℕ) → convert_code s (ty.Tuple (t ∷ ts)) (ty.Tuple (u ∷ us)) to at
    ≡ convert_code s t u to at ++ convert_code s (ty.Tuple ts) (ty.Tuple us) (to + words s u) (at + words s t)
unfolding hidden-the_row-Ty-1 hidden
convert-parts s t u ts us to at = refl

convert-no_part : (s : Spot) (us : List Ty) (to at : ℕ) → convert_code s (ty.Tuple []) (ty.Tuple us) to at ≡ []
unfolding hidden-the_row-Ty-1 hidden
convert-no_part s us to at = refl

convert-to_none : (s : Spot) (ts : List Ty) (to at : ℕ) → convert_code s (ty.Tuple ts) (ty.Tuple []) to at ≡ []
unfolding hidden-the_row-Ty-1 hidden
convert-to_none s [] to at = refl
convert-to_none s (t ∷ ts) to at = refl

-- no part is left on one side, or on the other
pub done_from : (s : Spot) (from into : List Ty) (i to at : ℕ) (out all : List Operation) → length from ≤ i
    → out ++ convert_code s (ty.Tuple (drop i from)) (ty.Tuple (drop i into)) to at ≡ all → out ≡ all
done_from s from into i to at out all h so_far =
    sym (append-nil out)
    ∙ ap (λ (os : List Operation). out ++ os) (sym (at_drop_all (λ (ts : List Ty). convert_code s (ty.Tuple ts) (ty.Tuple (drop i into)) to at) from i h ∙ convert-no_part s (drop i into) to at))
    ∙ so_far

pub done_into : (s : Spot) (from into : List Ty) (i to at : ℕ) (out all : List Operation) → length into ≤ i
    → out ++ convert_code s (ty.Tuple (drop i from)) (ty.Tuple (drop i into)) to at ≡ all → out ≡ all
done_into s from into i to at out all h so_far =
    sym (append-nil out)
    ∙ ap (λ (os : List Operation). out ++ os) (sym (at_drop_all (λ (ts : List Ty). convert_code s (ty.Tuple (drop i from)) (ty.Tuple ts) to at) into i h ∙ convert-to_none s (drop i from) to at))
    ∙ so_far

-- one part more
pub one_converted : (s : Spot) (from into : List Ty) (i : ℕ) (t u : Ty) (to at : ℕ) (out all : List Operation)
    → i < length from → t ≡ get_or from i t → i < length into → u ≡ get_or into i u
    → out ++ convert_code s (ty.Tuple (drop i from)) (ty.Tuple (drop i into)) to at ≡ all
    → (out ++ convert_code s t u to at) ++ convert_code s (ty.Tuple (drop (i + 1) from)) (ty.Tuple (drop (i + 1) into)) (to + words s u) (at + words s t) ≡ all
one_converted s from into i t u to at out all h is k iu so_far =
    append_assoc out (convert_code s t u to at) _
    ∙ ap (λ (os : List Operation). out ++ os)
    (sym (ap₂ (λ (a b : List Ty). convert_code s (ty.Tuple a) (ty.Tuple b) to at) (at_hand from i t h is) (at_hand into i u k iu)
    ∙ convert-parts s t u (drop (i + 1) from) (drop (i + 1) into) to at))
    ∙ so_far
