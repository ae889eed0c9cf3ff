-- What a conversion does with each kind of type.
use Rattle.std.proofs.Common.{◌≡◌, ℕ, suc, ◌+◌, ◌<◌, ◌≤◌, ◌^◌, min, List, [], ◌∷◌, ◌++◌, take, drop, length, get_or, refl, sym, ap, ap₂, ◌∙◌, inl, inr, append_assoc, Result, Ok, Err, IfOk, arith}
use Rattle.std.proofs.Math.Seq.{drop-cons}
use Rattle.std.proofs.lemmas.Bool.{cases_lt}
use Rattle.std.proofs.lemmas.List.{append-nil, drop_all, take_all}
use Rattle.al_typed.specs.Capped.{capped}
use Rattle.al_base.specs.Arith.{width_of, wrapped, integer_of}
use Rattle.al_base.specs.declared.arith.Kind.{Kind}
use Rattle.al_typed.specs.declared.program.Aggregate.{Aggregate}
use Rattle.al_typed.specs.declared.ty.Ty.{Ty}
use Rattle.al_typed.specs.declared.ty.Ty.TheVariants as ty
use Rattle.al_typed.specs.declared.ty.Ty.TheBlock.{hidden-the_row-Ty-0, hidden-the_row-Ty-1}
use denote.Hole.Carrier.{hidden}
use Rattle.al_typed.specs.Layout.{words_of}
use Rattle.al_meaning.specs.Words.{bits_of, integer_words, converted}

pub converted-Integer-Integer : (rows : List Aggregate) (k j : Kind) (ws : List ℕ)
    → converted rows (ty.Integer k) (ty.Integer j) ws ≡ integer_words j (wrapped (width_of j) (integer_of k (bits_of ws)))
converted-Integer-Integer rows k j ws = refl

pub converted-Integer-Void : (rows : List Aggregate) (k : Kind) (ws : List ℕ) → converted rows (ty.Integer k) ty.Void ws ≡ ws
unfolding hidden-the_row-Ty-0 hidden-the_row-Ty-1 hidden
converted-Integer-Void rows k ws = refl

pub converted-Integer-Pointer : (rows : List Aggregate) (k : Kind) (t : Ty) (ws : List ℕ) → converted rows (ty.Integer k) (ty.Pointer t) ws ≡ ws
unfolding hidden-the_row-Ty-0 hidden-the_row-Ty-1 hidden
converted-Integer-Pointer rows k t ws = refl

pub converted-Integer-Array : (rows : List Aggregate) (k : Kind) (t : Ty) (n : ℕ) (ws : List ℕ) → converted rows (ty.Integer k) (ty.Array t n) ws ≡ ws
unfolding hidden-the_row-Ty-0 hidden-the_row-Ty-1 hidden
converted-Integer-Array rows k t n ws = refl

pub converted-Integer-Chan : (rows : List Aggregate) (k : Kind) (t : Ty) (n : ℕ) (ws : List ℕ) → converted rows (ty.Integer k) (ty.Chan t n) ws ≡ ws
unfolding hidden-the_row-Ty-0 hidden-the_row-Ty-1 hidden
converted-Integer-Chan rows k t n ws = refl

pub converted-Integer-Tuple : (rows : List Aggregate) (k : Kind) (ts : List Ty) (ws : List ℕ) → converted rows (ty.Integer k) (ty.Tuple ts) ws ≡ ws
unfolding hidden-the_row-Ty-0 hidden-the_row-Ty-1 hidden
converted-Integer-Tuple rows k ts ws = refl

pub converted-Integer-Aggregate : (rows : List Aggregate) (k : Kind) (n : ℕ) (ws : List ℕ) → converted rows (ty.Integer k) (ty.Aggregate n) ws ≡ ws
unfolding hidden-the_row-Ty-0 hidden-the_row-Ty-1 hidden
converted-Integer-Aggregate rows k n ws = refl

pub converted-Integer-Function : (rows : List Aggregate) (k : Kind) (t : Ty) (ts : List Ty) (ws : List ℕ) → converted rows (ty.Integer k) (ty.Function t ts) ws ≡ ws
unfolding hidden-the_row-Ty-0 hidden-the_row-Ty-1 hidden
converted-Integer-Function rows k t ts ws = refl

pub ruleset integer_conversions = (converted-Integer-Integer, converted-Integer-Void, converted-Integer-Pointer, converted-Integer-Array, converted-Integer-Chan, converted-Integer-Tuple, converted-Integer-Aggregate, converted-Integer-Function)

pub converted-Tuple-Void : (rows : List Aggregate) (us : List Ty) (ws : List ℕ) → converted rows (ty.Tuple us) ty.Void ws ≡ ws
unfolding hidden-the_row-Ty-0 hidden-the_row-Ty-1 hidden
converted-Tuple-Void rows us ws = refl

pub converted-Tuple-Integer : (rows : List Aggregate) (us : List Ty) (j : Kind) (ws : List ℕ) → converted rows (ty.Tuple us) (ty.Integer j) ws ≡ ws
unfolding hidden-the_row-Ty-0 hidden-the_row-Ty-1 hidden
converted-Tuple-Integer rows us j ws = refl

pub converted-Tuple-Pointer : (rows : List Aggregate) (us : List Ty) (t : Ty) (ws : List ℕ) → converted rows (ty.Tuple us) (ty.Pointer t) ws ≡ ws
unfolding hidden-the_row-Ty-0 hidden-the_row-Ty-1 hidden
converted-Tuple-Pointer rows us t ws = refl

pub converted-Tuple-Array : (rows : List Aggregate) (us : List Ty) (t : Ty) (n : ℕ) (ws : List ℕ) → converted rows (ty.Tuple us) (ty.Array t n) ws ≡ ws
unfolding hidden-the_row-Ty-0 hidden-the_row-Ty-1 hidden
converted-Tuple-Array rows us t n ws = refl

pub converted-Tuple-Chan : (rows : List Aggregate) (us : List Ty) (t : Ty) (n : ℕ) (ws : List ℕ) → converted rows (ty.Tuple us) (ty.Chan t n) ws ≡ ws
unfolding hidden-the_row-Ty-0 hidden-the_row-Ty-1 hidden
converted-Tuple-Chan rows us t n ws = refl

pub converted-Tuple-Aggregate : (rows : List Aggregate) (us : List Ty) (n : ℕ) (ws : List ℕ) → converted rows (ty.Tuple us) (ty.Aggregate n) ws ≡ ws
unfolding hidden-the_row-Ty-0 hidden-the_row-Ty-1 hidden
converted-Tuple-Aggregate rows us n ws = refl

pub converted-Tuple-Function : (rows : List Aggregate) (us : List Ty) (t : Ty) (ts : List Ty) (ws : List ℕ) → converted rows (ty.Tuple us) (ty.Function t ts) ws ≡ ws
unfolding hidden-the_row-Ty-0 hidden-the_row-Ty-1 hidden
converted-Tuple-Function rows us t ts ws = refl

pub ruleset tuple_conversions = (converted-Tuple-Void, converted-Tuple-Integer, converted-Tuple-Pointer, converted-Tuple-Array, converted-Tuple-Chan, converted-Tuple-Aggregate, converted-Tuple-Function)

pub converted-Void : (rows : List Aggregate) (to : Ty) (ws : List ℕ) → converted rows ty.Void to ws ≡ ws
unfolding hidden-the_row-Ty-0 hidden-the_row-Ty-1 hidden
converted-Void rows to ws = refl

pub converted-Pointer : (rows : List Aggregate) (t : Ty) (to : Ty) (ws : List ℕ) → converted rows (ty.Pointer t) to ws ≡ ws
unfolding hidden-the_row-Ty-0 hidden-the_row-Ty-1 hidden
converted-Pointer rows t to ws = refl

pub converted-Array : (rows : List Aggregate) (t : Ty) (n : ℕ) (to : Ty) (ws : List ℕ) → converted rows (ty.Array t n) to ws ≡ ws
unfolding hidden-the_row-Ty-0 hidden-the_row-Ty-1 hidden
converted-Array rows t n to ws = refl

pub converted-Chan : (rows : List Aggregate) (t : Ty) (n : ℕ) (to : Ty) (ws : List ℕ) → converted rows (ty.Chan t n) to ws ≡ ws
unfolding hidden-the_row-Ty-0 hidden-the_row-Ty-1 hidden
converted-Chan rows t n to ws = refl

pub converted-Aggregate : (rows : List Aggregate) (n : ℕ) (to : Ty) (ws : List ℕ) → converted rows (ty.Aggregate n) to ws ≡ ws
unfolding hidden-the_row-Ty-0 hidden-the_row-Ty-1 hidden
converted-Aggregate rows n to ws = refl

pub converted-Function : (rows : List Aggregate) (t : Ty) (ts : List Ty) (to : Ty) (ws : List ℕ) → converted rows (ty.Function t ts) to ws ≡ ws
unfolding hidden-the_row-Ty-0 hidden-the_row-Ty-1 hidden
converted-Function rows t ts to ws = refl

pub ruleset conversions = (converted-Void, converted-Pointer, converted-Array, converted-Chan, converted-Aggregate, converted-Function)

-- ---- tuples part by part

pub converted-parts : (rows : List Aggregate) (t u : Ty) (ts us : List Ty) (ws : List ℕ)
    → converted rows (ty.Tuple (t ∷ ts)) (ty.Tuple (u ∷ us)) ws
    ≡ converted rows t u (take (words_of rows t) ws) ++ converted rows (ty.Tuple ts) (ty.Tuple us) (drop (words_of rows t) ws)
unfolding hidden-the_row-Ty-1 hidden
converted-parts rows t u ts us ws = refl

pub converted-no_part : (rows : List Aggregate) (us : List Ty) (ws : List ℕ) → converted rows (ty.Tuple []) (ty.Tuple us) ws ≡ []
unfolding hidden-the_row-Ty-1 hidden
converted-no_part rows us ws = refl

pub converted-to_none : (rows : List Aggregate) (ts : List Ty) (ws : List ℕ) → converted rows (ty.Tuple ts) (ty.Tuple []) ws ≡ []
unfolding hidden-the_row-Ty-1 hidden
converted-to_none rows [] ws = refl
converted-to_none rows (t ∷ ts) ws = refl

-- where a list is cut, and where it is cut by as much of that number as a word and the list have
cut : (n count : ℕ) (xs : List ℕ) → length xs < 2 ^ 64 → count ≡ min (capped n) (length xs) → take count xs ≡ take n xs
cut n count xs h e =
    elim (cases_lt n (length xs)) [
      | inl within ↦ let e' : count ≡ n = omega arith in ap (λ k. take k xs) e'
      | inr past ↦ take_all count xs (omega arith) ∙ sym (take_all n xs (omega arith))
    ]

left : (n count : ℕ) (xs : List ℕ) → length xs < 2 ^ 64 → count ≡ min (capped n) (length xs) → drop count xs ≡ drop n xs
left n count xs h e =
    elim (cases_lt n (length xs)) [
      | inl within ↦ let e' : count ≡ n = omega arith in ap (λ k. drop k xs) e'
      | inr past ↦ drop_all count xs (omega arith) ∙ sym (drop_all n xs (omega arith))
    ]

at_hand : {A : Type 0} (xs : List A) (i : ℕ) (x : A) → i < length xs → x ≡ get_or xs i x → drop i xs ≡ x ∷ drop (i + 1) xs
at_hand xs i x h is = drop-cons xs i x h ∙ ap (λ y. y ∷ drop (suc i) xs) (sym is) ∙ ap (λ (k : ℕ). x ∷ drop k xs) (next i)
  where
    next : (i : ℕ) → suc i ≡ i + 1
    next i = omega arith

-- an integer, where it is known that the type is one
pub integer_converted : {E : Type 0} (r : Result (List ℕ) E) (rows : List Aggregate) (k : Kind) (from to : Ty) (ws : List ℕ) → from ≡ ty.Integer k
    → IfOk r (λ x. (rows : List Aggregate) → x ≡ converted rows (ty.Integer k) to ws) → IfOk r (λ x. x ≡ converted rows from to ws)
integer_converted (Ok x) rows k from to ws e h = h rows ∙ ap (λ f. converted rows f to ws) (sym e)
integer_converted (Err x) rows k from to ws e h = tt

-- one part more is converted
pub part_done : (rows : List Aggregate) (from to : List Ty) (i : ℕ) (t u : Ty) (out rest part front back all : List ℕ) (count : ℕ)
    → i < length from → t ≡ get_or from i t → i < length to → u ≡ get_or to i u
    → length rest < 2 ^ 64 → count ≡ min (capped (words_of rows t)) (length rest)
    → front ≡ take count rest → back ≡ drop count rest → part ≡ converted rows t u front
    → out ++ converted rows (ty.Tuple (drop i from)) (ty.Tuple (drop i to)) rest ≡ all
    → (out ++ part) ++ converted rows (ty.Tuple (drop (i + 1) from)) (ty.Tuple (drop (i + 1) to)) back ≡ all
part_done rows from to i t u out rest part front back all count h is k iu few e f b p so_far =
    append_assoc out part _
    ∙ ap (λ ws. out ++ ws)
    (ap₂ (λ (a b : List ℕ). a ++ converted rows (ty.Tuple (drop (i + 1) from)) (ty.Tuple (drop (i + 1) to)) b)
    (p ∙ ap (converted rows t u) (f ∙ cut (words_of rows t) count rest few e)) (b ∙ left (words_of rows t) count rest few e)
    ∙ sym (converted-parts rows t u (drop (i + 1) from) (drop (i + 1) to) rest)
    ∙ sym (ap₂ (λ (ts us : List Ty). converted rows (ty.Tuple ts) (ty.Tuple us) rest) (at_hand from i t h is) (at_hand to i u k iu)))
    ∙ so_far

-- no part is left
pub parts_over : (rows : List Aggregate) (from to : List Ty) (i : ℕ) (out rest all : List ℕ) → length from ≤ i
    → out ++ converted rows (ty.Tuple (drop i from)) (ty.Tuple (drop i to)) rest ≡ all → out ≡ all
parts_over rows from to i out rest all h so_far =
    sym (append-nil out) ∙ ap (λ ws. out ++ ws) (sym (converted-no_part rows (drop i to) rest) ∙ ap (λ ts. converted rows (ty.Tuple ts) (ty.Tuple (drop i to)) rest) (sym (drop_all i from h)))
    ∙ so_far

pub targets_over : (rows : List Aggregate) (from to : List Ty) (i : ℕ) (out rest all : List ℕ) → length to ≤ i
    → out ++ converted rows (ty.Tuple (drop i from)) (ty.Tuple (drop i to)) rest ≡ all → out ≡ all
targets_over rows from to i out rest all h so_far =
    sym (append-nil out) ∙ ap (λ ws. out ++ ws) (sym (converted-to_none rows (drop i from) rest) ∙ ap (λ ts. converted rows (ty.Tuple (drop i from)) (ty.Tuple ts) rest) (sym (drop_all i to h)))
    ∙ so_far
