-- Running sums against the sums that they stand for.
use Rattle.std.proofs.Common.{◌≡◌, ℕ, ◌+◌, ◌<◌, ◌^◌, max, List, [], ◌∷◌, ap, sym, ◌∙◌, arith}
use Rattle.std.specs.Prelude.{fold, sum_by}
use Rattle.std.proofs.lemmas.List.Sums.{sum_by-cons}
use Rattle.al_typed.specs.Capped.{capped}
use Rattle.al_typed.specs.declared.tally.Tally.{Tally}
use Rattle.al_typed.specs.declared.measure.Totals.{Totals}
use Rattle.al_typed.specs.declared.piece.Piece.{Piece}
use Rattle.al_typed.specs.declared.program.Program.{Program}
use Rattle.al_typed.specs.declared.program.Function.{Function as FunctionRow}
use Rattle.al_typed.specs.Measures.{weight_of, slots_of, width_of, greatest_by, counted, tallied, function_weight, function_slots, slots_with, function_width, with_function, no_pieces, no_functions, pieces_of}

capped_more : (a b c : ℕ) → capped (capped (a + b) + c) ≡ capped (a + (b + c))
capped_more a b c = omega arith

capped_small : (n : ℕ) → capped n < 2 ^ 64
capped_small n = omega arith

greater_more : (a b c : ℕ) → max (max a (capped b)) (capped c) ≡ max a (capped (max b c))
greater_more a b c = omega arith

greater_small : (a b : ℕ) → a < 2 ^ 64 → max a (capped b) < 2 ^ 64
greater_small a b h = omega arith

pub tallied-weight : (p : Program) (s : Tally) (xs : List Piece) → s.weight < 2 ^ 64 → (tallied p s xs).weight ≡ capped (s.weight + sum_by (weight_of p) xs)
unfolding tallied counted
tallied-weight p s [] h = omega arith
tallied-weight p s (x ∷ xs) h = tallied-weight p (counted p s x) xs (capped_small (s.weight + weight_of p x)) ∙ capped_more s.weight (weight_of p x) (sum_by (weight_of p) xs)
    ∙ ap (λ n. capped (s.weight + n)) (sym (sum_by-cons (weight_of p) x xs))

pub tallied-slots : (p : Program) (s : Tally) (xs : List Piece) → s.slots < 2 ^ 64 → (tallied p s xs).slots ≡ capped (s.slots + sum_by (slots_of p) xs)
unfolding tallied counted
tallied-slots p s [] h = omega arith
tallied-slots p s (x ∷ xs) h = tallied-slots p (counted p s x) xs (capped_small (s.slots + slots_of p x)) ∙ capped_more s.slots (slots_of p x) (sum_by (slots_of p) xs)
    ∙ ap (λ n. capped (s.slots + n)) (sym (sum_by-cons (slots_of p) x xs))

pub tallied-width : (p : Program) (s : Tally) (xs : List Piece) → s.width < 2 ^ 64 → (tallied p s xs).width ≡ max s.width (capped (greatest_by (width_of p) xs))
unfolding tallied counted
tallied-width p s [] h = omega arith
tallied-width p s (x ∷ xs) h = tallied-width p (counted p s x) xs (greater_small s.width _ h) ∙ greater_more s.width (width_of p x) (greatest_by (width_of p) xs)

-- ---- all functions

pub totals-wide : (p : Program) (s : Totals) (fs : List FunctionRow) → s.wide < 2 ^ 64
    → (fold (with_function p) s fs).wide ≡ max s.wide (capped (greatest_by (function_width p) fs))
unfolding with_function
totals-wide p s [] h = omega arith
totals-wide p s (f ∷ fs) h = totals-wide p (with_function p s f) fs (greater_small s.wide _ h) ∙ greater_more s.wide (function_width p f) (greatest_by (function_width p) fs)

pub totals-weight : (p : Program) (s : Totals) (fs : List FunctionRow) → s.weight < 2 ^ 64
    → (fold (with_function p) s fs).weight ≡ capped (s.weight + sum_by (function_weight p) fs)
unfolding with_function
totals-weight p s [] h = omega arith
totals-weight p s (f ∷ fs) h = totals-weight p (with_function p s f) fs (capped_small (s.weight + function_weight p f)) ∙ capped_more s.weight (function_weight p f) (sum_by (function_weight p) fs)
    ∙ ap (λ n. capped (s.weight + n)) (sym (sum_by-cons (function_weight p) f fs))

pub totals-greatest : (p : Program) (s : Totals) (fs : List FunctionRow) → s.greatest < 2 ^ 64
    → (fold (with_function p) s fs).greatest ≡ max s.greatest (capped (greatest_by (function_weight p) fs))
unfolding with_function
totals-greatest p s [] h = omega arith
totals-greatest p s (f ∷ fs) h = totals-greatest p (with_function p s f) fs (greater_small s.greatest _ h) ∙ greater_more s.greatest (function_weight p f) (greatest_by (function_weight p) fs)

pub totals-slots : (p : Program) (s : Totals) (fs : List FunctionRow) → s.slots < 2 ^ 64
    → (fold (with_function p) s fs).slots ≡ max s.slots (capped (greatest_by (function_slots p) fs))
unfolding with_function
totals-slots p s [] h = omega arith
totals-slots p s (f ∷ fs) h = totals-slots p (with_function p s f) fs (greater_small s.slots _ h) ∙ greater_more s.slots (function_slots p f) (greatest_by (function_slots p) fs)

pub wide_is : (p : Program) → (fold (with_function p) no_functions p.functions).wide ≡ capped (greatest_by (function_width p) p.functions)
wide_is p = totals-wide p no_functions p.functions (omega arith) ∙ omega arith

pub weight_is : (p : Program) → (fold (with_function p) no_functions p.functions).weight ≡ capped (sum_by (function_weight p) p.functions)
weight_is p = totals-weight p no_functions p.functions (omega arith) ∙ omega arith

pub greatest_is : (p : Program) → (fold (with_function p) no_functions p.functions).greatest ≡ capped (greatest_by (function_weight p) p.functions)
greatest_is p = totals-greatest p no_functions p.functions (omega arith) ∙ omega arith

pub slots_is : (p : Program) → (fold (with_function p) no_functions p.functions).slots ≡ capped (greatest_by (function_slots p) p.functions)
slots_is p = totals-slots p no_functions p.functions (omega arith) ∙ omega arith

pub ruleset totals_are = (wide_is, weight_is, greatest_is, slots_is)

pub tally-weight : (p : Program) (f : FunctionRow) → (tallied p no_pieces (pieces_of f)).weight ≡ capped (function_weight p f)
tally-weight p f = tallied-weight p no_pieces (pieces_of f) (omega arith) ∙ omega arith

pub tally-slots : (p : Program) (f : FunctionRow) → (tallied p no_pieces (pieces_of f)).slots ≡ capped (sum_by (slots_of p) (pieces_of f))
tally-slots p f = tallied-slots p no_pieces (pieces_of f) (omega arith) ∙ omega arith

pub tally-width : (p : Program) (f : FunctionRow) → (tallied p no_pieces (pieces_of f)).width ≡ capped (greatest_by (width_of p) (pieces_of f))
tally-width p f = tallied-width p no_pieces (pieces_of f) (omega arith) ∙ omega arith

-- slots that are capped once or twice
pub slots-capped : (p : Program) (f : FunctionRow) → capped (slots_with p f (tallied p no_pieces (pieces_of f)).slots) ≡ capped (function_slots p f)
slots-capped p f = ap (λ n. capped (slots_with p f n)) (tally-slots p f) ∙ twice _ _ _ _ _
  where
    twice : (a b c d n : ℕ) → capped (16 + (a + (b + (c + (d + capped n))))) ≡ capped (16 + (a + (b + (c + (d + n)))))
    twice a b c d n = omega arith

pub ruleset tally_is = (tally-weight, tally-width, slots-capped)
