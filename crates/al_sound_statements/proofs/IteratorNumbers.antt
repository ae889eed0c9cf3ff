-- The numbers of iterators in an expression statement: each is less than how many there are.
use Rattle.std.proofs.Common.{◌≡◌, ℕ, suc, ◌+◌, ◌<◌, Bool, true, false, List, [], ◌∷◌, ◌++◌, length, Some, refl, sym, ◌∙◌, arith}
use Rattle.std.specs.Prelude.{find, if◌then◌else◌, nat_le, option_map}
use Rattle.al_base.specs.declared.place.Place.{Place}
use Rattle.al_rules.specs.Outcome.{same_place}
use Rattle.al_environment.specs.declared.environment.Environment.{Environment}
use Rattle.al_environment.specs.declared.environment.Here.{Here}
use Rattle.al_environment.specs.declared.numbered.Numbered.{Numbered}
use Rattle.al_environment.specs.Firsts.{number_at}
use Rattle.al_tree.specs.declared.expression.Expr.{Expr}
use Rattle.al_type_stmt.specs.Iterators.{Spread, iterators, numbered, with_iterators}
use Rattle.al_sound_operators.proofs.TypeForms.{some_is}

one_less : (from count n : ℕ) → n < (from + 1) + count → n < from + suc count
one_less from count n h = omega arith

subst_zero : (count n : ℕ) → n < 0 + count → n < count
subst_zero count n h = omega arith

first_less : (from count n : ℕ) → from ≡ n → n < from + suc count
first_less from count n h = omega arith

-- what is found in a list with one more before it
found_first : (from : ℕ) (here : Numbered) (rest : List Numbered) (at : Place) (n count : ℕ) → here.number ≡ from → (number_at rest at ≡ Some n → n < (from + 1) + count)
    → (same : Bool) → option_map (λ (x : Numbered). x.number) (if same then Some here else find (λ (x : Numbered). same_place x.at at) rest) ≡ Some n → n < from + suc count
unfolding number_at
found_first from here rest at n count is k true h = first_less from count n (sym is ∙ some_is h)
found_first from here rest at n count is k false h = one_less from count n (k h)

found_in : (from : ℕ) (here : Numbered) (rest : List Numbered) (at : Place) (n count : ℕ) → here.number ≡ from → (number_at rest at ≡ Some n → n < (from + 1) + count)
    → (fits : Bool) → number_at ((if fits then here ∷ [] else []) ++ rest) at ≡ Some n → n < from + suc count
unfolding number_at
found_in from here rest at n count is k true h = found_first from here rest at n count is k (same_place here.at at) h
found_in from here rest at n count is k false h = one_less from count n (k h)

none_found : (at : Place) (n : ℕ) {X : Type 0} → number_at [] at ≡ Some n → X
unfolding number_at
none_found at n h = absurd (cc)

below : (from : ℕ) (ss : List Spread) (at : Place) (n : ℕ) → number_at (numbered from ss) at ≡ Some n → n < from + length ss
below from [] at n h = none_found at n h
below from (s ∷ ss) at n h =
    found_in from (record { at = s.0; number = from }) (numbered (from + 1) ss) at n (length ss) refl (below (from + 1) ss at n) (nat_le from 4294967295) h

-- what `IsFit` asks of an iterator, where the iterators of a statement are at hand
pub numbers_are_below : (env : Environment) (here : Here) (e : Expr) (at : Place) (n : ℕ)
    → number_at (with_iterators here (iterators env here e)).iterators at ≡ Some n → n < length (iterators env here e)
numbers_are_below env here e at n h = subst_zero (length (iterators env here e)) n (below 0 (iterators env here e) at n h)
