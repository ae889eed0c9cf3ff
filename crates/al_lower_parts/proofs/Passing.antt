-- How many words of an object are passed.
use Rattle.std.proofs.Common.{◌≡◌, ℕ, List, ◌⊎◌, inl, inr, Result, IfOk, refl, sym, ap, ◌∙◌, subst}
use Rattle.al_typed.specs.declared.ty.Ty.{Ty}
use Rattle.al_typed.specs.declared.expression.Passed.{Passed}
use Rattle.al_typed.specs.declared.expression.Passed.TheVariants as passed
use Rattle.al_lower_code.specs.Homes.{Spot, words}
use Rattle.al_lower_code.specs.Coded.{Coded, Placed}
use Rattle.al_lower_code.specs.Actions.{object_at, object_in}
use Rattle.al_lower_code.specs.Expressions.{received_object}
use Rattle.al_typed.specs.declared.expression.TReceiver.{TReceiver}
use Rattle.al_lower_parts.specs.Parts.{passed_words}

pub object_at_words : (s : Spot) (how : Passed) (t : Ty) (pl : Placed) → (object_at s how t pl).words ≡ passed_words how (words s t)
object_at_words s passed.Address t pl = refl
object_at_words s passed.Value t pl = refl
object_at_words s passed.Nothing t pl = refl

pub no_words : (s : Spot) (how : Passed) (whole part : Ty) (path : List ℕ) (c : Coded) → (how ≡ passed.Address) ⊎ (how ≡ passed.Nothing) → (object_in s how whole part path c).words ≡ 0
no_words s how whole part path c (inl is) = ap (λ (h : Passed). (object_in s h whole part path c).words) is
no_words s how whole part path c (inr is) = ap (λ (h : Passed). (object_in s h whole part path c).words) is

pub given_words : {E : Type 0} (r : Result ℕ E) (s : Spot) (o v : TReceiver) (n : ℕ) → o ≡ v → (received_object s v).words ≡ n → IfOk r (λ k. k ≡ n)
    → IfOk r (λ k. k ≡ (received_object s o).words)
given_words r s o v n is eq found = subst (λ (n : ℕ). IfOk r (λ k. k ≡ n)) (sym (ap (λ (x : TReceiver). (received_object s x).words) is ∙ eq)) found
