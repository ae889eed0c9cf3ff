-- Of two types that are the same both may be private, or none.
use Rattle.std.proofs.Common.{◌≡◌, true, false, List, Option, Some, None, refl, sym, ap, ◌∙◌, subst}
use Rattle.al_typed.specs.declared.ty.Ty.{Ty, roll-Ty}
use Rattle.al_typed.specs.declared.ty.Ty.TheOpen.{Ty-F}
use Rattle.al_typed.specs.declared.ty.Ty.TheVariants as ty
use Rattle.al_typed.specs.declared.ty.Ty.TheViews.{out-Ty, roll-out-Ty}
use Rattle.al_typed.specs.Types.{may_be_private, may_be_private_at}
use Rattle.al_convert.specs.Same.{are_same, array_element, parameters_of, passes, returns_of, same}
use Rattle.al_convert.proofs.SameIs.{same-Aggregate, same-Array, same-Function, same-Void}
use Rattle.al_sound_operators.proofs.SameTypes.{and_both}
use Rattle.al_sound_operators.proofs.TypeForms.{aggregate_is, array_of_is, function_is, out_at-Aggregate, out_at-Array, out_at-Function, out_at-Void, void_is}

passed : (x : Ty) (o : Option Ty) → passes (same false x) o ≡ true → (y : Ty) × (o ≡ Some y)
passed x None h = absurd (cc)
passed x (Some y) h = (y, refl)

listed : (xs : List Ty) (o : Option (List Ty)) → are_same false xs o ≡ true → (ys : List Ty) × (o ≡ Some ys)
listed xs None h = absurd (cc)
listed xs (Some ys) h = (ys, refl)

-- a form that may not be private
not_private : (b c : Ty) (y : Ty-F Ty) → b ≡ c → out-Ty c ≡ y → may_be_private_at y ≡ false → may_be_private b ≡ true → ⊥
unfolding may_be_private
not_private b c y e o n h = let f : true ≡ false = sym h ∙ ap (λ t. may_be_private_at (out-Ty t)) e ∙ ap may_be_private_at o ∙ n in let g : ⊥ = cc in g

pub private_same : (a b : Ty) → same false a b ≡ true → may_be_private b ≡ true → may_be_private a ≡ true
unfolding may_be_private
private_same a b s h = on (out-Ty a) (sym (roll-out-Ty a))
  where
    on : (y : Ty-F Ty) → a ≡ roll-Ty y → may_be_private_at y ≡ true
    on Ty-F.Void e =
        let k : same false ty.Void b ≡ true = subst (λ t. same false t b ≡ true) (e ∙ ty.rolls-Void) s in
        absurd (not_private b ty.Void Ty-F.Void (void_is b (sym (same-Void false b) ∙ k)) out_at-Void refl h)
    on (Ty-F.Integer kind) e = refl
    on (Ty-F.Pointer to) e = refl
    on (Ty-F.Array x n) e =
        let k : same false (ty.Array x n) b ≡ true = subst (λ t. same false t b ≡ true) (e ∙ ty.rolls-Array x n) s in
        let y = passed x (array_element n b) (sym (same-Array false x n b) ∙ k) in
        absurd (not_private b (ty.Array y.0 n) (Ty-F.Array y.0 n) (array_of_is n b y.0 y.1) (out_at-Array y.0 n) refl h)
    on (Ty-F.Chan element capacity) e = refl
    on (Ty-F.Tuple parts) e = refl
    on (Ty-F.Aggregate n) e =
        let k : same false (ty.Aggregate n) b ≡ true = subst (λ t. same false t b ≡ true) (e ∙ ty.rolls-Aggregate n) s in
        absurd (not_private b (ty.Aggregate n) (Ty-F.Aggregate n) (aggregate_is n b (sym (same-Aggregate false n b) ∙ k)) (out_at-Aggregate n) refl h)
    on (Ty-F.Function x xs) e =
        let k : same false (ty.Function x xs) b ≡ true = subst (λ t. same false t b ≡ true) (e ∙ ty.rolls-Function x xs) s in
        let both = and_both (passes (same false x) (returns_of b)) (are_same false xs (parameters_of b)) (sym (same-Function false x xs b) ∙ k) in
        let y = passed x (returns_of b) both.0 in
        let ys = listed xs (parameters_of b) both.1 in
        absurd (not_private b (ty.Function y.0 ys.0) (Ty-F.Function y.0 ys.0) (function_is b y.0 ys.0 y.1 ys.1) (out_at-Function y.0 ys.0) refl h)
