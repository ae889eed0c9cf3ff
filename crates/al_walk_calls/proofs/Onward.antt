-- Results that go on as others do.
use Rattle.std.proofs.Common.{◌≡◌, ℕ, ◌<◌, List, length, get_or, Some, None, Result, Ok, Err, IfOk, IsTrue, false, true, sym, ap, subst, ◌∙◌, inl, inr}
use Rattle.std.specs.Prelude.{IfErr, slice_get}
use Rattle.std.proofs.lemmas.Bool.{cases_lt}
use Rattle.std.proofs.lemmas.Option.{slice_get-get_or, slice_get_past}
use Rattle.std.proofs.lemmas.Result.{IfOk-weaker}
use Rattle.al_control.specs.Fits.{Explains}
use Rattle.al_control.specs.declared.unmade.Unmade.{Unmade}
use Rattle.al_control.specs.declared.unmade.Unmade.TheVariants.{NoMemory, TooLarge}

-- what is the same as one thing is the same as another
pub goes : {A B E : Type 0} (r : Result A E) (f : A → B) (x y : B) → x ≡ y → IfOk r (λ a. f a ≡ x) → IfOk r (λ a. f a ≡ y)
goes r f x y e is = IfOk-weaker r _ _ (λ a (e' : f a ≡ x). e' ∙ e) is

-- what does not fit does not fit where less is asked
pub explained : {A : Type 0} (r : Result A Unmade) (P Q : Type 0) → (Q → P) → IfErr r (λ e. Explains e P) → IfErr r (λ e. Explains e Q)
explained (Ok x) P Q f h = h
explained (Err NoMemory) P Q f h = h
explained (Err TooLarge) P Q f h = λ q. h (f q)

-- the element of a number
pub numbered : {A : Type 0} (xs ys : List A) (k : ℕ) (x : A) → xs ≡ ys → k < length ys → x ≡ get_or xs k x → Some x ≡ slice_get ys k
numbered {A} xs ys k x same within is =
    let there : k < length xs = subst (λ (zs : List A). k < length zs) (sym same) within in
    ap Some is ∙ sym (slice_get-get_or xs k x there) ∙ ap (λ zs. slice_get zs k) same

-- a number that none has
pub unnumbered : {A : Type 0} (xs : List A) (k : ℕ) → (k < length xs → IsTrue false) → None ≡ slice_get xs k
unnumbered xs k past =
    elim (cases_lt k (length xs)) [
      | inl within ↦ (let none : false ≡ true = past within in cc)
      | inr beyond ↦ sym (slice_get_past xs k beyond)
    ]
