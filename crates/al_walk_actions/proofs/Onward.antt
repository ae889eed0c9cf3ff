-- Results that go on as others do.
use Rattle.std.proofs.Common.{◌≡◌, Result, Ok, Err, IfOk, ◌∙◌}
use Rattle.std.specs.Prelude.{IfErr}
use Rattle.std.proofs.lemmas.Result.{IfOk-weaker}
use Rattle.al_control.specs.Fits.{Explains}
use Rattle.al_control.specs.declared.unmade.Unmade.{Unmade}
use Rattle.al_control.specs.declared.unmade.Unmade.TheVariants.{NoMemory, TooLarge}

-- what is the same as one thing is the same as another
pub goes : {A B E : Type 0} (r : Result A E) (f : A → B) (x y : B) → x ≡ y → IfOk r (λ a. f a ≡ x) → IfOk r (λ a. f a ≡ y)
goes r f x y e is = IfOk-weaker r _ _ (λ a (e' : f a ≡ x). e' ∙ e) is

-- what does not fit does not fit where less is asked
pub explained : {A : Type 0} (r : Result A Unmade) (P Q : Type 0) → (Q → P) → IfErr r (λ e. Explains e P) → IfErr r (λ e. Explains e Q)
explained (Ok x) P Q f h = h
explained (Err NoMemory) P Q f h = h
explained (Err TooLarge) P Q f h = λ q. h (f q)
