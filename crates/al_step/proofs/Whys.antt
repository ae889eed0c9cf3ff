-- Why a step is not made, at the error of a call.
use Rattle.std.proofs.Common.{◌≡◌, Result, Err, IfErr, sym, subst}
use Rattle.al_control.specs.declared.unmade.Unmade.{Unmade}
use Rattle.al_control.specs.declared.unmade.Unmade.TheVariants.{NoMemory}
use Rattle.al_control.specs.Fits.{Explains}
use Rattle.al_opening.proofs.Explained.{explains}

pub why_else : {T : Type 0} (r : Result T Unmade) (e : Unmade) (A B : Type 0) → r ≡ Err e → (B → A) → Explains e A → IfErr r (λ e. Explains e B)
why_else {T} r e A B is f why = let P : Result T Unmade → Type 0 = λ r. IfErr r (λ e. Explains e B) in subst P (sym is) (explains e A B f why)

pub no_memory_explains : {T : Type 0} (r : Result T Unmade) (B : Type 0) → r ≡ Err NoMemory → IfErr r (λ e. Explains e B)
no_memory_explains {T} r B is = let P : Result T Unmade → Type 0 = λ r. IfErr r (λ e. Explains e B) in subst P (sym is) tt
