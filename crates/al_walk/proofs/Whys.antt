-- Why a step is not made: what one number needs, another needs too.
use Rattle.std.proofs.Common.{◌≡◌, Result, Ok, Err, IfErr, sym, subst}
use Rattle.al_control.specs.declared.unmade.Unmade.{Unmade}
use Rattle.al_control.specs.declared.unmade.Unmade.TheVariants as unmade
use Rattle.al_control.specs.Fits.{Explains}

pub explained : (e : Unmade) (A B : Type 0) → (B → A) → Explains e A → Explains e B
explained unmade.NoMemory A B f why = tt
explained unmade.TooLarge A B f why = λ b. why (f b)

pub explains : {T : Type 0} (r : Result T Unmade) (A B : Type 0) → (B → A) → IfErr r (λ e. Explains e A) → IfErr r (λ e. Explains e B)
explains (Ok n) A B f why = tt
explains (Err e) A B f why = explained e A B f why

-- at the error of a call
pub why_else : {T : Type 0} (r : Result T Unmade) (e : Unmade) (A B : Type 0) → r ≡ Err e → (B → A) → Explains e A → IfErr r (λ e. Explains e B)
why_else {T} r e A B is f why = let P : Result T Unmade → Type 0 = λ r. IfErr r (λ e. Explains e B) in subst P (sym is) (explained e A B f why)
