-- Units as runs, and back.
use Rattle.std.proofs.Common.{◌≡◌, ℕ, suc, ◌+◌, List, [], ◌∷◌, ◌++◌, refl, sym, ap, ap₂, ◌∙◌}
use Rattle.std.specs.Prelude.{Bool, true, false, ◌==◌, ◌&&◌, if◌then◌else◌}
use Rattle.std.proofs.lemmas.Grind.{common_steps}
use Rattle.std.proofs.Common.{arith}
use Rattle.al_typed.specs.declared.layout.Unit.{Unit}
use Rattle.al_ir.specs.declared.ir.Run.{Run}
use Rattle.al_ir.specs.Units.{units_from, units_in}
use Rattle.al_lower_code.specs.Functions.{single_run, run_with, runs_of}

both_true : (a b : Bool) → (a && b) ≡ true → (a ≡ true) × (b ≡ true)
both_true true true e = (refl, refl)
both_true true false e = absurd (cc)
both_true false b e = absurd (cc)

equal_is : (a b : ℕ) → (a == b) ≡ true → a ≡ b
equal_is a b e = grind (arith, common_steps, e)

one_more : (u : Unit) (rs : List Run) → units_in (run_with u rs) ≡ u ∷ units_in rs
one_more u [] = refl
one_more u (r ∷ rs) = on ((r.size == u.size) && (r.at == u.at + u.size)) refl
  where
    on : (b : Bool) → ((r.size == u.size) && (r.at == u.at + u.size)) ≡ b → units_in (if b then record { at = u.at; size = u.size; count = suc r.count } ∷ rs else single_run u ∷ r ∷ rs) ≡ u ∷ units_in (r ∷ rs)
    on false e = refl
    on true e =
        let x = both_true (r.size == u.size) (r.at == u.at + u.size) e in
        let size = equal_is r.size u.size x.0 in
        let at = equal_is r.at (u.at + u.size) x.1 in
        ap₂ (λ (a z : ℕ). u ∷ (units_from a z r.count ++ units_in rs)) (sym at) (sym size)

pub runs_are : (us : List Unit) → units_in (runs_of us) ≡ us
runs_are [] = refl
runs_are (u ∷ us) = one_more u (runs_of us) ∙ ap (λ l. u ∷ l) (runs_are us)
