-- A list with homes for all functions has homes for each number: past the last function there are no operations.
use Rattle.std.proofs.Common.{◌≡◌, ℕ, ◌<◌, ◌≤◌, false, inl, inr, List, length, Option, None, refl, sym, subst, ap, ◌∙◌, arith}
use Rattle.std.specs.Prelude.{slice_get}
use Rattle.std.proofs.lemmas.Bool.{cases_lt}
use Rattle.std.proofs.lemmas.Option.{slice_get_past}
use Rattle.al_ir.specs.declared.ir.Ir.{Ir}
use Rattle.al_ir.specs.Control.{code_of, operation_at}
use Rattle.rv_code.specs.declared.home.Home.{Home}
use Rattle.rv_code.specs.declared.home.Home.TheVariants.{Frame}
use Rattle.rv_regs.specs.Homes.{AreHomes, home_at}
use Rattle.rv_emit_ops.specs.Plans.{homes_of, homes_or_none}

-- where there are no operations, each slot may have its own word
own_homes : (ir : Ir) (f : ℕ) → ((pc : ℕ) → operation_at ir f pc ≡ None) → AreHomes ir f Frame
own_homes ir f none = record {
  own = λ t. refl;
  found_by_address = λ pc t o at is. refl;
  live = λ pc t. false;
  is_liveness = record {
    read = λ pc t o at is. absurd (let no = sym (none pc) ∙ at in cc);
    kept = λ pc next t o at comes live. absurd (let no = sym (none pc) ∙ at in cc);
  };
  arguments_apart = λ t u first second live other. absurd (cc);
  apart = λ pc t u live also other. absurd (cc);
  written_apart = λ pc next t u o at comes is live other. absurd (cc);
  across_calls = λ pc next t o at is comes live. refl;
}

module _ (ir : Ir) (homes : List (List Home)) (count : length homes ≡ length ir.functions) where
  past : (f : ℕ) → length ir.functions ≤ f → AreHomes ir f (homes_of homes f)
  past f le =
      subst (λ (o : Option (List Home)). AreHomes ir f (home_at (homes_or_none o))) (sym (slice_get_past homes f (omega (arith, count, le))))
      (own_homes ir f (λ pc. ap (λ o. slice_get (code_of o) pc) (slice_get_past ir.functions f le)))

  pub all_homes : ((f : ℕ) → f < length ir.functions → AreHomes ir f (homes_of homes f)) → (f : ℕ) → AreHomes ir f (homes_of homes f)
  all_homes are f = elim (cases_lt f (length ir.functions)) [ inl less ↦ are f less | inr le ↦ past f le ]
