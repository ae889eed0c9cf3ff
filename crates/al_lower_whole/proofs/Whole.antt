-- Every well-typed program whose addresses are words is lowered.
use Rattle.std.proofs.Common.{◌≡◌, ℕ, List, [], ◌∷◌, sym, ap, ◌∙◌, subst}
use Rattle.std.specs.List.{AllByRecursion}
use Rattle.al_typed.specs.declared.ty.Ty.{Ty}
use Rattle.al_typed.specs.declared.program.Program.{Program}
use Rattle.al_typed.specs.Typed.{row_types, target_type}
use Rattle.al_typed.specs.WellTyped.{IsWellTyped}
use Rattle.al_meaning.specs.Tasks.{Rest, Stuck}
use Rattle.al_ir.specs.declared.ir.Ir.{Ir}
use Rattle.al_lowered.specs.Lowered.{Lowered}
use Rattle.al_lower_code.specs.Classes.{classes}
use Rattle.al_lower_code.specs.Functions.{lowered}
use Rattle.al_lower_bodies.proofs.Bodies.{Body, setting}
use Rattle.al_lower_statements.proofs.Terms.{TermsDo, IsPassed}
use Rattle.al_lower_programs.proofs.Programs.{TermsOfAllDo, program_lowered}
use Rattle.al_lower_expressions.proofs.Types.{IsPart, AreParts}
use Rattle.al_lower_expressions.proofs.Like.{IsLike, carried}
use Rattle.al_lower_expressions.proofs.Premises.{Premises}
use Rattle.al_lower_expressions.proofs.Induction.{expr_does, place_does, target_does, object_does, row_does}
use Rattle.al_lower_expressions.proofs.Sound.{value_like}
use Rattle.al_lower_whole.proofs.Targets.{target_in}
use Rattle.al_lower_whole.proofs.Addresses.{IsAddressed}

part_of : (t : Ty) → IsPassed t → IsPart t
part_of t h = record { not_void = h.0; not_array = h.1 }

parts_of : (ts : List Ty) → AllByRecursion IsPassed ts → AreParts ts
parts_of [] h = tt
parts_of (t ∷ ts) h = (part_of t h.0, parts_of ts h.1)

module _ (b : Body) (W : IsWellTyped b.program) (A : IsAddressed b.program) (c : b.ir.classes ≡ classes b.program) where
  abbrev premises_in : (line iterators : ℕ) (jump : ℕ → Rest) (behind again : List Rest) → Premises (setting b line iterators jump behind again)
  premises_in line iterators jump behind again = record { function = b.row; there = b.there; well_typed = W; calls = b.calls; classes = c; globals = A.globals; texts = A.texts; functions = A.functions }

  abbrev nowhere : ℕ → Rest
  nowhere n env s = Stuck

  terms_in : TermsDo b
  terms_in = record {
    value = λ line iterators e v jump behind again. (expr_does (setting b line iterators jump behind again) (premises_in line iterators jump behind again) e).by v;
    place = λ line iterators place v jump behind again. (place_does (setting b line iterators jump behind again) (premises_in line iterators jump behind again) place).by v;
    values = λ line iterators es v parts jump behind again. (row_does (setting b line iterators jump behind again) (premises_in line iterators jump behind again) es).values v (parts_of (row_types es) parts);
    object = λ line iterators o given v parts. record {
      does = λ jump behind again. ((object_does (setting b line iterators jump behind again) (premises_in line iterators jump behind again) o).by given v (parts_of given parts)).rows;
      words = λ jump behind again. ((object_does (setting b line iterators jump behind again) (premises_in line iterators jump behind again) o).by given v (parts_of given parts)).words;
    };
    target = λ line target v part. target_in b line target v (λ jump behind again. (target_does (setting b line 0 jump behind again) (premises_in line 0 jump behind again) target).by v (part_of (target_type target) part));
    carried = λ chan t v is.
        let x = carried b.program.aggregates t is.0 (subst (IsLike b.program.aggregates) is.1 (value_like (setting b 0 0 nowhere [] []) (premises_in 0 0 nowhere [] []) chan v)) in
        (x.part.not_void, x.part.not_array);
  }

-- what the terms of each function do
pub terms_do : (p : Program) → IsWellTyped p → IsAddressed p → TermsOfAllDo p
terms_do p W A b same same_ir = terms_in b (subst IsWellTyped (sym same) W) (subst IsAddressed (sym same) A) (ap (λ (ir : Ir). ir.classes) same_ir ∙ ap classes (sym same))

-- The operations of a well-typed program ask what its meaning says, if its addresses are words.
pub whole_lowered : (p : Program) → IsWellTyped p → IsAddressed p → Lowered p (lowered p)
whole_lowered p W A = program_lowered p W (terms_do p W A)
