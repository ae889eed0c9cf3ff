-- Harts follow operations on one word.
use Rattle.std.proofs.Common.{◌≡◌, ℕ, zero, suc, ◌+◌, ◌-◌, ◌^◌, ◌<◌, ◌≤◌, ◌==◌, false, nat_lt, pos, negsuc, List, [], ◌∷◌, length, Some, refl, sym, ap, ◌∙◌, arith}
use Rattle.std.proofs.lemmas.Bool.Decides.{nat_tests}
use Rattle.rv_isa.specs.declared.image.Contents.{Contents}
use Rattle.rv_isa.specs.declared.instr.Instr.{Instr}
use Rattle.rv_isa.specs.declared.instr.Instr.TheVariants.{Immediate}
use Rattle.rv_isa.specs.declared.instr.ImmediateOp.TheVariants.{Xori, Sltiu}
use Rattle.rv_exec.specs.Hart.{Hart}
use Rattle.rv_exec.specs.Words.{flag}
use Rattle.rv_exec.specs.Calls.{Privates}
use Rattle.rv_long.proofs.Signs.{turned}
use Rattle.al_ir.specs.declared.ir.Ir.{Ir}
use Rattle.al_ir.specs.Control.{Slots, Frame as IrFrame, Control}
use Rattle.al_ir.specs.Step.{step_op, sets, one_if}
use Rattle.al_ir.specs.declared.op.Op.TheVariants as op
use Rattle.rv_code.specs.declared.home.Home.{Home}
use Rattle.rv_code.specs.Homes.{value_at}
use Rattle.rv_code.specs.Runs.{Stands, Fine}
use Rattle.rv_code.proofs.Slots.{put_same}
use Rattle.rv_form.specs.Words.{unary_code, complement_code, is_zero_code}
use Rattle.rv_match.specs.Match.{Private, InFrame}
use Rattle.rv_match.specs.Places.{Places, Homes, Writes, under}
use Rattle.rv_match.proofs.Keeping.{at_home}
use Rattle.rv_match.proofs.Steps.{Does, here, slot_does, sets_does, held}
use Rattle.rv_words.proofs.Computing.{Computes, computes_one}
use Rattle.rv_words.proofs.Straight.{reg}

pub complements : Computes (λ x. 2 ^ 32 - 1 - x) (λ d a. Immediate Xori d a (negsuc 0) ∷ [])
complements = record {
  straight = λ d a. (tt, tt);
  gives = λ d a r id ia small. put_same r d _ ∙ turned (reg r a) small;
  spares = λ d a n other k. (other, tt);
}

zero_flag : (x : ℕ) → flag (nat_lt x 1) ≡ one_if (x == 0)
zero_flag zero = refl
zero_flag (suc n) =
    let p : nat_lt (suc n) 1 ≡ false = grind (arith, nat_tests) in
    let q : (suc n == 0) ≡ false = grind (arith, nat_tests) in
    ap flag p ∙ sym (ap one_if q)

pub tests_zero : Computes (λ x. one_if (x == 0)) (λ d a. Immediate Sltiu d a (pos 1) ∷ [])
tests_zero = record {
  straight = λ d a. (tt, tt);
  gives = λ d a r id ia small. put_same r d _ ∙ zero_flag (reg r a);
  spares = λ d a n other k. (other, tt);
}

module _ (ir : Ir) (image : Contents) (l : Places) (live : (f pc unit t : ℕ) → Type 0) (Midway : (f pc unit : ℕ) → Slots → (sp : ℕ) → Hart → Type 0)
    (left : ℕ) (fr : IrFrame) (below : List IrFrame) (c : Control) (line : ℕ) (u : List ℕ) (h : Hart) (p : Privates)
    (homes : Homes l) (small : length image.code ≤ 2 ^ 23) (m : InFrame ir image l live Midway left fr below 0 c.text c.last h) (same : Private ir u p) (fine : Fine h p)
    (to a : ℕ) (la : live fr.function fr.pc 0 a) (lt : to < l.slots fr.function) (apart : Writes l live fr.function fr.pc to) where
  abbrev at0 : ℕ
  at0 = l.at fr.function fr.pc

  abbrev home : ℕ → Home
  home t = l.home fr.function t

  -- what instructions compute of a word comes to a slot
  pub single_does : {f : ℕ → ℕ} {code : (d a : ℕ) → List Instr} → Computes f code → Stands image.code at0 (unary_code (home to) (home a) code)
      → at0 + length (unary_code (home to) (home a) code) ≡ l.at fr.function (fr.pc + 1) → (w v : ℕ) → fr.slots a ≡ Some w → f w ≡ v
      → Does ir image l live Midway left h p (sets to v (here ir image l live Midway left fr below c line u h p))
  single_does {f} {code} k has next w v e value =
      let px = held ir image l live Midway left fr below c line u h p homes small m same fine a w la e in
      sets_does ir image l live Midway left fr below c line u h p homes small m same fine to v (f (value_at (home a) (under l below) h.registers h.stack)) (at0 + length (unary_code (home to) (home a) code)) lt
      (ap f px.stands ∙ value) next apart
      (computes_one image small h p fine at0 (under l below) m.here m.pointer k (home to) (home a) (at_home ir image l live Midway m homes to lt) (at_home ir image l live Midway m homes a px.is_slot) has)

  pub complement_does : Stands image.code at0 (complement_code (home to) (home a)) → at0 + length (complement_code (home to) (home a)) ≡ l.at fr.function (fr.pc + 1)
      → Does ir image l live Midway left h p (step_op (op.Complement to a) (here ir image l live Midway left fr below c line u h p))
  complement_does has next =
      slot_does ir image l live Midway left fr below c line u h p a _ (λ w e. single_does complements has next w (2 ^ 32 - 1 - w) e refl)

  pub is_zero_does : Stands image.code at0 (is_zero_code (home to) (home a)) → at0 + length (is_zero_code (home to) (home a)) ≡ l.at fr.function (fr.pc + 1)
      → Does ir image l live Midway left h p (step_op (op.IsZero to a) (here ir image l live Midway left fr below c line u h p))
  is_zero_does has next =
      slot_does ir image l live Midway left fr below c line u h p a _ (λ w e. single_does tests_zero has next w (one_if (w == 0)) e refl)
