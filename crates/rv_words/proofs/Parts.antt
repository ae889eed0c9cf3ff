-- Harts follow operations on addresses and on bytes of a word.
use Rattle.std.proofs.Common.{◌≡◌, ◌≢◌, ℕ, ◌+◌, ◌-◌, ◌*◌, ◌/◌, ◌%◌, ◌^◌, ◌<◌, ◌≤◌, ◌==◌, Bool, true, false, if◌then◌else◌, List, [], ◌∷◌, ◌++◌, length, refl, ap, ◌∙◌, arith, ◌⊎◌, inl, inr}
use Rattle.std.specs.Prelude.{bit_and}
use Rattle.std.proofs.lemmas.Nat.{and_mask, shr_le}
use Rattle.std.proofs.lemmas.Bool.{cases_eq}
use Rattle.std.proofs.lemmas.Bool.Decides.{nat_tests}
use Rattle.al_base.specs.declared.arith.Op.TheVariants as arith
use Rattle.al_meaning.specs.Words.{sum}
use Rattle.rv_isa.specs.declared.image.Contents.{Contents}
use Rattle.rv_isa.specs.declared.instr.Instr.TheVariants.{Immediate, Register}
use Rattle.rv_isa.specs.declared.instr.ImmediateOp.TheVariants.{Addi}
use Rattle.rv_isa.specs.declared.instr.RegisterOp.TheVariants.{Add}
use Rattle.rv_exec.specs.Hart.{Hart, put}
use Rattle.rv_exec.specs.Words.{word, sum_of}
use Rattle.rv_exec.specs.Calls.{Privates}
use Rattle.al_ir.specs.declared.ir.Ir.{Ir}
use Rattle.al_ir.specs.Control.{Slots, Frame as IrFrame, Control}
use Rattle.al_ir.specs.Step.{step_op}
use Rattle.al_ir.specs.declared.op.Op.TheVariants as op
use Rattle.rv_code.specs.Homes.{low_part, high_part}
use Rattle.rv_code.specs.Pieces.{number_code}
use Rattle.rv_code.specs.Runs.{Stands, Fine}
use Rattle.rv_code.proofs.Operands.{IsOperand, operand_some}
use Rattle.rv_code.proofs.Slots.{low_is, put_same}
use Rattle.rv_form.specs.Words.{offset_instrs, offset_code, extract_instrs, extract_code}
use Rattle.rv_match.specs.Match.{Private, InFrame}
use Rattle.rv_match.specs.Places.{Places, Homes, Writes}
use Rattle.rv_match.proofs.Steps.{Does, here, slot_does}
use Rattle.rv_words.proofs.Computing.{Computes}
use Rattle.rv_words.proofs.Constants.{by_number}
use Rattle.rv_words.proofs.Singles.{single_does}
use Rattle.rv_words.proofs.Straight.{reg, reg_put}

-- ---- addresses

-- a number without an upper part is its low part
pub immediate_is : (n : ℕ) → n < 2 ^ 32 → (high_part n == 0) ≡ true → word (low_part n) ≡ n
immediate_is n small e = on (low_is (n % 2 ^ 12) (omega arith)) where
  none : high_part n ≡ 0
  none = grind (arith, nat_tests, e)

  on : ((n % 2 ^ 12 < 2 ^ 11) × (word (low_part n) ≡ n % 2 ^ 12)) ⊎ ((2 ^ 11 ≤ n % 2 ^ 12) × (word (low_part n) ≡ n % 2 ^ 12 + (2 ^ 32 - 2 ^ 12))) → word (low_part n) ≡ n
  on (inl q) = q.1 ∙ omega (arith, q.0, none, small)
  on (inr q) = q.1 ∙ omega (arith, q.0, none, small)

pub adds : (n : ℕ) → n < 2 ^ 32 → Computes (λ x. sum x n) (offset_instrs n)
adds n fits = on (high_part n == 0) refl where
  on : (b : Bool) → (high_part n == 0) ≡ b → Computes (λ x. sum x n) (λ d a. if b then Immediate Addi d a (low_part n) ∷ [] else (number_code 11 n ++ Register Add d a 11 ∷ []))
  on true e = record {
    straight = λ d a. (tt, tt);
    gives = λ d a r id ia small. put_same r d _ ∙ ap (sum_of (reg r a)) (immediate_is n fits e);
    spares = λ d a k other q. (other, tt);
  }
  on false e = by_number arith.Add true n fits

-- ---- bytes

operand_is_some : (d : ℕ) → IsOperand 10 d → d ≢ 0
operand_is_some d o = operand_some 10 d (omega arith) o

abbrev pub IsSize : ℕ → Type 0
IsSize size = (size ≡ 1) ⊎ ((size ≡ 2) ⊎ (size ≡ 4))

-- shifted down by whole bytes
powers : (skip : ℕ) → skip < 4 → 2 ^ (8 * skip % 32) ≡ 256 ^ skip
powers skip less = on (cases_eq skip 0) (cases_eq skip 1) (cases_eq skip 2) where
  on : (skip ≡ 0) ⊎ (skip ≢ 0) → (skip ≡ 1) ⊎ (skip ≢ 1) → (skip ≡ 2) ⊎ (skip ≢ 2) → 2 ^ (8 * skip % 32) ≡ 256 ^ skip
  on (inl e) f g = rw e refl
  on (inr e) (inl f) g = rw f refl
  on (inr e) (inr f) (inl g) = rw g refl
  on (inr e) (inr f) (inr g) = let k : skip ≡ 3 = omega (arith, less, e, f, g) in rw k refl

module _ (skip : ℕ) (less : skip < 4) where
  abbrev shifted_down : ℕ → ℕ
  shifted_down x = x / 2 ^ (8 * skip % 32)

  down_is : (x : ℕ) → shifted_down x ≡ x / 256 ^ skip
  down_is x = ap (λ k. x / k) (powers skip less)

  down_small : (x : ℕ) → x < 2 ^ 32 → shifted_down x < 2 ^ 32
  down_small x a = omega (arith, shr_le x (8 * skip % 32), a)

  pub extracts : (size : ℕ) → IsSize size → Computes (λ x. x / 256 ^ skip % 256 ^ size) (extract_instrs skip size)
  extracts size (inl e) = rw e (record {
    straight = λ d a. (tt, (tt, tt));
    gives = λ d a r id ia small.
        put_same (put r d (shifted_down (reg r a))) d _ ∙ ap (λ k. bit_and k 255) (reg_put r d (shifted_down (reg r a)) (operand_is_some d id))
        ∙ and_mask (shifted_down (reg r a)) 8 ∙ ap (λ k. k % 256) (down_is (reg r a));
    spares = λ d a k other q. (other, (other, tt));
  })
  extracts size (inr (inl e)) = rw e (record {
    straight = λ d a. (tt, (tt, (tt, tt)));
    gives = λ d a r id ia small.
        let y : ℕ = shifted_down (reg r a) in
        let r1 : ℕ → ℕ = put r d y in
        let z : ℕ = y * 2 ^ 16 % 2 ^ 32 in
        put_same (put r1 d (reg r1 d * 2 ^ 16 % 2 ^ 32)) d _
        ∙ ap (λ k. k / 2 ^ 16) (reg_put r1 d (reg r1 d * 2 ^ 16 % 2 ^ 32) (operand_is_some d id) ∙ ap (λ k. k * 2 ^ 16 % 2 ^ 32) (reg_put r d y (operand_is_some d id)))
        ∙ omega (arith, down_small (reg r a) small) ∙ ap (λ k. k % 2 ^ 16) (down_is (reg r a));
    spares = λ d a k other q. (other, (other, (other, tt)));
  })
  extracts size (inr (inr e)) = rw e (record {
    straight = λ d a. (tt, tt);
    gives = λ d a r id ia small. put_same r d _ ∙ omega (arith, down_small (reg r a) small) ∙ ap (λ k. k % 2 ^ 32) (down_is (reg r a));
    spares = λ d a k other q. (other, tt);
  })

-- ---- the operations

module _ (ir : Ir) (image : Contents) (l : Places) (live : (f pc unit t : ℕ) → Type 0) (Midway : (f pc unit : ℕ) → Slots → (sp : ℕ) → Hart → Type 0)
    (left : ℕ) (fr : IrFrame) (below : List IrFrame) (c : Control) (line : ℕ) (u : List ℕ) (h : Hart) (p : Privates)
    (homes : Homes l) (small : length image.code ≤ 2 ^ 23) (m : InFrame ir image l live Midway left fr below 0 c.text c.last h) (same : Private ir u p) (fine : Fine h p)
    (to a : ℕ) (la : live fr.function fr.pc 0 a) (lt : to < l.slots fr.function) (apart : Writes l live fr.function fr.pc to) where
  pub offset_does : (bytes : ℕ) → bytes < 2 ^ 32 → Stands image.code (l.at fr.function fr.pc) (offset_code (l.home fr.function to) (l.home fr.function a) bytes)
      → l.at fr.function fr.pc + length (offset_code (l.home fr.function to) (l.home fr.function a) bytes) ≡ l.at fr.function (fr.pc + 1)
      → Does ir image l live Midway left h p (step_op (op.Offset to a bytes) (here ir image l live Midway left fr below c line u h p))
  offset_does bytes fits has next =
      slot_does ir image l live Midway left fr below c line u h p a _ (λ w e.
      single_does ir image l live Midway left fr below c line u h p homes small m same fine to a la lt apart (adds bytes fits) has next w (sum w bytes) e refl)

  pub extract_does : (skip size : ℕ) → skip < 4 → IsSize size → Stands image.code (l.at fr.function fr.pc) (extract_code (l.home fr.function to) (l.home fr.function a) skip size)
      → l.at fr.function fr.pc + length (extract_code (l.home fr.function to) (l.home fr.function a) skip size) ≡ l.at fr.function (fr.pc + 1)
      → Does ir image l live Midway left h p (step_op (op.Extract to a skip size) (here ir image l live Midway left fr below c line u h p))
  extract_does skip size less known has next =
      slot_does ir image l live Midway left fr below c line u h p a _ (λ w e.
      single_does ir image l live Midway left fr below c line u h p homes small m same fine to a la lt apart (extracts skip less size known) has next w (w / 256 ^ skip % 256 ^ size) e refl)
