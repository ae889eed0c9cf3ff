-- Harts follow the count of elements between two pointers.
use Rattle.std.proofs.Common.{◌≡◌, ℕ, ◌+◌, ◌-◌, ◌%◌, ◌^◌, ◌<◌, ◌≤◌, ◌==◌, Bool, true, false, if◌then◌else◌, ℤ, pos, List, [], ◌∷◌, ◌++◌, length, sym, ap, ap₂, ◌∙◌, arith, subst, append_assoc}
use Rattle.std.specs.Prelude.{int_div}
use Rattle.std.proofs.lemmas.Bool.Decides.{nat_tests}
use Rattle.al_base.specs.Arith.{wrapped, value_of}
use Rattle.al_meaning.specs.Words.{elements_between}
use Rattle.rv_isa.specs.declared.image.Contents.{Contents}
use Rattle.rv_isa.specs.declared.instr.Instr.{Instr}
use Rattle.rv_isa.specs.declared.instr.Instr.TheVariants.{Register}
use Rattle.rv_isa.specs.declared.instr.RegisterOp.TheVariants.{Sub, Div}
use Rattle.rv_exec.specs.Hart.{Hart, put}
use Rattle.rv_exec.specs.Words.{word, signed, difference_of, quotient_signed}
use Rattle.rv_exec.specs.Calls.{Privates}
use Rattle.al_ir.specs.declared.ir.Ir.{Ir}
use Rattle.al_ir.specs.Control.{Slots, Frame as IrFrame, Control}
use Rattle.al_ir.specs.Step.{step_op}
use Rattle.al_ir.specs.declared.op.Op.TheVariants as op
use Rattle.rv_code.specs.declared.home.Home.{Home}
use Rattle.rv_code.specs.Homes.{value_at, get_code, get_register, put_code, put_register}
use Rattle.rv_code.specs.Pieces.{number_code}
use Rattle.rv_code.specs.Runs.{Stands, Fine}
use Rattle.rv_code.proofs.Operands.{not_kept}
use Rattle.rv_code.proofs.Slots.{put_same}
use Rattle.rv_form.specs.Words.{between_code}
use Rattle.rv_match.specs.Match.{Private, InFrame}
use Rattle.rv_match.specs.Places.{Places, Homes, Writes, under}
use Rattle.rv_match.proofs.Keeping.{at_home}
use Rattle.rv_match.proofs.Steps.{Does, here, slot_does, sets_does, held}
use Rattle.rv_words.proofs.Computing.{ComputesTwo, computes_two}
use Rattle.rv_words.proofs.Constants.{number_straight, number_spares, number_gives}
use Rattle.rv_words.proofs.Straight.{reg, after, spared, straight_append, after_append, spares_append}
use Rattle.rv_words.proofs.Values.{as_signed, as_word, signed_size, div_size, signed_low}

module _ (size : ℕ) (some : 1 ≤ size) (few : size ≤ 2 ^ 28) where
  fits : size < 2 ^ 32
  fits = omega (arith, few)

  -- the signed difference, divided
  divided_is : (x y : ℕ) → y < 2 ^ 32 → quotient_signed (difference_of x y) size ≡ elements_between size x y
  divided_is x y b =
      let d : ℕ = difference_of x y in
      let small : d < 2 ^ 32 = omega arith in
      let off : (size == 0) ≡ false = grind (arith, nat_tests, some) in
      let same : (x + (2 ^ 32 - y % 2 ^ 32)) % 2 ^ 32 ≡ d = omega (arith, b) in
      let positive : signed size ≡ pos size = signed_low size (omega (arith, few)) in
      ap (λ (c : Bool). if c then 2 ^ 32 - 1 else word (int_div (signed d) (signed size))) off
      ∙ ap (λ (z : ℤ). word (int_div (signed d) z)) positive
      ∙ sym (as_word (int_div (signed d) (pos size)) (omega (arith, div_size (signed d) (pos size), signed_size d small)))
      ∙ ap (λ (z : ℤ). wrapped 32 (int_div z (pos size))) (sym (as_signed d small))
      ∙ ap (λ (n : ℕ). wrapped 32 (int_div (value_of true 32 n) (pos size))) (sym same)

  pub divides_by : ComputesTwo (λ x y. elements_between size x y) (λ d a b. Register Sub 10 a b ∷ (number_code 11 size ++ Register Div d 10 11 ∷ []))
  divides_by = record {
    straight = λ d a b. (tt, straight_append (number_code 11 size) (Register Div d 10 11 ∷ []) (number_straight size fits) (tt, tt));
    gives = λ d a b r id ia ib sa sb.
        let r1 : ℕ → ℕ = put r 10 (difference_of (reg r a) (reg r b)) in
        let r2 : ℕ → ℕ = after (number_code 11 size) r1 in
        let left : r2 10 ≡ difference_of (reg r a) (reg r b) = spared 10 (number_code 11 size) r1 (number_spares size fits 10 (omega arith)) in
        ap (λ (q : ℕ → ℕ). q d) (after_append (number_code 11 size) (Register Div d 10 11 ∷ []) r1)
        ∙ put_same r2 d (quotient_signed (r2 10) (r2 11)) ∙ ap₂ quotient_signed left (number_gives size fits r1) ∙ divided_is (reg r a) (reg r b) sb;
    spares = λ d a b n other k. (not_kept 10 n (omega arith, omega arith) k, spares_append n (number_code 11 size) (Register Div d 10 11 ∷ []) (number_spares size fits n (not_kept 11 n (omega arith, omega arith) k)) (other, tt));
  }

module _ (ir : Ir) (image : Contents) (l : Places) (live : (f pc unit t : ℕ) → Type 0) (Midway : (f pc unit : ℕ) → Slots → (sp : ℕ) → Hart → Type 0)
    (left : ℕ) (fr : IrFrame) (below : List IrFrame) (c : Control) (line : ℕ) (u : List ℕ) (h : Hart) (p : Privates)
    (homes : Homes l) (small : length image.code ≤ 2 ^ 23) (m : InFrame ir image l live Midway left fr below 0 c.text c.last h) (same : Private ir u p) (fine : Fine h p)
    (to a b : ℕ) (la : live fr.function fr.pc 0 a) (lb : live fr.function fr.pc 0 b) (lt : to < l.slots fr.function) (apart : Writes l live fr.function fr.pc to) where
  abbrev at0 : ℕ
  at0 = l.at fr.function fr.pc

  abbrev home : ℕ → Home
  home t = l.home fr.function t

  abbrev whole_code : (size : ℕ) → List Instr
  whole_code size =
      get_code (home a) 10 ++ (get_code (home b) 11
      ++ ((Register Sub 10 (get_register (home a) 10) (get_register (home b) 11) ∷ (number_code 11 size ++ Register Div (put_register (home to) 10) 10 11 ∷ [])) ++ put_code (home to) 10))

  same_code : (size : ℕ) → between_code size (home to) (home a) (home b) ≡ whole_code size
  same_code size =
      ap (λ (rest : List Instr). get_code (home a) 10 ++ (get_code (home b) 11 ++ (Register Sub 10 (get_register (home a) 10) (get_register (home b) 11) ∷ rest)))
      (sym (append_assoc (number_code 11 size) (Register Div (put_register (home to) 10) 10 11 ∷ []) (put_code (home to) 10)))

  pub between_does : (size : ℕ) → 1 ≤ size → size ≤ 2 ^ 28 → Stands image.code at0 (between_code size (home to) (home a) (home b))
      → at0 + length (between_code size (home to) (home a) (home b)) ≡ l.at fr.function (fr.pc + 1)
      → Does ir image l live Midway left h p (step_op (op.Between size to a b) (here ir image l live Midway left fr below c line u h p))
  between_does size some few has next =
      slot_does ir image l live Midway left fr below c line u h p a _ (λ x ex.
      slot_does ir image l live Midway left fr below c line u h p b _ (λ y ey.
      let px = held ir image l live Midway left fr below c line u h p homes small m same fine a x la ex in
      let py = held ir image l live Midway left fr below c line u h p homes small m same fine b y lb ey in
      let has1 : Stands image.code at0 (whole_code size) = subst (λ (is : List Instr). Stands image.code at0 is) (same_code size) has in
      let next1 : at0 + length (whole_code size) ≡ l.at fr.function (fr.pc + 1) = subst (λ (is : List Instr). at0 + length is ≡ l.at fr.function (fr.pc + 1)) (same_code size) next in
      sets_does ir image l live Midway left fr below c line u h p homes small m same fine to (elements_between size x y)
      (elements_between size (value_at (home a) (under l below) h.registers h.stack) (value_at (home b) (under l below) h.registers h.stack))
      (at0 + length (whole_code size)) lt (ap₂ (elements_between size) px.stands py.stands) next1 apart
      (computes_two image small h p fine at0 (under l below) m.here m.pointer (divides_by size some few) (home to) (home a) (home b)
      (at_home ir image l live Midway m homes to lt) (at_home ir image l live Midway m homes a px.is_slot) (at_home ir image l live Midway m homes b py.is_slot) has1)))
