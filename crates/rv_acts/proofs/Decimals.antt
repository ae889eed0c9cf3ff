-- Harts follow numbers that are composed as decimal text.
use Rattle.std.proofs.Common.{◌≡◌, ℕ, suc, ◌+◌, ◌-◌, ◌*◌, ◌%◌, ◌^◌, ◌<◌, ◌≤◌, Bool, true, false, ◌&&◌, nat_le, if◌then◌else◌, pos, negsuc, ◌-ℤ◌, List, ◌++◌, length, refl, sym, ap, ap₂, ◌∙◌, arith, length-append, inr}
use Rattle.std.specs.Prelude.{decimal}
use Rattle.std.specs.Fmt.{signed_decimal}
use Rattle.std.specs.Int.{cast_signed, w64}
use Rattle.std.proofs.Math.Facts.{to_z-neg}
use Rattle.std.proofs.lemmas.Int.{ints, to_z_pos}
use Rattle.std.proofs.lemmas.Bool.Decides.{nat_tests}
use Rattle.al_base.specs.Arith.{value_of}
use Rattle.rv_isa.specs.declared.image.Contents.{Contents}
use Rattle.rv_isa.specs.declared.instr.Instr.{Instr}
use Rattle.rv_isa.specs.declared.instr.Instr.TheVariants.{Immediate}
use Rattle.rv_isa.specs.declared.instr.ImmediateOp.TheVariants.{Addi}
use Rattle.rv_exec.specs.Hart.{Hart, put, moved, with_register}
use Rattle.rv_exec.specs.Words.{word, sum_of}
use Rattle.rv_exec.specs.Calls.{Privates, Goes, composed, decimal_text}
use Rattle.rv_exec.specs.Machine.{line_of}
use Rattle.al_ir.specs.declared.ir.Ir.{Ir}
use Rattle.al_ir.specs.declared.op.Op.TheVariants as op
use Rattle.al_ir.specs.Control.{Slots, Frame as IrFrame, Control}
use Rattle.al_ir.specs.Step.{Here, step_op, decimal_of, pair}
use Rattle.rv_code.specs.declared.home.Home.{Home}
use Rattle.rv_code.specs.Homes.{bring}
use Rattle.rv_code.specs.Jumps.{place}
use Rattle.rv_code.specs.Runs.{Stands, Fine, Leads}
use Rattle.rv_code.proofs.Leading.{stands_front, stands_back, then_leads, one, fetched}
use Rattle.rv_code.proofs.Operands.{IsKept, not_eight, not_kept, home_kept}
use Rattle.rv_code.proofs.Pairs.{brings}
use Rattle.rv_code.proofs.Slots.{put_other}
use Rattle.rv_form.specs.Texts.{flag, decimal_call, long_decimal_code}
use Rattle.rv_match.specs.Match.{Private, InFrame}
use Rattle.rv_match.specs.Places.{Places, Homes, Passes, under}
use Rattle.rv_match.proofs.Keeping.{at_home}
use Rattle.rv_match.proofs.Steps.{Does, here, slot_does, held}
use Rattle.rv_acts.proofs.Texts.{composes_does}

-- 64 bits with a sign, as both sides read them
signed64 : (n : ℕ) → n < 2 ^ 64 → cast_signed w64 n ≡ value_of true 64 n
signed64 n h = on (nat_le (2 ^ 63) (n % 2 ^ 64)) refl where
  on : (b : Bool) → nat_le (2 ^ 63) (n % 2 ^ 64) ≡ b → cast_signed w64 n ≡ (if true && b then pos (n % 2 ^ 64) -ℤ pos (2 ^ 64) else pos (n % 2 ^ 64))
  on true e =
      let more : 2 ^ 63 ≤ n % 2 ^ 64 = grind (arith, nat_tests, e) in
      let is : n ≡ 2 ^ 64 - suc (2 ^ 64 - 1 - n) = omega (arith, h) in
      ap (cast_signed w64) is ∙ to_z-neg w64 (2 ^ 64 - 1 - n) (omega (arith, more, h)) ∙ turned more where
        turned : 2 ^ 63 ≤ n % 2 ^ 64 → negsuc (2 ^ 64 - 1 - n) ≡ pos (n % 2 ^ 64) -ℤ pos (2 ^ 64)
        turned more = omega (arith, ints, h)
  on false e =
      let less : n % 2 ^ 64 < 2 ^ 63 = grind (arith, nat_tests, e) in
      let same : n % 2 ^ 64 ≡ n = omega (arith, h) in
      to_z_pos w64 n (omega (arith, less, h)) ∙ ap pos (sym same)

-- the text of a pair
pub pair_text : (s : Bool) (x y : ℕ) → x < 2 ^ 32 → y < 2 ^ 32 → decimal_text x y (flag s) ≡ decimal_of s 64 (pair x y)
pair_text true x y a b =
    let same : x + y * 2 ^ 32 ≡ x + 2 ^ 32 * y = omega arith in
    ap signed_decimal (signed64 (x + y * 2 ^ 32) (omega (arith, a, b))) ∙ ap (λ n. signed_decimal (value_of true 64 n)) same
pair_text false x y a b =
    let same : x + y * 2 ^ 32 ≡ x + 2 ^ 32 * y = omega arith in
    ap decimal same

module _ (ir : Ir) (image : Contents) (l : Places) (live : (f pc unit t : ℕ) → Type 0) (Midway : (f pc unit : ℕ) → Slots → (sp : ℕ) → Hart → Type 0)
    (left : ℕ) (fr : IrFrame) (below : List IrFrame) (c : Control) (line : ℕ) (u : List ℕ) (h : Hart) (p : Privates)
    (homes : Homes l) (small : length image.code ≤ 2 ^ 23) (m : InFrame ir image l live Midway left fr below 0 c.text c.last h) (same : Private ir u p) (fine : Fine h p)
    (low : l.at fr.function (fr.pc + 1) < 2 ^ 23) (line_is : (j : ℕ) → l.at fr.function fr.pc ≤ j → j < l.at fr.function (fr.pc + 1) → line_of image (place j) ≡ line)
    (passes : Passes live fr.function fr.pc (fr.pc + 1)) where
  abbrev at_hand : Here
  at_hand = here ir image l live Midway left fr below c line u h p

  abbrev at0 : ℕ
  at0 = l.at fr.function fr.pc

  abbrev home : ℕ → Home
  home t = l.home fr.function t

  pub put_long_decimal_does : (signed : Bool) (from : ℕ) → live fr.function fr.pc 0 from → live fr.function fr.pc 0 (from + 1) → Stands image.code at0 (long_decimal_code signed (home from) (home (from + 1)))
      → at0 + length (long_decimal_code signed (home from) (home (from + 1))) ≡ l.at fr.function (fr.pc + 1)
      → Does ir image l live Midway left h p (step_op (op.PutLongDecimal signed from) at_hand)
  put_long_decimal_does signed from la lb has next =
      slot_does ir image l live Midway left fr below c line u h p from _ (λ x ex.
      slot_does ir image l live Midway left fr below c line u h p (from + 1) _ (λ y ey.
      let px = held ir image l live Midway left fr below c line u h p homes small m same fine from x la ex in
      let py = held ir image l live Midway left fr below c line u h p homes small m same fine (from + 1) y lb ey in
      let one_code : List Instr = bring (home from) 10 in
      let two_code : List Instr = bring (home (from + 1)) 11 in
      let call : List Instr = decimal_call signed in
      let at1 : ℕ = at0 + length one_code in
      let at2 : ℕ = at1 + length two_code in
      let code1 = stands_back image.code at0 one_code (two_code ++ call) has in
      let code2 = stands_back image.code at1 two_code call code1 in
      let is = at_home ir image l live Midway m homes (from + 1) py.is_slot in
      let g = brings image small h p at0 (under l below) (home from) 10 fine m.here m.pointer (at_home ir image l live Midway m homes from px.is_slot) (stands_front image.code at0 one_code (two_code ++ call) has) in
      let h1 : Hart = record h { pc = g.pc; registers = g.registers; work = g.work } in
      let first : (n : ℕ) → IsKept n → g.registers n ≡ h.registers n = λ n k. g.kept n (not_kept 10 n (omega arith, omega arith) k) (not_eight n k) in
      let g1 = brings image small h1 p at1 (under l below) (home (from + 1)) 11 (g.leads.fine fine) g.there (g.kept 2 (omega arith) (omega arith) ∙ m.pointer) is (stands_front image.code at1 two_code call code1) in
      let h2 : Hart = record h { pc = g1.pc; registers = g1.registers; work = g1.work } in
      let low_word : g1.registers 10 ≡ x = g1.kept 10 (omega arith) (omega arith) ∙ g.holds ∙ px.stands in
      let high_word : g1.registers 11 ≡ y = g1.holds ∙ home_kept (home (from + 1)) (under l below) h.registers g.registers h.stack is (λ n k. first n (inr k)) ∙ py.stands in
      let rs : ℕ → ℕ = put g1.registers 12 (flag signed) in
      let h3 : Hart = record h { pc = g1.pc + 4; registers = rs; work = g1.work + 1 } in
      let third : Leads image h2 p h3 p = one image {h = h2} {next = h3} {p = p} {q = p} small (Immediate Addi 12 0 (pos (flag signed))) at2 code2.0 g1.there
      (ap (λ v. Goes (moved (with_register 12 v (fetched h2))) p) (flag_word signed)) in
      composes_does ir image l live Midway left fr below c line u h p homes small m same fine low line_is passes (at2 + 1) 17 (decimal_of signed 64 (pair x y)) (g1.pc + 4) (g1.work + 1) rs
      (then_leads image {i = h1} {j = h3} g.leads (then_leads image {i = h2} {j = h3} g1.leads third)) (omega (arith, g1.there))
      (λ n k. put_other g1.registers 12 (flag signed) n (not_kept 12 n (omega arith, omega arith) k) ∙ g1.kept n (not_kept 11 n (omega arith, omega arith) k) (not_eight n k) ∙ first n k) refl code2.1
      (omega (arith, next, length-append one_code (two_code ++ call), length-append two_code call)) (omega arith)
      (ap (λ t. composed t (record h { pc = g1.pc + 4 + 4; registers = put rs 17 17; work = g1.work + 1 + 1 + 1 }) p)
      (ap₂ (λ (i j : ℕ). decimal_text i j (flag signed)) low_word high_word ∙ pair_text signed x y px.word py.word)))) where
        flag_word : (s : Bool) → sum_of 0 (word (pos (flag s))) ≡ flag s
        flag_word true = refl
        flag_word false = refl
