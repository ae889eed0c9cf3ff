-- Harts follow words that are composed as decimal and hexadecimal text.
use Rattle.std.proofs.Common.{◌≡◌, ℕ, suc, ◌+◌, ◌-◌, ◌*◌, ◌/◌, ◌%◌, ◌^◌, ◌<◌, ◌≤◌, Bool, true, false, ◌&&◌, nat_le, nat_lt, if◌then◌else◌, pos, negsuc, ◌-ℤ◌, List, ◌∷◌, ◌++◌, length, refl, sym, ap, ap₂, ◌∙◌, arith, length-append, inr}
use Rattle.std.specs.Prelude.{decimal}
use Rattle.std.specs.Fmt.{digits, signed_decimal}
use Rattle.std.specs.Int.{cast_signed, w64}
use Rattle.std.proofs.Math.Facts.{to_z-neg}
use Rattle.std.proofs.lemmas.Int.{ints, to_z_pos}
use Rattle.std.proofs.lemmas.Bool.Decides.{nat_tests}
use Rattle.al_base.specs.Arith.{value_of}
use Rattle.rv_isa.specs.declared.image.Contents.{Contents}
use Rattle.rv_isa.specs.declared.instr.Instr.{Instr}
use Rattle.rv_isa.specs.declared.instr.Instr.TheVariants.{Immediate, Shift}
use Rattle.rv_isa.specs.declared.instr.ImmediateOp.TheVariants.{Addi}
use Rattle.rv_isa.specs.declared.instr.ShiftOp.TheVariants.{Srai}
use Rattle.rv_exec.specs.Hart.{Hart, put, moved, with_register}
use Rattle.rv_exec.specs.Words.{word, sum_of, shifted_right_signed}
use Rattle.rv_exec.specs.Calls.{Privates, Goes, composed, decimal_text, hexadecimal_text}
use Rattle.rv_exec.specs.Machine.{line_of}
use Rattle.al_ir.specs.declared.ir.Ir.{Ir}
use Rattle.al_ir.specs.declared.op.Op.TheVariants as op
use Rattle.al_ir.specs.Control.{Slots, Frame as IrFrame, Control}
use Rattle.al_ir.specs.Step.{Here, step_op, decimal_of, pair}
use Rattle.rv_code.specs.declared.home.Home.{Home}
use Rattle.rv_code.specs.Homes.{bring}
use Rattle.rv_code.specs.Jumps.{place}
use Rattle.rv_code.specs.Pieces.{call_code}
use Rattle.rv_code.specs.Runs.{Stands, Fine, Leads}
use Rattle.rv_code.proofs.Leading.{stands_front, stands_back, then_leads, one, fetched}
use Rattle.rv_code.proofs.Operands.{IsKept, not_eight, not_kept, home_kept}
use Rattle.rv_code.proofs.Pairs.{brings}
use Rattle.rv_code.proofs.Slots.{put_other}
use Rattle.rv_form.specs.Texts.{flag, decimal_call, decimal_code, hexadecimal_code, long_hexadecimal_code}
use Rattle.rv_form.specs.Words.{sign_word}
use Rattle.rv_match.specs.Match.{Private, InFrame}
use Rattle.rv_match.specs.Places.{Places, Homes, Passes, under}
use Rattle.rv_match.proofs.Keeping.{at_home}
use Rattle.rv_match.proofs.Steps.{Does, here, slot_does, held}
use Rattle.rv_acts.proofs.Texts.{composes_does}

-- ---- texts

-- the word above one that is extended with its sign, or with 0
abbrev upper : Bool → ℕ → ℕ
upper true x = shifted_right_signed x 31
upper false x = 0

signed_text : (x : ℕ) → x < 2 ^ 32 → cast_signed w64 (x + shifted_right_signed x 31 * 2 ^ 32) ≡ value_of true 32 x
signed_text x h = on (nat_lt x (2 ^ 31)) (nat_le (2 ^ 31) (x % 2 ^ 32)) refl refl where
  on : (b d : Bool) → nat_lt x (2 ^ 31) ≡ b → nat_le (2 ^ 31) (x % 2 ^ 32) ≡ d
      → cast_signed w64 (x + (if b then x else x + (2 ^ 64 - 2 ^ 32)) / 2 ^ (31 % 32) % 2 ^ 32 * 2 ^ 32) ≡ (if true && d then pos (x % 2 ^ 32) -ℤ pos (2 ^ 32) else pos (x % 2 ^ 32))
  on true true e f = absurd (grind (arith, nat_tests, e, f, h))
  on false false e f = absurd (grind (arith, nat_tests, e, f, h))
  on true false e f =
      let less : x < 2 ^ 31 = grind (arith, nat_tests, e) in
      let whole : x + x / 2 ^ 31 % 2 ^ 32 * 2 ^ 32 ≡ x = omega (arith, less) in
      let same : x % 2 ^ 32 ≡ x = omega (arith, h) in
      ap (cast_signed w64) whole ∙ to_z_pos w64 x (omega (arith, less)) ∙ ap pos (sym same)
  on false true e f =
      let more : 2 ^ 31 ≤ x = grind (arith, nat_tests, e) in
      let whole : x + (x + (2 ^ 64 - 2 ^ 32)) / 2 ^ 31 % 2 ^ 32 * 2 ^ 32 ≡ 2 ^ 64 - suc (2 ^ 32 - 1 - x) = omega (arith, more, h) in
      ap (cast_signed w64) whole ∙ to_z-neg w64 (2 ^ 32 - 1 - x) (omega (arith, more)) ∙ turned where
        turned : negsuc (2 ^ 32 - 1 - x) ≡ pos (x % 2 ^ 32) -ℤ pos (2 ^ 32)
        turned = omega (arith, ints, h)

word_text : (s : Bool) (x : ℕ) → x < 2 ^ 32 → decimal_text x (upper s x) (flag s) ≡ decimal_of s 32 x
word_text true x h = ap signed_decimal (signed_text x h)
word_text false x h = let same : x + 0 * 2 ^ 32 ≡ x = omega arith in ap decimal same

hex_text : (x : ℕ) → hexadecimal_text x 0 ≡ digits 16 false x
hex_text x = let same : x + 0 * 2 ^ 32 ≡ x = omega arith in ap (digits 16 false) same

long_hex_text : (x y : ℕ) → hexadecimal_text x y ≡ digits 16 false (pair x y)
long_hex_text x y = let same : x + y * 2 ^ 32 ≡ x + 2 ^ 32 * y = omega arith in ap (digits 16 false) same

-- ---- the operations

module _ (ir : Ir) (image : Contents) (l : Places) (live : (f pc unit t : ℕ) → Type 0) (Midway : (f pc unit : ℕ) → Slots → (sp : ℕ) → Hart → Type 0)
    (left : ℕ) (fr : IrFrame) (below : List IrFrame) (c : Control) (line : ℕ) (u : List ℕ) (h : Hart) (p : Privates)
    (homes : Homes l) (small : length image.code ≤ 2 ^ 23) (m : InFrame ir image l live Midway left fr below 0 c.text c.last h) (same : Private ir u p) (fine : Fine h p)
    (low : l.at fr.function (fr.pc + 1) < 2 ^ 23) (line_is : (j : ℕ) → l.at fr.function fr.pc ≤ j → j < l.at fr.function (fr.pc + 1) → line_of image (place j) ≡ line)
    (passes : Passes live fr.function fr.pc (fr.pc + 1)) where
  abbrev at_hand : Here
  at_hand = here ir image l live Midway left fr below c line u h p

  abbrev at0 : ℕ
  at0 = l.at fr.function fr.pc

  abbrev home : ℕ → Home
  home t = l.home fr.function t

  pub put_hex_does : (from : ℕ) → live fr.function fr.pc 0 from → Stands image.code at0 (hexadecimal_code (home from)) → at0 + length (hexadecimal_code (home from)) ≡ l.at fr.function (fr.pc + 1)
      → Does ir image l live Midway left h p (step_op (op.PutHex from) at_hand)
  put_hex_does from la has next =
      slot_does ir image l live Midway left fr below c line u h p from _ (λ x ex.
      let px = held ir image l live Midway left fr below c line u h p homes small m same fine from x la ex in
      let one_code : List Instr = bring (home from) 10 in
      let rest : List Instr = Immediate Addi 11 0 (pos 0) ∷ call_code 18 in
      let at1 : ℕ = at0 + length one_code in
      let code1 = stands_back image.code at0 one_code rest has in
      let g = brings image small h p at0 (under l below) (home from) 10 fine m.here m.pointer (at_home ir image l live Midway m homes from px.is_slot) (stands_front image.code at0 one_code rest has) in
      let h1 : Hart = record h { pc = g.pc; registers = g.registers; work = g.work } in
      let rs : ℕ → ℕ = put g.registers 11 0 in
      let h2 : Hart = record h { pc = g.pc + 4; registers = rs; work = g.work + 1 } in
      let second : Leads image h1 p h2 p = one image {h = h1} {next = h2} {p = p} {q = p} small (Immediate Addi 11 0 (pos 0)) at1 code1.0 g.there refl in
      composes_does ir image l live Midway left fr below c line u h p homes small m same fine low line_is passes (at1 + 1) 18 (digits 16 false x) (g.pc + 4) (g.work + 1) rs
      (then_leads image {i = h1} {j = h2} g.leads second) (omega (arith, g.there))
      (λ n k. put_other g.registers 11 0 n (not_kept 11 n (omega arith, omega arith) k) ∙ g.kept n (not_kept 10 n (omega arith, omega arith) k) (not_eight n k)) refl code1.1
      (omega (arith, next, length-append one_code rest)) (omega arith)
      (ap (λ t. composed t (record h { pc = g.pc + 4 + 4; registers = put rs 17 18; work = g.work + 1 + 1 + 1 }) p)
      (ap (λ (i : ℕ). hexadecimal_text i 0) (g.holds ∙ px.stands) ∙ hex_text x)))

  pub put_long_hex_does : (from : ℕ) → live fr.function fr.pc 0 from → live fr.function fr.pc 0 (from + 1) → Stands image.code at0 (long_hexadecimal_code (home from) (home (from + 1)))
      → at0 + length (long_hexadecimal_code (home from) (home (from + 1))) ≡ l.at fr.function (fr.pc + 1)
      → Does ir image l live Midway left h p (step_op (op.PutLongHex from) at_hand)
  put_long_hex_does from la lb has next =
      slot_does ir image l live Midway left fr below c line u h p from _ (λ x ex.
      slot_does ir image l live Midway left fr below c line u h p (from + 1) _ (λ y ey.
      let px = held ir image l live Midway left fr below c line u h p homes small m same fine from x la ex in
      let py = held ir image l live Midway left fr below c line u h p homes small m same fine (from + 1) y lb ey in
      let one_code : List Instr = bring (home from) 10 in
      let two_code : List Instr = bring (home (from + 1)) 11 in
      let call : List Instr = call_code 18 in
      let at1 : ℕ = at0 + length one_code in
      let at2 : ℕ = at1 + length two_code in
      let code1 = stands_back image.code at0 one_code (two_code ++ call) has in
      let is = at_home ir image l live Midway m homes (from + 1) py.is_slot in
      let g = brings image small h p at0 (under l below) (home from) 10 fine m.here m.pointer (at_home ir image l live Midway m homes from px.is_slot) (stands_front image.code at0 one_code (two_code ++ call) has) in
      let h1 : Hart = record h { pc = g.pc; registers = g.registers; work = g.work } in
      let first : (n : ℕ) → IsKept n → g.registers n ≡ h.registers n = λ n k. g.kept n (not_kept 10 n (omega arith, omega arith) k) (not_eight n k) in
      let g1 = brings image small h1 p at1 (under l below) (home (from + 1)) 11 (g.leads.fine fine) g.there (g.kept 2 (omega arith) (omega arith) ∙ m.pointer) is (stands_front image.code at1 two_code call code1) in
      let h2 : Hart = record h { pc = g1.pc; registers = g1.registers; work = g1.work } in
      let low_word : g1.registers 10 ≡ x = g1.kept 10 (omega arith) (omega arith) ∙ g.holds ∙ px.stands in
      let high_word : g1.registers 11 ≡ y = g1.holds ∙ home_kept (home (from + 1)) (under l below) h.registers g.registers h.stack is (λ n k. first n (inr k)) ∙ py.stands in
      composes_does ir image l live Midway left fr below c line u h p homes small m same fine low line_is passes at2 18 (digits 16 false (pair x y)) g1.pc g1.work g1.registers
      (then_leads image {i = h1} {j = h2} g.leads g1.leads) g1.there
      (λ n k. g1.kept n (not_kept 11 n (omega arith, omega arith) k) (not_eight n k) ∙ first n k) refl (stands_back image.code at1 two_code call code1)
      (omega (arith, next, length-append one_code (two_code ++ call), length-append two_code call)) (omega arith)
      (ap (λ t. composed t (record h { pc = g1.pc + 4; registers = put g1.registers 17 18; work = g1.work + 1 + 1 }) p)
      (ap₂ hexadecimal_text low_word high_word ∙ long_hex_text x y))))

  -- the sign comes to register 11
  module _ (signed : Bool) (h1 : Hart) (at1 : ℕ) (here1 : h1.pc ≡ place at1) (code : Stands image.code at1 (sign_word signed)) where
    signs : Leads image h1 p (record h1 { pc = h1.pc + 4; registers = put h1.registers 11 (upper signed (h1.registers 10)); work = h1.work + 1 }) p
    signs = on signed code where
      on : (s : Bool) → Stands image.code at1 (sign_word s) → Leads image h1 p (record h1 { pc = h1.pc + 4; registers = put h1.registers 11 (upper s (h1.registers 10)); work = h1.work + 1 }) p
      on true code = one image {h = h1} {p = p} {q = p} small (Shift Srai 11 10 31) at1 code.0 here1 refl
      on false code = one image {h = h1} {p = p} {q = p} small (Immediate Addi 11 0 (pos 0)) at1 code.0 here1 refl

  pub put_decimal_does : (signed : Bool) (from : ℕ) → live fr.function fr.pc 0 from → Stands image.code at0 (decimal_code signed (home from)) → at0 + length (decimal_code signed (home from)) ≡ l.at fr.function (fr.pc + 1)
      → Does ir image l live Midway left h p (step_op (op.PutDecimal signed from) at_hand)
  put_decimal_does signed from la has next =
      slot_does ir image l live Midway left fr below c line u h p from _ (λ x ex.
      let px = held ir image l live Midway left fr below c line u h p homes small m same fine from x la ex in
      let one_code : List Instr = bring (home from) 10 in
      let two_code : List Instr = sign_word signed in
      let call : List Instr = decimal_call signed in
      let at1 : ℕ = at0 + length one_code in
      let at2 : ℕ = at1 + length two_code in
      let one_long : length two_code ≡ 1 = single signed in
      let code1 = stands_back image.code at0 one_code (two_code ++ call) has in
      let code2 = stands_back image.code at1 two_code call code1 in
      let g = brings image small h p at0 (under l below) (home from) 10 fine m.here m.pointer (at_home ir image l live Midway m homes from px.is_slot) (stands_front image.code at0 one_code (two_code ++ call) has) in
      let h1 : Hart = record h { pc = g.pc; registers = g.registers; work = g.work } in
      let rs1 : ℕ → ℕ = put g.registers 11 (upper signed (g.registers 10)) in
      let h2 : Hart = record h { pc = g.pc + 4; registers = rs1; work = g.work + 1 } in
      let second : Leads image h1 p h2 p = signs signed h1 at1 g.there (stands_front image.code at1 two_code call code1) in
      let here2 : g.pc + 4 ≡ place at2 = omega (arith, g.there, one_long) in
      let rs : ℕ → ℕ = put rs1 12 (flag signed) in
      let h3 : Hart = record h { pc = g.pc + 4 + 4; registers = rs; work = g.work + 1 + 1 } in
      let third : Leads image h2 p h3 p = one image {h = h2} {next = h3} {p = p} {q = p} small (Immediate Addi 12 0 (pos (flag signed))) at2 code2.0 here2
      (ap (λ v. Goes (moved (with_register 12 v (fetched h2))) p) (flag_word signed)) in
      let value : g.registers 10 ≡ x = g.holds ∙ px.stands in
      composes_does ir image l live Midway left fr below c line u h p homes small m same fine low line_is passes (at2 + 1) 17 (decimal_of signed 32 x) (g.pc + 4 + 4) (g.work + 1 + 1) rs
      (then_leads image {i = h1} {j = h3} g.leads (then_leads image {i = h2} {j = h3} second third)) (omega (arith, here2))
      (λ n k. put_other rs1 12 (flag signed) n (not_kept 12 n (omega arith, omega arith) k) ∙ put_other g.registers 11 (upper signed (g.registers 10)) n (not_kept 11 n (omega arith, omega arith) k) ∙ g.kept n (not_kept 10 n (omega arith, omega arith) k) (not_eight n k)) refl code2.1
      (omega (arith, next, length-append one_code (two_code ++ call), length-append two_code call)) (omega arith)
      (ap (λ t. composed t (record h { pc = g.pc + 4 + 4 + 4; registers = put rs 17 17; work = g.work + 1 + 1 + 1 + 1 }) p)
      (ap (λ (i : ℕ). decimal_text i (upper signed i) (flag signed)) value ∙ word_text signed x px.word))) where
        flag_word : (s : Bool) → sum_of 0 (word (pos (flag s))) ≡ flag s
        flag_word true = refl
        flag_word false = refl

        single : (s : Bool) → length (sign_word s) ≡ 1
        single true = refl
        single false = refl
