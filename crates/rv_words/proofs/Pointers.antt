-- Harts follow pointers that move by elements.
use Rattle.std.proofs.Common.{◌≡◌, ◌≢◌, ℕ, ◌+◌, ◌-◌, ◌*◌, ◌%◌, ◌^◌, ◌<◌, ◌≤◌, ◌==◌, Bool, true, false, nat_le, nat_lt, if◌then◌else◌, pos, negsuc, List, [], ◌∷◌, ◌++◌, length, refl, sym, ap, ap₂, ◌∙◌, arith, subst, append_assoc, inl, inr}
use Rattle.std.proofs.lemmas.Bool.Decides.{nat_tests}
use Rattle.std.proofs.lemmas.Int.{ints}
use Rattle.al_meaning.specs.Words.{stepped_by}
use Rattle.rv_isa.specs.declared.image.Contents.{Contents}
use Rattle.rv_isa.specs.declared.instr.Instr.{Instr}
use Rattle.rv_isa.specs.declared.instr.Instr.TheVariants.{Upper, Immediate, Shift, Register}
use Rattle.rv_isa.specs.declared.instr.UpperOp.TheVariants.{Lui}
use Rattle.rv_isa.specs.declared.instr.ImmediateOp.TheVariants.{Addi}
use Rattle.rv_isa.specs.declared.instr.ShiftOp.TheVariants.{Slli}
use Rattle.rv_isa.specs.declared.instr.RegisterOp.TheVariants.{Mul}
use Rattle.rv_exec.specs.Hart.{Hart, put}
use Rattle.rv_exec.specs.Words.{word, sum_of, computed}
use Rattle.rv_exec.specs.Calls.{Privates}
use Rattle.al_ir.specs.declared.ir.Ir.{Ir}
use Rattle.al_ir.specs.Control.{Slots, Frame as IrFrame, Control}
use Rattle.al_ir.specs.Step.{step_op}
use Rattle.al_ir.specs.declared.op.Op.TheVariants as op
use Rattle.rv_code.specs.declared.home.Home.{Home}
use Rattle.rv_code.specs.Homes.{value_at, low_part, high_part, get_code, get_register, put_code, put_register}
use Rattle.rv_code.specs.Pieces.{number_code}
use Rattle.rv_code.specs.Runs.{Stands, Fine}
use Rattle.rv_code.proofs.Numbers.{whole}
use Rattle.rv_code.proofs.Operands.{IsOperand, operand_some, not_kept}
use Rattle.rv_code.proofs.Slots.{put_same}
use Rattle.rv_form.specs.Words.{scaled, moved_by, advance_code}
use Rattle.rv_match.specs.Match.{Private, InFrame}
use Rattle.rv_match.specs.Places.{Places, Homes, Writes, under}
use Rattle.rv_match.proofs.Keeping.{at_home}
use Rattle.rv_match.proofs.Steps.{Does, here, slot_does, sets_does, held}
use Rattle.rv_words.proofs.Computing.{ComputesTwo, computes_two}
use Rattle.rv_words.proofs.Straight.{reg, reg_some, AreStraight, after, Spares, spared, straight_append, after_append, spares_append}

-- ---- a number in register 12

module _ (n : ℕ) (fits : n < 2 ^ 32) where
  abbrev in_two : List Instr
  in_two = Upper Lui 12 (high_part n) ∷ Immediate Addi 12 12 (low_part n) ∷ []

  abbrev cases : (b c : Bool) → List Instr
  cases b c = if b then Immediate Addi 12 0 (pos n) ∷ [] else (if c then Immediate Addi 12 0 (negsuc (2 ^ 32 - 1 - n)) ∷ [] else in_two)

  number_straight : AreStraight (number_code 12 n)
  number_straight = on (nat_lt n (2 ^ 11)) (nat_le (2 ^ 32 - 2 ^ 11) n) where
    on : (b c : Bool) → AreStraight (cases b c)
    on true c = (tt, tt)
    on false true = (tt, tt)
    on false false = (tt, (tt, tt))

  number_spares : (k : ℕ) → k ≢ 12 → Spares k (number_code 12 n)
  number_spares k other = on (nat_lt n (2 ^ 11)) (nat_le (2 ^ 32 - 2 ^ 11) n) where
    on : (b c : Bool) → Spares k (cases b c)
    on true c = (other, tt)
    on false true = (other, tt)
    on false false = (other, (other, tt))

  number_gives : (r : ℕ → ℕ) → after (number_code 12 n) r 12 ≡ n
  number_gives r = on (nat_lt n (2 ^ 11)) (nat_le (2 ^ 32 - 2 ^ 11) n) refl refl where
    on : (b c : Bool) → nat_lt n (2 ^ 11) ≡ b → nat_le (2 ^ 32 - 2 ^ 11) n ≡ c → after (cases b c) r 12 ≡ n
    on true c e f =
        let less : n < 2 ^ 11 = grind (arith, nat_tests, e) in
        let value : sum_of 0 (word (pos n)) ≡ n = omega (arith, ints, less) in
        put_same r 12 (sum_of 0 (word (pos n))) ∙ value
    on false true e f =
        let more : 2 ^ 32 - 2 ^ 11 ≤ n = grind (arith, nat_tests, f) in
        let value : sum_of 0 (word (negsuc (2 ^ 32 - 1 - n))) ≡ n = omega (arith, ints, more, fits) in
        put_same r 12 (sum_of 0 (word (negsuc (2 ^ 32 - 1 - n)))) ∙ value
    on false false e f = put_same (put r 12 (high_part n * 2 ^ 12)) 12 _ ∙ ap (λ v. sum_of v (word (low_part n))) (put_same r 12 (high_part n * 2 ^ 12)) ∙ whole n fits

-- ---- so many bytes each

-- the bytes of so many elements come to register 11, with no other register changed but 12
record Scales (size : ℕ) (code : List Instr) (b : ℕ) : Type 0 where
  straight : AreStraight code
  spares : (k : ℕ) → k ≢ 11 → k ≢ 12 → Spares k code
  gives : IsOperand 11 b → (r : ℕ → ℕ) → reg r b < 2 ^ 32 → after code r 11 ≡ reg r b * size % 2 ^ 32

module _ (size : ℕ) (fits : size < 2 ^ 32) (b : ℕ) where
  by_number : Scales size (number_code 12 size ++ Register Mul 11 b 12 ∷ []) b
  by_number = record {
    straight = straight_append (number_code 12 size) (Register Mul 11 b 12 ∷ []) (number_straight size fits) (tt, tt);
    spares = λ k x y. spares_append k (number_code 12 size) (Register Mul 11 b 12 ∷ []) (number_spares size fits k y) (x, tt);
    gives = λ ib r small.
        let some : b ≢ 0 = operand_some 11 b (omega arith) ib in
        let r1 : ℕ → ℕ = after (number_code 12 size) r in
        let left : reg r1 b ≡ reg r b = reg_some r1 b some ∙ spared b (number_code 12 size) r (number_spares size fits b (not_twelve b ib)) ∙ sym (reg_some r b some) in
        ap (λ (q : ℕ → ℕ). q 11) (after_append (number_code 12 size) (Register Mul 11 b 12 ∷ []) r)
        ∙ put_same r1 11 (reg r1 b * reg r1 12 % 2 ^ 32) ∙ ap₂ (λ (x y : ℕ). x * y % 2 ^ 32) left (number_gives size fits r);
  } where
    not_twelve : (n : ℕ) → IsOperand 11 n → n ≢ 12
    not_twelve n (inl e) f = absurd (omega (arith, e, f))
    not_twelve n (inr q) f = absurd (omega (arith, q.0, f))

  scales : Scales size (scaled size 11 b) b
  scales = on (size == 1) (size == 2) (size == 4) refl refl refl where
    on : (d e f : Bool) → (size == 1) ≡ d → (size == 2) ≡ e → (size == 4) ≡ f
        → Scales size (if d then Immediate Addi 11 b (pos 0) ∷ [] else (if e then Shift Slli 11 b 1 ∷ [] else (if f then Shift Slli 11 b 2 ∷ [] else (number_code 12 size ++ Register Mul 11 b 12 ∷ [])))) b
    on true e f q r s =
        let is : size ≡ 1 = grind (arith, nat_tests, q) in
        record {
          straight = (tt, tt);
          spares = λ k x y. (x, tt);
          gives = λ ib r small. put_same r 11 (sum_of (reg r b) (word (pos 0))) ∙ same (reg r b) small ∙ sym (ap (λ n. reg r b * n % 2 ^ 32) is);
        } where
          same : (x : ℕ) → x < 2 ^ 32 → sum_of x (word (pos 0)) ≡ x * 1 % 2 ^ 32
          same x a = omega (arith, ints, a)
    on false true f q r s =
        let is : size ≡ 2 = grind (arith, nat_tests, r) in
        record { straight = (tt, tt); spares = λ k x y. (x, tt); gives = λ ib r small. put_same r 11 (reg r b * 2 ^ (1 % 32) % 2 ^ 32) ∙ sym (ap (λ n. reg r b * n % 2 ^ 32) is) }
    on false false true q r s =
        let is : size ≡ 4 = grind (arith, nat_tests, s) in
        record { straight = (tt, tt); spares = λ k x y. (x, tt); gives = λ ib r small. put_same r 11 (reg r b * 2 ^ (2 % 32) % 2 ^ 32) ∙ sym (ap (λ n. reg r b * n % 2 ^ 32) is) }
    on false false false q r s = by_number

-- ---- a pointer that moves

moves_by : (back : Bool) (p k size : ℕ) → computed (moved_by back) p (k * size % 2 ^ 32) ≡ stepped_by back size p k
moves_by true p k size = refl
moves_by false p k size = add_mod (k * size) where
  add_mod : (n : ℕ) → (p + n % 2 ^ 32) % 2 ^ 32 ≡ (p + n) % 2 ^ 32
  add_mod n = omega arith

pub advances : (back : Bool) (size : ℕ) → size < 2 ^ 32 → ComputesTwo (λ p k. stepped_by back size p k) (λ d a b. scaled size 11 b ++ Register (moved_by back) d a 11 ∷ [])
advances back size fits = record {
  straight = λ d a b. straight_append (scaled size 11 b) (Register (moved_by back) d a 11 ∷ []) (scales size fits b).straight (tt, tt);
  gives = λ d a b r id ia ib sa sb.
      let s = scales size fits b in
      let some : a ≢ 0 = operand_some 10 a (omega arith) ia in
      let r1 : ℕ → ℕ = after (scaled size 11 b) r in
      let left : reg r1 a ≡ reg r a = reg_some r1 a some ∙ spared a (scaled size 11 b) r (s.spares a (apart a ia 11 (omega arith, omega arith)) (apart a ia 12 (omega arith, omega arith))) ∙ sym (reg_some r a some) in
      let right : reg r1 11 ≡ reg r b * size % 2 ^ 32 = s.gives ib r sb in
      ap (λ (q : ℕ → ℕ). q d) (after_append (scaled size 11 b) (Register (moved_by back) d a 11 ∷ []) r)
      ∙ put_same r1 d (computed (moved_by back) (reg r1 a) (reg r1 11)) ∙ ap₂ (computed (moved_by back)) left right ∙ moves_by back (reg r a) (reg r b) size;
  spares = λ d a b n other k. spares_append n (scaled size 11 b) (Register (moved_by back) d a 11 ∷ [])
      ((scales size fits b).spares n (not_kept 11 n (omega arith, omega arith) k) (not_kept 12 n (omega arith, omega arith) k)) (other, tt);
} where
  apart : (a : ℕ) → IsOperand 10 a → (n : ℕ) → (11 ≤ n) × (n ≤ 17) → a ≢ n
  apart a (inl e) n b z = absurd (omega (arith, e, b.0, z))
  apart a (inr q) n b z = absurd (omega (arith, q.0, b.1, z))

module _ (ir : Ir) (image : Contents) (l : Places) (live : (f pc unit t : ℕ) → Type 0) (Midway : (f pc unit : ℕ) → Slots → (sp : ℕ) → Hart → Type 0)
    (left : ℕ) (fr : IrFrame) (below : List IrFrame) (c : Control) (line : ℕ) (u : List ℕ) (h : Hart) (p : Privates)
    (homes : Homes l) (small : length image.code ≤ 2 ^ 23) (m : InFrame ir image l live Midway left fr below 0 c.text c.last h) (same : Private ir u p) (fine : Fine h p)
    (to a b : ℕ) (la : live fr.function fr.pc 0 a) (lb : live fr.function fr.pc 0 b) (lt : to < l.slots fr.function) (apart : Writes l live fr.function fr.pc to) where
  abbrev at0 : ℕ
  at0 = l.at fr.function fr.pc

  abbrev home : ℕ → Home
  home t = l.home fr.function t

  abbrev parts : (back : Bool) (size : ℕ) → List Instr
  parts back size = scaled size 11 (get_register (home b) 11) ++ Register (moved_by back) (put_register (home to) 10) (get_register (home a) 10) 11 ∷ []

  abbrev whole_code : (back : Bool) (size : ℕ) → List Instr
  whole_code back size = get_code (home a) 10 ++ (get_code (home b) 11 ++ (parts back size ++ put_code (home to) 10))

  same_code : (back : Bool) (size : ℕ) → advance_code back size (home to) (home a) (home b) ≡ whole_code back size
  same_code back size =
      ap (λ (rest : List Instr). get_code (home a) 10 ++ (get_code (home b) 11 ++ rest))
      (sym (append_assoc (scaled size 11 (get_register (home b) 11)) (Register (moved_by back) (put_register (home to) 10) (get_register (home a) 10) 11 ∷ []) (put_code (home to) 10)))

  pub advance_does : (back : Bool) (size : ℕ) → size < 2 ^ 32 → Stands image.code at0 (advance_code back size (home to) (home a) (home b))
      → at0 + length (advance_code back size (home to) (home a) (home b)) ≡ l.at fr.function (fr.pc + 1)
      → Does ir image l live Midway left h p (step_op (op.Advance back size to a b) (here ir image l live Midway left fr below c line u h p))
  advance_does back size fits has next =
      slot_does ir image l live Midway left fr below c line u h p a _ (λ x ex.
      slot_does ir image l live Midway left fr below c line u h p b _ (λ y ey.
      let px = held ir image l live Midway left fr below c line u h p homes small m same fine a x la ex in
      let py = held ir image l live Midway left fr below c line u h p homes small m same fine b y lb ey in
      let has1 : Stands image.code at0 (whole_code back size) = subst (λ (is : List Instr). Stands image.code at0 is) (same_code back size) has in
      let next1 : at0 + length (whole_code back size) ≡ l.at fr.function (fr.pc + 1) = subst (λ (is : List Instr). at0 + length is ≡ l.at fr.function (fr.pc + 1)) (same_code back size) next in
      sets_does ir image l live Midway left fr below c line u h p homes small m same fine to (stepped_by back size x y)
      (stepped_by back size (value_at (home a) (under l below) h.registers h.stack) (value_at (home b) (under l below) h.registers h.stack))
      (at0 + length (whole_code back size)) lt (ap₂ (stepped_by back size) px.stands py.stands) next1 apart
      (computes_two image small h p fine at0 (under l below) m.here m.pointer (advances back size fits) (home to) (home a) (home b)
      (at_home ir image l live Midway m homes to lt) (at_home ir image l live Midway m homes a px.is_slot) (at_home ir image l live Midway m homes b py.is_slot) has1)))
