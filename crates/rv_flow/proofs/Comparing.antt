-- Harts follow jumps that a comparison of two words leaves out.
use Rattle.std.proofs.Common.{◌≡◌, ◌≢◌, ℕ, zero, suc, ◌+◌, ◌^◌, ◌<◌, ◌≤◌, ◌==◌, Bool, true, false, not, nat_lt, if◌then◌else◌, List, ◌++◌, length, Option, Some, None, refl, sym, ap, ap₂, ◌∙◌, arith, subst, length-append, ◌⊎◌, inl, inr}
use Rattle.std.specs.Prelude.{bit_xor}
use Rattle.std.proofs.lemmas.Bool.{cases_eq}
use Rattle.std.proofs.lemmas.Bool.Decides.{nat_tests}
use Rattle.al_base.specs.Arith.{applied, divides}
use Rattle.al_base.specs.declared.arith.Op.{Op as Arith}
use Rattle.al_base.specs.declared.arith.Op.TheVariants as arith
use Rattle.rv_isa.specs.declared.image.Contents.{Contents}
use Rattle.rv_isa.specs.declared.instr.Instr.{Instr}
use Rattle.rv_isa.specs.declared.instr.BranchOp.{BranchOp}
use Rattle.rv_isa.specs.declared.instr.BranchOp.TheVariants.{Beq, Bne}
use Rattle.rv_exec.specs.Hart.{Hart, register}
use Rattle.rv_exec.specs.Words.{flag, less_signed, difference_of, is_taken}
use Rattle.rv_exec.specs.Calls.{Privates}
use Rattle.al_ir.specs.Bounds.{Compares, most_jumps}
use Rattle.al_ir.specs.declared.ir.Ir.{Ir}
use Rattle.al_ir.specs.declared.op.Op.TheVariants as op
use Rattle.al_ir.specs.Control.{Slots, Frame as IrFrame, Control}
use Rattle.al_ir.specs.Step.{step_op, or_divides, skips_if, goes_to, word_kind}
use Rattle.rv_code.specs.declared.home.Home.{Home}
use Rattle.rv_code.specs.declared.reach.Reach.{Reach}
use Rattle.rv_code.specs.Homes.{get_code, get_register}
use Rattle.rv_code.specs.Jumps.{branch_code}
use Rattle.rv_code.specs.Runs.{Stands, Fine}
use Rattle.rv_code.proofs.Leading.{stands_front, stands_back}
use Rattle.rv_code.proofs.Operands.{Operands, operands}
use Rattle.rv_form.specs.Flow.{not_less, is_less, unless_code, skip_unless_code}
use Rattle.rv_match.specs.Match.{Private, InFrame}
use Rattle.rv_match.specs.Places.{Places, Homes, Passes, under, jumps_before}
use Rattle.rv_match.proofs.Keeping.{at_home}
use Rattle.rv_match.proofs.Steps.{Does, here, slot_does, held}
use Rattle.rv_words.proofs.Values.{word_value, word_is, none_divides}
use Rattle.rv_flow.proofs.Jumping.{branches}

flag_off : (b : Bool) → (flag b == 0) ≡ not b
flag_off true = refl
flag_off false = refl

turned_off : (b : Bool) → (bit_xor (flag b) 1 == 0) ≡ b
turned_off true = refl
turned_off false = refl

off : (n : ℕ) → n ≢ 0 → (n == 0) ≡ false
off n other = grind (arith, nat_tests, other)

apart : (x y : ℕ) → x ≢ y → (x == y) ≡ false
apart x y other = grind (arith, nat_tests, other)

even : (x y : ℕ) → x ≡ y → (x == y) ≡ true
even x y e = grind (arith, nat_tests, e)

below_one : (n : ℕ) → nat_lt n 1 ≡ (n == 0)
below_one zero = refl
below_one (suc n) = let p : nat_lt (suc n) 1 ≡ false = grind (arith, nat_tests) in let q : (suc n == 0) ≡ false = grind (arith, nat_tests) in p ∙ sym q

above_zero : (n : ℕ) → nat_lt 0 n ≡ not (n == 0)
above_zero zero = refl
above_zero (suc n) = let p : nat_lt 0 (suc n) ≡ true = grind (arith, nat_tests) in let q : (suc n == 0) ≡ false = grind (arith, nat_tests) in p ∙ sym (ap not q)

twice : (b : Bool) → not (not b) ≡ b
twice true = refl
twice false = refl

equal_words : (x y : ℕ) → x < 2 ^ 32 → y < 2 ^ 32 → (difference_of x y == 0) ≡ (x == y)
equal_words x y a b = on (cases_eq x y) where
  on : (x ≡ y) ⊎ (x ≢ y) → (difference_of x y == 0) ≡ (x == y)
  on (inl e) = let none : difference_of x y ≡ 0 = omega (arith, e, a) in even (difference_of x y) 0 none ∙ sym (even x y e)
  on (inr other) = let some : difference_of x y ≢ 0 = λ z. other (omega (arith, z, a, b)) in off (difference_of x y) some ∙ sym (apart x y other)

-- a branch leaves the jump out where the comparison gives 0
taken_less : (s : Bool) (x y : ℕ) → is_taken (not_less s) x y ≡ (word_value arith.Lt s x y == 0)
taken_less true x y = sym (flag_off (less_signed x y))
taken_less false x y = sym (flag_off (nat_lt x y))

taken_more : (s : Bool) (x y : ℕ) → is_taken (is_less s) y x ≡ (word_value arith.Le s x y == 0)
taken_more true x y = sym (turned_off (less_signed y x))
taken_more false x y = sym (turned_off (nat_lt y x))

taken_equal : (x y : ℕ) → x < 2 ^ 32 → y < 2 ^ 32 → (s : Bool) → not (x == y) ≡ (word_value arith.Eq s x y == 0)
taken_equal x y a b s = sym (flag_off (nat_lt (difference_of x y) 1) ∙ ap not (below_one (difference_of x y) ∙ equal_words x y a b))

taken_other : (x y : ℕ) → x < 2 ^ 32 → y < 2 ^ 32 → (s : Bool) → (x == y) ≡ (word_value arith.Ne s x y == 0)
taken_other x y a b s = sym (flag_off (nat_lt 0 (difference_of x y)) ∙ ap not (above_zero (difference_of x y)) ∙ twice (difference_of x y == 0) ∙ equal_words x y a b)

no_division : (o : Arith) → Compares o → divides o ≡ false
no_division arith.Lt c = refl
no_division arith.Le c = refl
no_division arith.Eq c = refl
no_division arith.Ne c = refl
no_division arith.Add c = absurd c
no_division arith.Sub c = absurd c
no_division arith.Mul c = absurd c
no_division arith.Div c = absurd c
no_division arith.Rem c = absurd c
no_division arith.And c = absurd c
no_division arith.Or c = absurd c
no_division arith.Xor c = absurd c
no_division arith.Shl c = absurd c
no_division arith.Shr c = absurd c

module _ (ir : Ir) (image : Contents) (l : Places) (live : (f pc unit t : ℕ) → Type 0) (Midway : (f pc unit : ℕ) → Slots → (sp : ℕ) → Hart → Type 0)
    (left : ℕ) (fr : IrFrame) (below : List IrFrame) (c : Control) (line : ℕ) (u : List ℕ) (h : Hart) (p : Privates)
    (homes : Homes l) (small : length image.code ≤ 2 ^ 23) (m : InFrame ir image l live Midway left fr below 0 c.text c.last h) (same : Private ir u p) (fine : Fine h p)
    (few : jumps_before ir fr.function fr.pc ≤ most_jumps) (reach : Reach) (signed : Bool) (a b count : ℕ) (la : live fr.function fr.pc 0 a) (lb : live fr.function fr.pc 0 b) where
  abbrev at0 : ℕ
  at0 = l.at fr.function fr.pc

  abbrev home : ℕ → Home
  home t = l.home fr.function t

  abbrev to : ℕ
  to = fr.pc + 1 + count

  abbrev ra : ℕ
  ra = get_register (home a) 10

  abbrev rb : ℕ
  rb = get_register (home b) 11

  abbrev at2 : ℕ
  at2 = at0 + length (get_code (home a) 10) + length (get_code (home b) 11)

  module _ (low : at2 + 1 < 2 ^ 23) (low1 : l.at fr.function to < 2 ^ 23)
      (more : jumps_before ir fr.function fr.pc + 1 ≤ jumps_before ir fr.function to) (most : jumps_before ir fr.function fr.pc ≤ jumps_before ir fr.function (fr.pc + 1))
      (passes : Passes live fr.function fr.pc to) (passes1 : Passes live fr.function fr.pc (fr.pc + 1)) (x y : ℕ) (sx : x < 2 ^ 32) (sy : y < 2 ^ 32) (r : Operands image small h p at2 (home a) (home b) x y) where
    abbrev at_hand : Hart
    at_hand = record h { pc = r.ready.pc; registers = r.ready.registers; work = r.ready.work }

    abbrev Chosen : Bool → Type 0
    Chosen t = Does ir image l live Midway left h p (if t then goes_to to (here ir image l live Midway left fr below c line u h p) else goes_to (fr.pc + 1) (here ir image l live Midway left fr below c line u h p))

    by : (o : BranchOp) (d e : ℕ) (t : Bool) → is_taken o (register at_hand d) (register at_hand e) ≡ t → Stands image.code at2 (branch_code reach o d e at2 (l.at fr.function to))
        → at2 + length (branch_code reach o d e at2 (l.at fr.function to)) ≡ l.at fr.function (fr.pc + 1) → Chosen t
    by o d e t is has next = branches ir image l live Midway left fr below c line u h p homes small m same fine few reach o d e at2 to r.ready t is has next low low1 more most passes passes1

    compares : (o : Arith) → Compares o → Stands image.code at2 (unless_code reach o signed ra rb at2 (l.at fr.function to)) → at2 + length (unless_code reach o signed ra rb at2 (l.at fr.function to)) ≡ l.at fr.function (fr.pc + 1)
        → Chosen (word_value o signed x y == 0)
    compares arith.Lt k has next = by (not_less signed) ra rb _ (ap₂ (is_taken (not_less signed)) (r.left at_hand) (r.right at_hand) ∙ taken_less signed x y) has next
    compares arith.Le k has next = by (is_less signed) rb ra _ (ap₂ (is_taken (is_less signed)) (r.right at_hand) (r.left at_hand) ∙ taken_more signed x y) has next
    compares arith.Eq k has next = by Bne ra rb _ (ap₂ (λ (i j : ℕ). not (i == j)) (r.left at_hand) (r.right at_hand) ∙ taken_equal x y sx sy signed) has next
    compares arith.Ne k has next = by Beq ra rb _ (ap₂ (λ (i j : ℕ). i == j) (r.left at_hand) (r.right at_hand) ∙ taken_other x y sx sy signed) has next
    compares arith.Add k has next = absurd k
    compares arith.Sub k has next = absurd k
    compares arith.Mul k has next = absurd k
    compares arith.Div k has next = absurd k
    compares arith.Rem k has next = absurd k
    compares arith.And k has next = absurd k
    compares arith.Or k has next = absurd k
    compares arith.Xor k has next = absurd k
    compares arith.Shl k has next = absurd k
    compares arith.Shr k has next = absurd k

  pub skip_unless_does : (o : Arith) → Compares o → Stands image.code at0 (skip_unless_code reach o signed (home a) (home b) at0 (l.at fr.function to))
      → at0 + length (skip_unless_code reach o signed (home a) (home b) at0 (l.at fr.function to)) ≡ l.at fr.function (fr.pc + 1)
      → at2 + 1 < 2 ^ 23 → l.at fr.function to < 2 ^ 23
      → jumps_before ir fr.function fr.pc + 1 ≤ jumps_before ir fr.function to → jumps_before ir fr.function fr.pc ≤ jumps_before ir fr.function (fr.pc + 1)
      → Passes live fr.function fr.pc to → Passes live fr.function fr.pc (fr.pc + 1)
      → Does ir image l live Midway left h p (step_op (op.SkipUnless o signed a b count) (here ir image l live Midway left fr below c line u h p))
  skip_unless_does o comparing has next low low1 more most passes passes1 =
      slot_does ir image l live Midway left fr below c line u h p a _ (λ x ex.
      slot_does ir image l live Midway left fr below c line u h p b _ (λ y ey. on x y ex ey (applied o (word_kind signed) x y) refl)) where
        two : List Instr
        two = get_code (home b) 11

        jump : List Instr
        jump = unless_code reach o signed ra rb at2 (l.at fr.function to)

        rest : Stands image.code (at0 + length (get_code (home a) 10)) (two ++ jump)
        rest = stands_back image.code at0 (get_code (home a) 10) (two ++ jump) has

        lengths : at2 + length jump ≡ l.at fr.function (fr.pc + 1)
        lengths = omega (arith, next, length-append (get_code (home a) 10) (two ++ jump), length-append two jump)

        either : (t : Bool)
            → Does ir image l live Midway left h p (if t then goes_to to (here ir image l live Midway left fr below c line u h p) else goes_to (fr.pc + 1) (here ir image l live Midway left fr below c line u h p))
            → Does ir image l live Midway left h p (skips_if t count (here ir image l live Midway left fr below c line u h p))
        either true d = d
        either false d = d

        contradicts : divides o ≡ true → divides o ≡ false → ⊥
        contradicts e f = absurd (cc)

        on : (x y : ℕ) → fr.slots a ≡ Some x → fr.slots b ≡ Some y → (q : Option ℕ) → applied o (word_kind signed) x y ≡ q
            → Does ir image l live Midway left h p (or_divides (here ir image l live Midway left fr below c line u h p) q (λ z. skips_if (z == 0) count (here ir image l live Midway left fr below c line u h p)))
        on x y ex ey None f =
            let py = held ir image l live Midway left fr below c line u h p homes small m same fine b y lb ey in
            absurd (contradicts (none_divides o signed x y py.word f).0 (no_division o comparing))
        on x y ex ey (Some z) f =
            let px = held ir image l live Midway left fr below c line u h p homes small m same fine a x la ex in
            let py = held ir image l live Midway left fr below c line u h p homes small m same fine b y lb ey in
            let r = operands image small h p fine at0 (under l below) m.here m.pointer (home a) (home b) (at_home ir image l live Midway m homes a px.is_slot) (at_home ir image l live Midway m homes b py.is_slot)
            (stands_front image.code at0 (get_code (home a) 10) (two ++ jump) has) (stands_front image.code (at0 + length (get_code (home a) 10)) two jump rest) in
            let r1 : Operands image small h p at2 (home a) (home b) x y = record { ready = r.ready; left = λ i. r.left i ∙ px.stands; right = λ i. r.right i ∙ py.stands } in
            either (z == 0) (subst (λ n. Does ir image l live Midway left h p (if n == 0 then goes_to to (here ir image l live Midway left fr below c line u h p) else goes_to (fr.pc + 1) (here ir image l live Midway left fr below c line u h p)))
            (word_is o signed x y z px.word py.word f)
            (compares low low1 more most passes passes1 x y px.word py.word r1 o comparing (stands_back image.code (at0 + length (get_code (home a) 10)) two jump rest) lengths))
