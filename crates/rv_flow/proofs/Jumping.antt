-- Harts follow jumps forward, taken or not.
use Rattle.std.proofs.Common.{◌≡◌, ◌≢◌, ℕ, ◌+◌, ◌^◌, ◌<◌, ◌≤◌, ◌==◌, Bool, true, false, nat_lt, not, if◌then◌else◌, List, length, refl, ap, ◌∙◌, arith, length-append, inl, inr}
use Rattle.std.proofs.lemmas.Bool.Decides.{nat_tests}
use Rattle.rv_isa.specs.declared.image.Contents.{Contents}
use Rattle.rv_isa.specs.declared.instr.BranchOp.{BranchOp}
use Rattle.rv_isa.specs.declared.instr.BranchOp.TheVariants.{Beq, Bne}
use Rattle.rv_exec.specs.Hart.{Hart, register}
use Rattle.rv_exec.specs.Words.{is_taken}
use Rattle.rv_exec.specs.Calls.{Privates}
use Rattle.rv_exec.specs.Step.{most_jumps}
use Rattle.al_ir.specs.Bounds.{most_jumps as most_jumps_of_functions}
use Rattle.al_ir.specs.declared.ir.Ir.{Ir}
use Rattle.al_ir.specs.declared.op.Op.TheVariants as op
use Rattle.al_ir.specs.Control.{Slots, Frame as IrFrame, Control}
use Rattle.al_ir.specs.Step.{step_op, goes_to as goes_to_op, lost, skips_if}
use Rattle.rv_code.specs.declared.home.Home.{Home}
use Rattle.rv_code.specs.declared.reach.Reach.{Reach}
use Rattle.rv_code.specs.Homes.{get_code, get_register}
use Rattle.rv_code.specs.Jumps.{place, jump_code, branch_code}
use Rattle.rv_code.specs.Runs.{Stands, Fine, Leads}
use Rattle.rv_code.proofs.Leading.{stands_front, stands_back, then_leads}
use Rattle.rv_code.proofs.Jumps.{jump_does, branch_goes, branch_stays}
use Rattle.rv_code.proofs.Operands.{IsKept, Ready, operand}
use Rattle.rv_form.specs.Flow.{skip_code}
use Rattle.rv_match.specs.Match.{Private, InFrame}
use Rattle.rv_match.specs.Places.{Places, Homes, Passes, under, jumps_before}
use Rattle.rv_match.proofs.Keeping.{goes_to, at_home}
use Rattle.rv_match.proofs.Steps.{Does, here, slot_does, held}

-- registers that frames and slots live in are neither 0 nor 5
pub not_zero : (n : ℕ) → IsKept n → n ≢ 0
not_zero n (inl f) e = absurd (omega (arith, f.0, e))
not_zero n (inr f) e = absurd (omega (arith, f.0, e))

pub not_five : (n : ℕ) → IsKept n → n ≢ 5
not_five n (inl f) e = absurd (omega (arith, f.1, e))
not_five n (inr f) e = absurd (omega (arith, f.0, e))

module _ (ir : Ir) (image : Contents) (l : Places) (live : (f pc unit t : ℕ) → Type 0) (Midway : (f pc unit : ℕ) → Slots → (sp : ℕ) → Hart → Type 0)
    (left : ℕ) (fr : IrFrame) (below : List IrFrame) (c : Control) (line : ℕ) (u : List ℕ) (h : Hart) (p : Privates)
    (homes : Homes l) (small : length image.code ≤ 2 ^ 23) (m : InFrame ir image l live Midway left fr below 0 c.text c.last h) (same : Private ir u p) (fine : Fine h p)
    (few : jumps_before ir fr.function fr.pc ≤ most_jumps_of_functions) where
  abbrev at0 : ℕ
  at0 = l.at fr.function fr.pc

  -- there is room for one more counted jump
  pub jump_room : h.jumps < most_jumps
  jump_room = omega (arith, m.counted, few, m.some)

  -- the hart came to another operation of the function, with scratch registers changed at most
  pub comes_to : (to pc1 jumps1 work1 : ℕ) (rs : ℕ → ℕ) → Leads image h p (record h { pc = pc1; registers = rs; jumps = jumps1; work = work1 }) p → pc1 ≡ place (l.at fr.function to)
      → ((n : ℕ) → IsKept n → rs n ≡ h.registers n) → jumps1 + jumps_before ir fr.function fr.pc ≤ h.jumps + jumps_before ir fr.function to → Passes live fr.function fr.pc to
      → Does ir image l live Midway left h p (goes_to_op to (here ir image l live Midway left fr below c line u h p))
  comes_to to pc1 jumps1 work1 rs leads there kept counted passes = record {
    next = record h { pc = pc1; registers = rs; jumps = jumps1; work = work1 };
    privates = p;
    leads = leads;
    match = inl (goes_to ir image l live Midway m to left c.text (record h { pc = pc1; registers = rs; jumps = jumps1; work = work1 }) there (λ n k other. kept n k)
        (kept 3 (inl (omega arith, omega arith)) ∙ m.turns) (λ j. refl) m.text_is m.waits (omega (arith, counted, m.counted)) m.some m.few passes homes);
    same = same;
  }

  -- a jump to an operation
  pub jumps_to : (reach : Reach) (to : ℕ) → Stands image.code at0 (jump_code reach at0 (l.at fr.function to)) → at0 < 2 ^ 23 → l.at fr.function to < 2 ^ 23
      → jumps_before ir fr.function fr.pc + 1 ≤ jumps_before ir fr.function to → Passes live fr.function fr.pc to
      → Does ir image l live Midway left h p (goes_to_op to (here ir image l live Midway left fr below c line u h p))
  jumps_to reach to has low low1 more passes =
      let j = jump_does image small h p at0 (l.at fr.function to) m.here low low1 jump_room reach has in
      comes_to to (place (l.at fr.function to)) j.jumps j.work j.registers j.leads refl (λ n k. j.kept n (not_zero n k) (not_five n k)) (omega (arith, j.counted, more)) passes

  pub skip_does : (reach : Reach) (count : ℕ) → Stands image.code at0 (jump_code reach at0 (l.at fr.function (fr.pc + 1 + count))) → at0 < 2 ^ 23 → l.at fr.function (fr.pc + 1 + count) < 2 ^ 23
      → jumps_before ir fr.function fr.pc + 1 ≤ jumps_before ir fr.function (fr.pc + 1 + count) → Passes live fr.function fr.pc (fr.pc + 1 + count)
      → Does ir image l live Midway left h p (step_op (op.Skip count) (here ir image l live Midway left fr below c line u h p))
  skip_does reach count has low low1 more passes = jumps_to reach (fr.pc + 1 + count) has low low1 more passes

  pub go_to_does : (reach : Reach) (to : ℕ) → fr.pc < to → Stands image.code at0 (jump_code reach at0 (l.at fr.function to)) → at0 < 2 ^ 23 → l.at fr.function to < 2 ^ 23
      → jumps_before ir fr.function fr.pc + 1 ≤ jumps_before ir fr.function to → Passes live fr.function fr.pc to
      → Does ir image l live Midway left h p (step_op (op.GoTo to) (here ir image l live Midway left fr below c line u h p))
  go_to_does reach to further has low low1 more passes = on (nat_lt fr.pc to) (grind (arith, nat_tests, further)) where
    on : (b : Bool) → b ≡ true
        → Does ir image l live Midway left h p (if b then goes_to_op to (here ir image l live Midway left fr below c line u h p) else lost (here ir image l live Midway left fr below c line u h p))
    on true e = jumps_to reach to has low low1 more passes
    on false e = absurd (cc)

  -- ---- branches

  -- A branch on words that stand in registers, from word at1 on; where it is taken, to an operation, else to the next one.
  pub branches : (reach : Reach) (o : BranchOp) (a b at1 to : ℕ) → (r : Ready image small h p at1) → (taken : Bool)
      → is_taken o (register (record h { pc = r.pc; registers = r.registers; work = r.work }) a) (register (record h { pc = r.pc; registers = r.registers; work = r.work }) b) ≡ taken
      → Stands image.code at1 (branch_code reach o a b at1 (l.at fr.function to)) → at1 + length (branch_code reach o a b at1 (l.at fr.function to)) ≡ l.at fr.function (fr.pc + 1)
      → at1 + 1 < 2 ^ 23 → l.at fr.function to < 2 ^ 23
      → jumps_before ir fr.function fr.pc + 1 ≤ jumps_before ir fr.function to → jumps_before ir fr.function fr.pc ≤ jumps_before ir fr.function (fr.pc + 1)
      → Passes live fr.function fr.pc to → Passes live fr.function fr.pc (fr.pc + 1)
      → Does ir image l live Midway left h p (if taken then goes_to_op to (here ir image l live Midway left fr below c line u h p) else goes_to_op (fr.pc + 1) (here ir image l live Midway left fr below c line u h p))
  branches reach o a b at1 to r true is has next low low1 more most passes passes1 =
      let h1 : Hart = record h { pc = r.pc; registers = r.registers; work = r.work } in
      let j = branch_goes image small o a b at1 (l.at fr.function to) h1 p r.there low low1 jump_room reach has is in
      comes_to to (place (l.at fr.function to)) j.jumps j.work j.registers
      (then_leads image {i = h1} {j = record h { pc = place (l.at fr.function to); registers = j.registers; jumps = j.jumps; work = j.work }} r.leads j.leads) refl
      (λ n k. j.kept n (not_zero n k) (not_five n k) ∙ r.kept n k) (omega (arith, j.counted, more)) passes
  branches reach o a b at1 to r false is has next low low1 more most passes passes1 =
      let h1 : Hart = record h { pc = r.pc; registers = r.registers; work = r.work } in
      let g = branch_stays image small o a b at1 (l.at fr.function to) h1 p r.there low low1 jump_room reach has is in
      comes_to (fr.pc + 1) (place (at1 + length (branch_code reach o a b at1 (l.at fr.function to)))) h.jumps g.work r.registers
      (then_leads image {i = h1} {j = record h { pc = place (at1 + length (branch_code reach o a b at1 (l.at fr.function to))); registers = r.registers; work = g.work }} r.leads g.leads) (ap place next)
      r.kept (omega (arith, most)) passes1

  module _ (reach : Reach) (slot count : ℕ) (la : live fr.function fr.pc 0 slot) where
    abbrev home : Home
    home = l.home fr.function slot

    abbrev to : ℕ
    to = fr.pc + 1 + count

    abbrev at1 : ℕ
    at1 = at0 + length (get_code home 10)

    module _ (low : at1 + 1 < 2 ^ 23) (low1 : l.at fr.function to < 2 ^ 23)
        (more : jumps_before ir fr.function fr.pc + 1 ≤ jumps_before ir fr.function to) (most : jumps_before ir fr.function fr.pc ≤ jumps_before ir fr.function (fr.pc + 1))
        (passes : Passes live fr.function fr.pc to) (passes1 : Passes live fr.function fr.pc (fr.pc + 1)) where
      pub skip_if_zero_does : Stands image.code at0 (skip_code reach Beq home at0 (l.at fr.function to)) → at0 + length (skip_code reach Beq home at0 (l.at fr.function to)) ≡ l.at fr.function (fr.pc + 1)
          → Does ir image l live Midway left h p (step_op (op.SkipIfZero slot count) (here ir image l live Midway left fr below c line u h p))
      skip_if_zero_does has next =
          slot_does ir image l live Midway left fr below c line u h p slot _ (λ w e.
          let px = held ir image l live Midway left fr below c line u h p homes small m same fine slot w la e in
          let code = branch_code reach Beq (get_register home 10) 0 at1 (l.at fr.function to) in
          let o = operand image small h p fine at0 (under l below) m.here m.pointer home (at_home ir image l live Midway m homes slot px.is_slot) (stands_front image.code at0 (get_code home 10) code has) in
          either (w == 0) (branches reach Beq (get_register home 10) 0 at1 to o.ready (w == 0) (ap (λ n. n == 0) (o.is (record h { pc = o.ready.pc; registers = o.ready.registers; work = o.ready.work }) ∙ px.stands)) (stands_back image.code at0 (get_code home 10) code has)
          (omega (arith, next, length-append (get_code home 10) code)) low low1 more most passes passes1)) where
            either : (b : Bool)
                → Does ir image l live Midway left h p (if b then goes_to_op to (here ir image l live Midway left fr below c line u h p) else goes_to_op (fr.pc + 1) (here ir image l live Midway left fr below c line u h p))
                → Does ir image l live Midway left h p (skips_if b count (here ir image l live Midway left fr below c line u h p))
            either true d = d
            either false d = d

      pub skip_if_set_does : Stands image.code at0 (skip_code reach Bne home at0 (l.at fr.function to)) → at0 + length (skip_code reach Bne home at0 (l.at fr.function to)) ≡ l.at fr.function (fr.pc + 1)
          → Does ir image l live Midway left h p (step_op (op.SkipIfSet slot count) (here ir image l live Midway left fr below c line u h p))
      skip_if_set_does has next =
          slot_does ir image l live Midway left fr below c line u h p slot _ (λ w e.
          let px = held ir image l live Midway left fr below c line u h p homes small m same fine slot w la e in
          let code = branch_code reach Bne (get_register home 10) 0 at1 (l.at fr.function to) in
          let o = operand image small h p fine at0 (under l below) m.here m.pointer home (at_home ir image l live Midway m homes slot px.is_slot) (stands_front image.code at0 (get_code home 10) code has) in
          either (w == 0) (branches reach Bne (get_register home 10) 0 at1 to o.ready (not (w == 0)) (ap (λ n. not (n == 0)) (o.is (record h { pc = o.ready.pc; registers = o.ready.registers; work = o.ready.work }) ∙ px.stands)) (stands_back image.code at0 (get_code home 10) code has)
          (omega (arith, next, length-append (get_code home 10) code)) low low1 more most passes passes1)) where
            either : (b : Bool)
                → Does ir image l live Midway left h p (if not b then goes_to_op to (here ir image l live Midway left fr below c line u h p) else goes_to_op (fr.pc + 1) (here ir image l live Midway left fr below c line u h p))
                → Does ir image l live Midway left h p (if b then goes_to_op (fr.pc + 1) (here ir image l live Midway left fr below c line u h p) else goes_to_op to (here ir image l live Midway left fr below c line u h p))
            either true d = d
            either false d = d
