-- Harts follow calls of functions by their numbers.
use Rattle.std.proofs.Common.{◌≡◌, ℕ, ◌+◌, ◌^◌, ◌<◌, ◌≤◌, List, ◌++◌, length, refl, sym, ap, ◌∙◌, arith, length-append, inr}
use Rattle.rv_isa.specs.declared.image.Contents.{Contents}
use Rattle.rv_isa.specs.declared.instr.Instr.{Instr}
use Rattle.rv_exec.specs.Hart.{Hart}
use Rattle.rv_exec.specs.Calls.{Privates}
use Rattle.rv_exec.specs.Machine.{line_of}
use Rattle.al_ir.specs.Bounds.{most_jumps}
use Rattle.al_ir.specs.declared.ir.Ir.{Ir}
use Rattle.al_ir.specs.declared.op.Op.TheVariants as op
use Rattle.al_ir.specs.Control.{Slots, Frame as IrFrame, Control, function_at, stack_of, arguments_of}
use Rattle.al_ir.specs.Step.{step_op}
use Rattle.rv_code.specs.declared.home.Home.TheVariants.{Frame}
use Rattle.rv_code.specs.Homes.{value_at}
use Rattle.rv_code.specs.Jumps.{place, link_code}
use Rattle.rv_code.specs.Pieces.{turn_code, up_code, down_code}
use Rattle.rv_code.specs.Runs.{Stands, Fine}
use Rattle.rv_code.proofs.Leading.{stands_front, stands_back, stays}
use Rattle.rv_code.proofs.Operands.{home_kept}
use Rattle.rv_form.specs.Flow.{stack_test, pass, invoke_code}
use Rattle.rv_match.specs.Match.{Private, Rests, InFrame}
use Rattle.rv_match.specs.Places.{Places, Homes, under, jumps_before}
use Rattle.rv_match.proofs.Keeping.{at_home}
use Rattle.rv_match.proofs.Steps.{Does, here}
use Rattle.rv_match.proofs.Turning.{turn_then}
use Rattle.rv_flow.specs.Functions.{Begins}
use Rattle.rv_flow.proofs.Entering.{enters_does}

module _ (ir : Ir) (image : Contents) (l : Places) (live : (f pc unit t : ℕ) → Type 0) (Midway : (f pc unit : ℕ) → Slots → (sp : ℕ) → Hart → Type 0)
    (left : ℕ) (fr : IrFrame) (below : List IrFrame) (c : Control) (line : ℕ) (u : List ℕ) (h : Hart) (p : Privates)
    (homes : Homes l) (small : length image.code ≤ 2 ^ 23) (m : InFrame ir image l live Midway left fr below 0 c.text c.last h) (same : Private ir u p) (fine : Fine h p)
    (fewer : jumps_before ir fr.function fr.pc ≤ most_jumps) (stacks : (f : ℕ) → stack_of (function_at ir f) ≡ l.stack f) where
  abbrev at0 : ℕ
  at0 = l.at fr.function fr.pc

  abbrev size : ℕ
  size = l.stack fr.function

  module _ (from g entry : ℕ) (b : Begins ir image l live g entry) where
    abbrev count : ℕ
    count = arguments_of (function_at ir g)

    abbrev rest : List Instr
    rest = stack_test size (l.stack g) entry ++ (pass (l.home fr.function) from size count ++ (up_code size ++ (link_code entry ++ down_code size)))

    abbrev waiting : IrFrame
    waiting = record fr { pc = fr.pc + 1 }

    -- Arguments are live slots; what is live behind the call lives in the frame.
    pub invoke_does : Stands image.code at0 (invoke_code (l.home fr.function) size (l.stack g) entry from count)
        → at0 + length (invoke_code (l.home fr.function) size (l.stack g) entry from count) ≡ l.at fr.function (fr.pc + 1) → l.at fr.function (fr.pc + 1) < 2 ^ 23
        → line_of image (place (at0 + 3)) ≡ line → l.stack fr.function ≤ 16384
        → ((i : ℕ) → i < count → live fr.function fr.pc 0 (from + i) × (from + i < l.slots fr.function))
        → ((t : ℕ) → live fr.function (fr.pc + 1) 0 t → live fr.function fr.pc 0 t × (l.home fr.function t ≡ Frame t))
        → Does ir image l live Midway left h p (step_op (op.Invoke g from) (here ir image l live Midway left fr below c line u h p))
    invoke_does has next low line_is stack_f lives across =
        let passing : List Instr = pass (l.home fr.function) from size count in
        let lengths : at0 + 4 + 5 + length passing + 8 ≡ l.at fr.function (fr.pc + 1) =
        omega (
          arith,
          next,
          length-append turn_code rest,
          length-append (stack_test size (l.stack g) entry) (passing ++ (up_code size ++ (link_code entry ++ down_code size))),
          length-append passing (up_code size ++ (link_code entry ++ down_code size)),
          length-append (up_code size) (link_code entry ++ down_code size),
          length-append (link_code entry) (down_code size),
        ) in
        turn_then ir image l live Midway small left _ u h p line at0 (jumps_before ir fr.function fr.pc) m.here (omega (arith, lengths, low)) m.turns m.few m.some m.waits m.counted fewer same fine
        (stands_front image.code at0 turn_code rest has) line_is
        (λ left1 pc1 jumps1 work1 rs waits1 q at kept three counted some few done good.
        record {
          there = record h { pc = pc1; registers = rs; waits = waits1; jumps = jumps1; work = work1 };
          leads = stays image;
          match = inr (λ u1 q1 same1 fine1.
              enters_does ir image l live Midway small homes stacks left1 (at0 + 4) from g entry waiting fr.slots below c.text u1
              (record h { pc = pc1; registers = rs; waits = waits1; jumps = jumps1; work = work1 }) q1 fine1 at
              (kept 2 (omega arith) (omega arith) ∙ m.pointer) three (kept 4 (omega arith) (omega arith) ∙ m.globals) m.text_is done counted some few same1 b
              (λ i w less e. let old = m.holds (from + i) w (lives i less).0 e in
              home_kept (l.home fr.function (from + i)) (under l below) h.registers rs h.stack (at_home ir image l live Midway m homes (from + i) old.0) (λ n k. kept n (λ z. absurd (omega (arith, k.0, z))) (λ z. absurd (omega (arith, k.0, z)))) ∙ old.1)
              (λ i less. (lives i less).1) rests m.waiting m.inside m.room stack_f (stands_back image.code at0 turn_code rest has) lengths low);
        }) left refl where
          rests : Rests ir image l live Midway waiting (under l below) h.stack
          rests t w a e =
              let k = across t a in
              let old = m.holds t w k.0 e in
              (old.0, (k.1, ap (λ home. value_at home (under l below) h.registers h.stack) (sym k.1) ∙ old.1))
