-- Harts follow blocks that are given back.
use Rattle.std.proofs.Common.{◌≡◌, ℕ, ◌+◌, ◌^◌, ◌<◌, ◌≤◌, List, ◌++◌, length, Option, Some, option_map, refl, ap, ap₂, ◌∙◌, arith, length-append}
use Rattle.al_event.specs.declared.act.Act.TheVariants as act
use Rattle.al_event.specs.declared.act.Block.{Block}
use Rattle.al_event.specs.declared.act.Block.TheVariants as block
use Rattle.rv_isa.specs.declared.image.Contents.{Contents}
use Rattle.rv_isa.specs.declared.instr.Instr.{Instr}
use Rattle.rv_exec.specs.Hart.{Hart, put, register}
use Rattle.rv_exec.specs.Calls.{Privates, Asks, asks_if_any, block_of, free_act, called}
use Rattle.rv_exec.specs.Machine.{line_of}
use Rattle.rv_exec.specs.declared.state.Waits.TheVariants.{Done}
use Rattle.al_ir.specs.Bounds.{IsMade}
use Rattle.al_ir.specs.declared.ir.Ir.{Ir}
use Rattle.al_ir.specs.declared.op.Op.TheVariants as op
use Rattle.al_ir.specs.Control.{Slots, Frame as IrFrame, Control}
use Rattle.al_ir.specs.Step.{Here, step_op}
use Rattle.rv_code.specs.declared.home.Home.{Home}
use Rattle.rv_code.specs.Homes.{bring}
use Rattle.rv_code.specs.Jumps.{place}
use Rattle.rv_code.specs.Pieces.{number_code, call_code}
use Rattle.rv_code.specs.Runs.{Stands, Fine}
use Rattle.rv_code.proofs.Leading.{stands_front, stands_back, then_leads, then_comes}
use Rattle.rv_code.proofs.Numbers.{numbers}
use Rattle.rv_code.proofs.Operands.{not_eight, not_kept}
use Rattle.rv_code.proofs.Pairs.{brings}
use Rattle.rv_code.proofs.Slots.{put_other}
use Rattle.rv_form.specs.Acts.{block_number, free_code}
use Rattle.rv_match.specs.Match.{Private, InFrame}
use Rattle.rv_match.specs.Places.{Places, Homes, Passes, under}
use Rattle.rv_match.proofs.Keeping.{at_home}
use Rattle.rv_match.proofs.Steps.{Does, here, slot_does, held}
use Rattle.rv_acts.proofs.Asking.{silent_does}
use Rattle.rv_acts.proofs.Calling.{call_asks}

-- a block that is made has a number
made_number : (kind : Block) → IsMade kind → (block_of (block_number kind) ≡ Some kind) × (block_number kind < 2 ^ 32)
made_number block.Heap made = (refl, omega arith)
made_number block.Frame made = (refl, omega arith)
made_number block.Global made = absurd made

module _ (ir : Ir) (image : Contents) (l : Places) (live : (f pc unit t : ℕ) → Type 0) (Midway : (f pc unit : ℕ) → Slots → (sp : ℕ) → Hart → Type 0)
    (left : ℕ) (fr : IrFrame) (below : List IrFrame) (c : Control) (line : ℕ) (u : List ℕ) (h : Hart) (p : Privates)
    (homes : Homes l) (small : length image.code ≤ 2 ^ 23) (m : InFrame ir image l live Midway left fr below 0 c.text c.last h) (same : Private ir u p) (fine : Fine h p)
    (low : l.at fr.function (fr.pc + 1) < 2 ^ 23) (line_is : (j : ℕ) → l.at fr.function fr.pc ≤ j → j < l.at fr.function (fr.pc + 1) → line_of image (place j) ≡ line)
    (passes : Passes live fr.function fr.pc (fr.pc + 1)) where
  abbrev at_hand : Here
  at_hand = here ir image l live Midway left fr below c line u h p

  abbrev at0 : ℕ
  at0 = l.at fr.function fr.pc

  frees : (w : ℕ) (kind : Block) → IsMade kind → (h1 : Hart) → register h1 10 ≡ w → register h1 11 ≡ block_number kind → called 5 image h1 p ≡ Asks (act.Free w kind) (record h1 { waits = Done }) p
  frees w kind made h1 ex ey =
      ap₂ (λ (x y : ℕ). asks_if_any Done (free_act x y) h1 p) ex ey
      ∙ ap (λ (o : Option Block). asks_if_any Done (option_map (λ block. act.Free w block) o) h1 p) (made_number kind made).0

  pub free_does : (a : ℕ) (kind : Block) → IsMade kind → live fr.function fr.pc 0 a → Stands image.code at0 (free_code (l.home fr.function a) kind)
      → at0 + length (free_code (l.home fr.function a) kind) ≡ l.at fr.function (fr.pc + 1)
      → Does ir image l live Midway left h p (step_op (op.Free a kind) at_hand)
  free_does a kind made la has next =
      slot_does ir image l live Midway left fr below c line u h p a _ (λ w e.
      let home : Home = l.home fr.function a in
      let px = held ir image l live Midway left fr below c line u h p homes small m same fine a w la e in
      let one : List Instr = bring home 10 in
      let two : List Instr = number_code 11 (block_number kind) in
      let call : List Instr = call_code 5 in
      let at1 : ℕ = at0 + length one in
      let at2 : ℕ = at1 + length two in
      let code1 = stands_back image.code at0 one (two ++ call) has in
      let g = brings image small h p at0 (under l below) home 10 fine m.here m.pointer (at_home ir image l live Midway m homes a px.is_slot) (stands_front image.code at0 one (two ++ call) has) in
      let h1 : Hart = record h { pc = g.pc; registers = g.registers; work = g.work } in
      let g1 = numbers image small h1 p at1 11 (block_number kind) g.there (omega arith) (made_number kind made).1 (stands_front image.code at1 two call code1) in
      let h2 : Hart = record h { pc = g1.pc; registers = g1.registers; work = g1.work } in
      let w1 : Hart = record h { pc = g1.pc + 4; registers = put g1.registers 17 5; work = g1.work + 1 + 1 } in
      let ends : at2 + 2 ≡ l.at fr.function (fr.pc + 1) = omega (arith, next, length-append one (two ++ call), length-append two call) in
      silent_does ir image l live Midway left fr below c line u h p homes small m same (act.Free w kind) w1 (at2 + 1) c.text (λ words. refl)
      (then_comes image {i = h2} (then_leads image {i = h1} {j = h2} g.leads g1.leads)
      (call_asks image small h2 p at2 5 g1.there refl (stands_back image.code at1 two call code1) (act.Free w kind) (record w1 { waits = Done })
      (frees w kind made w1 (g1.kept 10 (omega arith) (omega arith) ∙ g.holds ∙ px.stands) g1.holds)))
      (record {
        there = omega (arith, g1.there);
        low = omega (arith, ends, low);
        line_is = line_is (at2 + 1) (omega arith) (omega (arith, ends));
        kept = λ n k. put_other g1.registers 17 5 n (not_kept 17 n (omega arith, omega arith) k) ∙ g1.kept n (not_kept 11 n (omega arith, omega arith) k) (not_eight n k) ∙ g.kept n (not_kept 10 n (omega arith, omega arith) k) (not_eight n k);
        stacks = λ j. refl;
        text_is = m.text_is;
      }) (omega (arith, ends)) passes)
