-- Harts follow actions on one word, and the last actions of a task.
use Rattle.std.proofs.Common.{◌≡◌, ℕ, ◌+◌, ◌*◌, ◌^◌, ◌<◌, ◌≤◌, Bool, true, false, nat_lt, if◌then◌else◌, pos, List, [], ◌∷◌, ◌++◌, length, Some, refl, ap, ◌∙◌, arith, subst, length-append}
use Rattle.std.specs.Int.{cast_signed, w32}
use Rattle.al_base.specs.declared.trap.Trap.{Trap}
use Rattle.al_event.specs.declared.act.Act.{Act}
use Rattle.al_event.specs.declared.act.Act.TheVariants as act
use Rattle.al_world.specs.Control.{fitted, cut}
use Rattle.rv_isa.specs.declared.image.Contents.{Contents}
use Rattle.rv_isa.specs.declared.instr.Instr.{Instr}
use Rattle.rv_isa.specs.declared.instr.Instr.TheVariants.{Store}
use Rattle.rv_isa.specs.declared.instr.StoreOp.TheVariants.{Sw}
use Rattle.rv_exec.specs.Hart.{Hart, put, register}
use Rattle.rv_exec.specs.Words.{word, sum_of}
use Rattle.rv_exec.specs.Calls.{Privates, Asks, called}
use Rattle.rv_exec.specs.Machine.{line_of}
use Rattle.rv_exec.specs.declared.state.Waits.TheVariants.{Done, Word as WordWaits}
use Rattle.al_ir.specs.declared.ir.Ir.{Ir}
use Rattle.al_ir.specs.declared.op.Op.TheVariants as op
use Rattle.al_ir.specs.Control.{Slots, Word, Frame as IrFrame, Control}
use Rattle.al_ir.specs.Step.{step_op, asks}
use Rattle.rv_code.specs.declared.home.Home.{Home}
use Rattle.rv_code.specs.declared.home.Home.TheVariants.{Frame, Saved}
use Rattle.rv_code.specs.Homes.{value_at, low_part, coming_near, bring, leave}
use Rattle.rv_code.specs.Jumps.{place}
use Rattle.rv_code.specs.Pieces.{call_code, trap_code}
use Rattle.rv_code.specs.Runs.{Stands, Fine}
use Rattle.rv_code.proofs.Leading.{stands_front, stands_back, then_comes}
use Rattle.rv_code.proofs.Numbers.{trap_asks, trapped}
use Rattle.rv_code.proofs.Operands.{not_eight, not_kept}
use Rattle.rv_code.proofs.Pairs.{brings}
use Rattle.rv_code.proofs.Slots.{Got, put_other}
use Rattle.rv_form.specs.Acts.{free_chan_code, chan_question}
use Rattle.rv_form.specs.Texts.{print_code, terminate_code}
use Rattle.rv_match.specs.Match.{Private, InFrame}
use Rattle.rv_match.specs.Places.{Places, Homes, Writes, Passes, under}
use Rattle.rv_match.proofs.Keeping.{at_home}
use Rattle.rv_match.proofs.Steps.{Does, here, slot_does, trap_does, Held, held}
use Rattle.rv_acts.proofs.Asking.{Waits, silent_does, word_does}
use Rattle.rv_acts.proofs.Calling.{call_asks}

module _ (ir : Ir) (image : Contents) (l : Places) (live : (f pc unit t : ℕ) → Type 0) (Midway : (f pc unit : ℕ) → Slots → (sp : ℕ) → Hart → Type 0)
    (left : ℕ) (fr : IrFrame) (below : List IrFrame) (c : Control) (line : ℕ) (u : List ℕ) (h : Hart) (p : Privates)
    (homes : Homes l) (small : length image.code ≤ 2 ^ 23) (m : InFrame ir image l live Midway left fr below 0 c.text c.last h) (same : Private ir u p) (fine : Fine h p)
    (low : l.at fr.function (fr.pc + 1) < 2 ^ 23) (line_is : (j : ℕ) → l.at fr.function fr.pc ≤ j → j < l.at fr.function (fr.pc + 1) → line_of image (place j) ≡ line) where
  abbrev at0 : ℕ
  at0 = l.at fr.function fr.pc

  abbrev home : ℕ → Home
  home t = l.home fr.function t

  -- ---- one argument

  -- the word of a slot in register 10, and a runtime call
  module _ (a w number : ℕ) (la : live fr.function fr.pc 0 a) (is : fr.slots a ≡ Some w) (rest_has : Stands image.code at0 (bring (home a) 10)) where
    px : Held ir image l live Midway left fr below c line u h p homes small m same fine a w
    px = held ir image l live Midway left fr below c line u h p homes small m same fine a w la is

    brought : Got image small h p (at0 + length (bring (home a) 10)) 10 (value_at (home a) (under l below) h.registers h.stack) 10
    brought = brings image small h p at0 (under l below) (home a) 10 fine m.here m.pointer (at_home ir image l live Midway m homes a px.is_slot) rest_has

    abbrev at1 : ℕ
    at1 = at0 + length (bring (home a) 10)

    abbrev before_call : Hart
    before_call = record h { pc = brought.pc; registers = brought.registers; work = brought.work }

    abbrev calling : Hart
    calling = record h { pc = brought.pc + 4; registers = put brought.registers 17 number; work = brought.work + 1 + 1 }

    argument : brought.registers 10 ≡ w
    argument = brought.holds ∙ px.stands

    waits : at1 + 1 < l.at fr.function (fr.pc + 1) → Waits ir image l live Midway left fr below c line u h p homes small m same calling (at1 + 1) c.text
    waits less = record {
      there = omega (arith, brought.there);
      low = omega (arith, less, low);
      line_is = line_is (at1 + 1) (omega arith) less;
      kept = λ n k. put_other brought.registers 17 number n (not_kept 17 n (omega arith, omega arith) k) ∙ brought.kept n (not_kept 10 n (omega arith, omega arith) k) (not_eight n k);
      stacks = λ j. refl;
      text_is = m.text_is;
    }

  pub free_chan_does : (chan : ℕ) → live fr.function fr.pc 0 chan → Stands image.code at0 (free_chan_code (home chan)) → at0 + length (free_chan_code (home chan)) ≡ l.at fr.function (fr.pc + 1)
      → Passes live fr.function fr.pc (fr.pc + 1)
      → Does ir image l live Midway left h p (step_op (op.FreeChan chan) (here ir image l live Midway left fr below c line u h p))
  free_chan_does chan la has next passes =
      slot_does ir image l live Midway left fr below c line u h p chan _ (λ w e.
      let first = stands_front image.code at0 (bring (home chan) 10) (call_code 7) has in
      let g = brought chan w 7 la e first in
      let ends : at0 + length (bring (home chan) 10) + 2 ≡ l.at fr.function (fr.pc + 1) = omega (arith, next, length-append (bring (home chan) 10) (call_code 7)) in
      silent_does ir image l live Midway left fr below c line u h p homes small m same (act.FreeChan w) (calling chan w 7 la e first) (at0 + length (bring (home chan) 10) + 1) c.text (λ words. refl)
      (then_comes image {i = before_call chan w 7 la e first} g.leads
      (call_asks image small (before_call chan w 7 la e first) p (at0 + length (bring (home chan) 10)) 7 g.there refl (stands_back image.code at0 (bring (home chan) 10) (call_code 7) has) (act.FreeChan w)
      (record (calling chan w 7 la e first) { waits = Done })
      (ap (λ n. Asks (act.FreeChan n) (record (calling chan w 7 la e first) { waits = Done }) p) (argument chan w 7 la e first))))
      (waits chan w 7 la e first (omega (arith, ends))) (omega (arith, ends)) passes)

  pub terminate_does : (status : ℕ) → live fr.function fr.pc 0 status → Stands image.code at0 (terminate_code (home status)) → at0 + length (terminate_code (home status)) ≡ l.at fr.function (fr.pc + 1)
      → Passes live fr.function fr.pc (fr.pc + 1)
      → Does ir image l live Midway left h p (step_op (op.Terminate status) (here ir image l live Midway left fr below c line u h p))
  terminate_does status la has next passes =
      slot_does ir image l live Midway left fr below c line u h p status _ (λ w e.
      let first = stands_front image.code at0 (bring (home status) 10) (call_code 15) has in
      let g = brought status w 15 la e first in
      let ends : at0 + length (bring (home status) 10) + 2 ≡ l.at fr.function (fr.pc + 1) = omega (arith, next, length-append (bring (home status) 10) (call_code 15)) in
      silent_does ir image l live Midway left fr below c line u h p homes small m same (act.Terminate (cast_signed w32 w)) (calling status w 15 la e first) (at0 + length (bring (home status) 10) + 1) c.text (λ words. refl)
      (then_comes image {i = before_call status w 15 la e first} g.leads
      (call_asks image small (before_call status w 15 la e first) p (at0 + length (bring (home status) 10)) 15 g.there refl (stands_back image.code at0 (bring (home status) 10) (call_code 15) has) (act.Terminate (cast_signed w32 w))
      (record (calling status w 15 la e first) { waits = Done })
      (ap (λ n. Asks (act.Terminate (cast_signed w32 n)) (record (calling status w 15 la e first) { waits = Done }) p) (argument status w 15 la e first))))
      (waits status w 15 la e first (omega (arith, ends))) (omega (arith, ends)) passes)

  -- a question of a channel, whose answer comes to a slot
  module _ (to chan number : ℕ) (question : ℕ → Act) (fits : (w : ℕ) (words : List ℕ) → fitted (question w) words ≡ cut 1 2 words)
      (asks_it : (h1 : Hart) → called number image h1 p ≡ Asks (question (register h1 10)) (record h1 { waits = WordWaits }) p) (few : sum_of 0 (word (pos number)) ≡ number)
      (la : live fr.function fr.pc 0 chan) (lt : to < l.slots fr.function) (apart : Writes l live fr.function fr.pc to)
      (has : Stands image.code at0 (chan_question number (home to) (home chan))) (next : at0 + length (chan_question number (home to) (home chan)) ≡ l.at fr.function (fr.pc + 1)) where
    question_does : (w : ℕ) → fr.slots chan ≡ Some w → Does ir image l live Midway left h p (asks (question w) (Word to) (here ir image l live Midway left fr below c line u h p))
    question_does w e =
        let rest : List Instr = call_code number ++ leave (home to) 10 in
        let first = stands_front image.code at0 (bring (home chan) 10) rest has in
        let code1 = stands_back image.code at0 (bring (home chan) 10) rest has in
        let g = brought chan w number la e first in
        let ends : at0 + length (bring (home chan) 10) + 2 + length (leave (home to) 10) ≡ l.at fr.function (fr.pc + 1) =
        omega (arith, next, length-append (bring (home chan) 10) rest, length-append (call_code number) (leave (home to) 10)) in
        let behind : at0 + length (bring (home chan) 10) + 2 ≡ at0 + length (bring (home chan) 10) + 1 + 1 = omega arith in
        let some : 0 < length (leave (home to) 10) = some_leave (home to) in
        word_does ir image l live Midway left fr below c line u h p homes small m same (question w) (calling chan w number la e first) (at0 + length (bring (home chan) 10) + 1) to 2 (fits w) (omega arith) (omega arith)
        (then_comes image {i = before_call chan w number la e first} g.leads
        (call_asks image small (before_call chan w number la e first) p (at0 + length (bring (home chan) 10)) number g.there few (stands_front image.code (at0 + length (bring (home chan) 10)) (call_code number) (leave (home to) 10) code1) (question w)
        (record (calling chan w number la e first) { waits = WordWaits })
        (asks_it (calling chan w number la e first) ∙ ap (λ n. Asks (question n) (record (calling chan w number la e first) { waits = WordWaits }) p) (argument chan w number la e first))))
        (waits chan w number la e first (omega (arith, ends, some))) lt
        (subst (λ n. Stands image.code n (leave (home to) 10)) behind (stands_back image.code (at0 + length (bring (home chan) 10)) (call_code number) (leave (home to) 10) code1))
        (omega (arith, ends)) (omega (arith, ends, low)) apart where
          some_leave : (k : Home) → 0 < length (leave k 10)
          some_leave (Frame k) = on (nat_lt k 512) where
            on : (b : Bool) → 0 < length (if b then Store Sw 2 10 (pos (4 * k)) ∷ [] else coming_near k (Store Sw 8 10 (low_part (4 * k))))
            on true = omega arith
            on false = omega arith
          some_leave (Saved r) = omega arith

  pub can_recv_does : (to chan : ℕ) → live fr.function fr.pc 0 chan → to < l.slots fr.function → Writes l live fr.function fr.pc to
      → Stands image.code at0 (chan_question 8 (home to) (home chan)) → at0 + length (chan_question 8 (home to) (home chan)) ≡ l.at fr.function (fr.pc + 1)
      → Does ir image l live Midway left h p (step_op (op.CanRecv to chan) (here ir image l live Midway left fr below c line u h p))
  can_recv_does to chan la lt apart has next =
      slot_does ir image l live Midway left fr below c line u h p chan _ (question_does to chan 8 (λ n. act.CanRecv n) (λ w words. refl) (λ h1. refl) refl la lt apart has next)

  pub can_send_does : (to chan : ℕ) → live fr.function fr.pc 0 chan → to < l.slots fr.function → Writes l live fr.function fr.pc to
      → Stands image.code at0 (chan_question 9 (home to) (home chan)) → at0 + length (chan_question 9 (home to) (home chan)) ≡ l.at fr.function (fr.pc + 1)
      → Does ir image l live Midway left h p (step_op (op.CanSend to chan) (here ir image l live Midway left fr below c line u h p))
  can_send_does to chan la lt apart has next =
      slot_does ir image l live Midway left fr below c line u h p chan _ (question_does to chan 9 (λ n. act.CanSend n) (λ w words. refl) (λ h1. refl) refl la lt apart has next)

  -- ---- no argument

  pub print_does : Stands image.code at0 print_code → at0 + length print_code ≡ l.at fr.function (fr.pc + 1) → Passes live fr.function fr.pc (fr.pc + 1)
      → Does ir image l live Midway left h p (step_op op.Print (here ir image l live Midway left fr below c line u h p))
  print_does has next passes =
      let w : Hart = record h { pc = h.pc + 4; registers = put h.registers 17 14; text = []; work = h.work + 1 + 1 } in
      silent_does ir image l live Midway left fr below c line u h p homes small m same (act.Print c.text) w (at0 + 1) [] (λ words. refl)
      (call_asks image small h p at0 14 m.here refl has (act.Print c.text) (record w { waits = Done }) (ap (λ t. Asks (act.Print t) (record w { waits = Done }) p) m.text_is.0))
      (record {
        there = omega (arith, m.here);
        low = omega (arith, next, low);
        line_is = line_is (at0 + 1) (omega arith) (omega (arith, next));
        kept = λ n k. put_other h.registers 17 14 n (not_kept 17 n (omega arith, omega arith) k);
        stacks = λ j. refl;
        text_is = (refl, omega arith);
      }) (omega (arith, next)) passes

  pub traps_does : (t : Trap) → Stands image.code at0 (trap_code t) → at0 + length (trap_code t) ≡ l.at fr.function (fr.pc + 1)
      → Does ir image l live Midway left h p (step_op (op.Trap t) (here ir image l live Midway left fr below c line u h p))
  traps_does t has next =
      trap_does ir image l live Midway left fr below c line u h p t (trapped image small t h p at0 m.here) (trap_asks image small t h p at0 m.here has)
      (ap (line_of image) (omega (arith, m.here)) ∙ line_is (at0 + 2) (omega arith) (omega (arith, next))) same
