-- Harts follow operations that compose a text.
use Rattle.std.proofs.Common.{◌≡◌, ℕ, ◌+◌, ◌%◌, ◌^◌, ◌<◌, ◌≤◌, Bool, true, false, nat_le, nat_lt, if◌then◌else◌, pos, List, [], ◌∷◌, ◌++◌, length, refl, ap, ◌∙◌, arith, length-append, inl}
use Rattle.std.proofs.lemmas.Bool.Decides.{nat_tests}
use Rattle.std.proofs.lemmas.Int.{ints}
use Rattle.al_base.specs.declared.trap.Trap.TheVariants as trap
use Rattle.al_event.specs.declared.act.Act.TheVariants as act
use Rattle.rv_isa.specs.declared.image.Contents.{Contents}
use Rattle.rv_isa.specs.declared.instr.Instr.TheVariants.{Immediate}
use Rattle.rv_isa.specs.declared.instr.ImmediateOp.TheVariants.{Addi}
use Rattle.rv_exec.specs.Hart.{Hart, put, moved, with_register}
use Rattle.rv_exec.specs.Words.{word, sum_of}
use Rattle.rv_exec.specs.Calls.{Privates, Goes, called, composed, traps as hart_traps}
use Rattle.rv_exec.specs.Machine.{line_of}
use Rattle.rv_exec.specs.declared.state.Waits.TheVariants.{Done}
use Rattle.al_meaning.specs.Shown.{most_text}
use Rattle.al_ir.specs.declared.ir.Ir.{Ir}
use Rattle.al_ir.specs.declared.op.Op.TheVariants as op
use Rattle.al_ir.specs.Control.{Slots, Frame as IrFrame, Control}
use Rattle.al_ir.specs.Step.{Here, step_op, composes, traps, moves}
use Rattle.rv_code.specs.Homes.{bring}
use Rattle.rv_code.specs.Jumps.{place}
use Rattle.rv_code.specs.Pieces.{call_code}
use Rattle.rv_code.specs.Runs.{Stands, Fine, Leads}
use Rattle.rv_code.proofs.Leading.{stands_front, stands_back, then_leads, then_comes, one, fetched}
use Rattle.rv_code.proofs.Operands.{IsKept, not_eight, not_kept}
use Rattle.rv_code.proofs.Pairs.{brings}
use Rattle.rv_code.proofs.Slots.{put_other}
use Rattle.rv_form.specs.Texts.{byte_code, character_code}
use Rattle.rv_match.specs.Match.{Private, InFrame}
use Rattle.rv_match.specs.Places.{Places, Homes, Passes, under}
use Rattle.rv_match.proofs.Counting.{jumps_grow}
use Rattle.rv_match.proofs.Keeping.{goes_to, at_home}
use Rattle.rv_match.proofs.Steps.{Does, here, slot_does, trap_does, held}
use Rattle.rv_acts.proofs.Calling.{call_asks, call_goes}

module _ (ir : Ir) (image : Contents) (l : Places) (live : (f pc unit t : ℕ) → Type 0) (Midway : (f pc unit : ℕ) → Slots → (sp : ℕ) → Hart → Type 0)
    (left : ℕ) (fr : IrFrame) (below : List IrFrame) (c : Control) (line : ℕ) (u : List ℕ) (h : Hart) (p : Privates)
    (homes : Homes l) (small : length image.code ≤ 2 ^ 23) (m : InFrame ir image l live Midway left fr below 0 c.text c.last h) (same : Private ir u p) (fine : Fine h p)
    (low : l.at fr.function (fr.pc + 1) < 2 ^ 23) (line_is : (j : ℕ) → l.at fr.function fr.pc ≤ j → j < l.at fr.function (fr.pc + 1) → line_of image (place j) ≡ line)
    (passes : Passes live fr.function fr.pc (fr.pc + 1)) where
  abbrev at0 : ℕ
  at0 = l.at fr.function fr.pc

  abbrev at_hand : Here
  at_hand = here ir image l live Midway left fr below c line u h p

  -- The arguments of the call stand in registers, at word at1; the call composes this piece.
  module _ (at1 number : ℕ) (piece : List ℕ) (pc1 work1 : ℕ) (rs : ℕ → ℕ) (leads : Leads image h p (record h { pc = pc1; registers = rs; work = work1 }) p)
      (there : pc1 ≡ place at1) (kept : (n : ℕ) → IsKept n → rs n ≡ h.registers n) (few : sum_of 0 (word (pos number)) ≡ number) (has : Stands image.code at1 (call_code number))
      (behind : at1 + 2 ≡ l.at fr.function (fr.pc + 1)) (from : at0 ≤ at1) where
    abbrev h1 : Hart
    h1 = record h { pc = pc1; registers = rs; work = work1 }

    abbrev calling : Hart
    calling = record h { pc = pc1 + 4; registers = put rs 17 number; work = work1 + 1 + 1 }

    pub composes_does : called number image calling p ≡ composed piece calling p → Does ir image l live Midway left h p (composes piece at_hand)
    composes_does does = on (nat_lt most_text (length c.text + length piece)) (nat_le (length h.text + length piece) 1024) refl refl where
      texts : length h.text ≡ length c.text
      texts = ap (λ (t : List ℕ). length t) m.text_is.0

      within : nat_lt most_text (length c.text + length piece) ≡ false → length (c.text ++ piece) ≤ most_text
      within q = let few : length c.text + length piece ≤ most_text = grind (arith, nat_tests, q) in omega (arith, few, length-append c.text piece)

      on : (d e : Bool) → nat_lt most_text (length c.text + length piece) ≡ d → nat_le (length h.text + length piece) 1024 ≡ e
          → Does ir image l live Midway left h p (if d then traps trap.Print at_hand else moves (record at_hand { text = c.text ++ piece }))
      on true true q r = absurd (grind (arith, nat_tests, q, r, texts))
      on false false q r = absurd (grind (arith, nat_tests, q, r, texts))
      on true false q r =
          trap_does ir image l live Midway left fr below c line u h p trap.Print (record calling { waits = Done })
          (then_comes image {i = h1} leads (call_asks image small h1 p at1 number there few has (act.Trap trap.Print) (record calling { waits = Done })
          (does ∙ ap (λ (b : Bool). if b then Goes (moved (record calling { text = h.text ++ piece })) p else hart_traps trap.Print calling p) r)))
          (ap (line_of image) (omega (arith, there)) ∙ line_is (at1 + 1) (omega (arith, from)) (omega (arith, behind))) same
      on false true q r = record {
        next = record h { pc = pc1 + 4 + 4; registers = put rs 17 number; text = h.text ++ piece; work = work1 + 1 + 1 };
        privates = p;
        leads = then_leads image {i = h1} {j = record h { pc = pc1 + 4 + 4; registers = put rs 17 number; text = h.text ++ piece; work = work1 + 1 + 1 }} leads
            (call_goes image small h1 p at1 number there few has (record h { pc = pc1 + 4 + 4; registers = put rs 17 number; text = h.text ++ piece; work = work1 + 1 + 1 })
            (does ∙ ap (λ (b : Bool). if b then Goes (moved (record calling { text = h.text ++ piece })) p else hart_traps trap.Print calling p) r));
        match = inl (goes_to ir image l live Midway m (fr.pc + 1) left (c.text ++ piece) (record h { pc = pc1 + 4 + 4; registers = put rs 17 number; text = h.text ++ piece; work = work1 + 1 + 1 })
            (omega (arith, there, behind)) (λ n k other. put_other rs 17 number n (not_kept 17 n (omega arith, omega arith) k) ∙ kept n k)
            (kept 3 (inl (omega arith, omega arith)) ∙ m.turns) (λ j. refl) (ap (λ (t : List ℕ). t ++ piece) m.text_is.0, within q) m.waits (omega (arith, m.counted, jumps_grow ir fr.function fr.pc (fr.pc + 1) (omega arith)))
            m.some m.few passes homes);
        same = same;
      }

  pub put_byte_does : (byte : ℕ) → byte < 256 → Stands image.code at0 (byte_code byte) → at0 + length (byte_code byte) ≡ l.at fr.function (fr.pc + 1)
      → Does ir image l live Midway left h p (step_op (op.PutByte byte) at_hand)
  put_byte_does byte few has next =
      let value : sum_of 0 (word (pos byte)) ≡ byte = omega (arith, ints, few) in
      let h1 : Hart = record h { pc = h.pc + 4; registers = put h.registers 10 byte; work = h.work + 1 } in
      let kept_byte : byte % 256 ≡ byte = omega (arith, few) in
      composes_does (at0 + 1) 16 (byte ∷ []) (h.pc + 4) (h.work + 1) (put h.registers 10 byte)
      (one image {h = h} {next = h1} {p = p} {q = p} small (Immediate Addi 10 0 (pos byte)) at0 has.0 m.here (ap (λ v. Goes (moved (with_register 10 v (fetched h))) p) value))
      (omega (arith, m.here)) (λ n k. put_other h.registers 10 byte n (not_kept 10 n (omega arith, omega arith) k)) refl has.1 (omega (arith, next)) (omega arith)
      (ap (λ b. composed (b ∷ []) (record h { pc = h.pc + 4 + 4; registers = put (put h.registers 10 byte) 17 16; work = h.work + 1 + 1 + 1 }) p) kept_byte)

  pub put_character_does : (from : ℕ) → live fr.function fr.pc 0 from → Stands image.code at0 (character_code (l.home fr.function from))
      → at0 + length (character_code (l.home fr.function from)) ≡ l.at fr.function (fr.pc + 1)
      → Does ir image l live Midway left h p (step_op (op.PutCharacter from) at_hand)
  put_character_does from la has next =
      slot_does ir image l live Midway left fr below c line u h p from _ (λ w e.
      let home = l.home fr.function from in
      let px = held ir image l live Midway left fr below c line u h p homes small m same fine from w la e in
      let g = brings image small h p at0 (under l below) home 10 fine m.here m.pointer (at_home ir image l live Midway m homes from px.is_slot) (stands_front image.code at0 (bring home 10) (call_code 16) has) in
      composes_does (at0 + length (bring home 10)) 16 (w % 256 ∷ []) g.pc g.work g.registers g.leads g.there
      (λ n k. g.kept n (not_kept 10 n (omega arith, omega arith) k) (not_eight n k)) refl (stands_back image.code at0 (bring home 10) (call_code 16) has)
      (omega (arith, next, length-append (bring home 10) (call_code 16))) (omega arith)
      (ap (λ b. composed (b % 256 ∷ []) (record h { pc = g.pc + 4; registers = put g.registers 17 16; work = g.work + 1 + 1 }) p) (g.holds ∙ px.stands)))
