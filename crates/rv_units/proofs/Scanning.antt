-- Harts follow operations that compose a text from bytes of shared memory: each byte is composed before the next one is loaded.
use Rattle.std.proofs.Common.{◌≡◌, ◌≢◌, ℕ, zero, suc, ◌+◌, ◌*◌, ◌%◌, ◌^◌, ◌<◌, ◌≤◌, ◌==◌, Bool, true, false, nat_le, nat_lt, if◌then◌else◌, ℤ, pos, List, [], ◌∷◌, ◌++◌, length, Option, Some, None, refl, sym, ap, ap₂, ◌∙◌, arith, subst, length-append, ◌⊎◌, inl, inr, ⊎_elim}
use Rattle.std.specs.Prelude.{nat_eq}
use Rattle.std.proofs.lemmas.Int.{ints}
use Rattle.std.proofs.lemmas.Bool.{cases_lt}
use Rattle.std.proofs.lemmas.Bool.Decides.{nat_tests}
use Rattle.al_base.specs.declared.trap.Trap.TheVariants as trap
use Rattle.al_event.specs.declared.act.Act.TheVariants as act
use Rattle.al_world.specs.Turns.{Asks as AsksMove}
use Rattle.al_meaning.specs.Shown.{most_text}
use Rattle.al_meaning.specs.Words.{sum}
use Rattle.al_ir.specs.declared.ir.Ir.{Ir}
use Rattle.al_ir.specs.declared.ir.Operation.{Operation}
use Rattle.al_ir.specs.declared.op.Op.{Op}
use Rattle.al_ir.specs.declared.op.Op.TheVariants as op
use Rattle.al_ir.specs.Control.{Slots, put as put_slot, Frame as IrFrame, Nowhere, Byte, Control, operation_at}
use Rattle.al_ir.specs.Meaning.{resume}
use Rattle.al_ir.specs.Step.{Here, Next, step_op, step_at, here_at, private_step, control_at, traps, known, scans}
use Rattle.rv_isa.specs.declared.addresses.TheConstants.{STACK_START}
use Rattle.rv_isa.specs.declared.image.Contents.{Contents}
use Rattle.rv_isa.specs.declared.instr.Instr.{Instr}
use Rattle.rv_isa.specs.declared.instr.Instr.TheVariants.{Jal, Load, Branch, Immediate}
use Rattle.rv_isa.specs.declared.instr.BranchOp.TheVariants.{Beq}
use Rattle.rv_isa.specs.declared.instr.LoadOp.TheVariants.{Lbu}
use Rattle.rv_isa.specs.declared.instr.ImmediateOp.TheVariants.{Addi}
use Rattle.rv_exec.specs.Hart.{Hart, put, register, moved, with_register}
use Rattle.rv_exec.specs.Words.{word, sum_of}
use Rattle.rv_exec.specs.Calls.{Privates, Goes, composed, traps as hart_traps}
use Rattle.rv_exec.specs.Machine.{asked, line_of, resumed}
use Rattle.rv_exec.specs.declared.state.Waits.TheVariants.{Done, Unit as UnitWaits}
use Rattle.rv_code.specs.declared.home.Home.{Home}
use Rattle.rv_code.specs.declared.home.Home.TheVariants.{Frame, Saved}
use Rattle.rv_code.specs.declared.reach.Reach.TheVariants.{Short}
use Rattle.rv_code.specs.Homes.{value_at, IsHome, Apart, get_code, get_register, put_code, put_register}
use Rattle.rv_code.specs.Jumps.{place, distance}
use Rattle.rv_code.specs.Pieces.{call_code}
use Rattle.rv_code.specs.Runs.{Stands, Fine, Leads, Comes}
use Rattle.rv_code.proofs.Leading.{stands_front, stands_back, stays, then_leads, then_comes, one, last, fetched}
use Rattle.rv_code.proofs.Jumps.{jump_does, branch_goes, branch_stays}
use Rattle.rv_code.proofs.Operands.{IsKept, IsOperand, IsSaved, not_kept, not_eight, operand_some, got_at, gets, home_kept}
use Rattle.rv_code.proofs.Slots.{put_same, put_other, reads, frame_stores}
use Rattle.rv_form.specs.Texts.{text_code}
use Rattle.rv_match.specs.Following.{Follows, Going, Nears, Soon}
use Rattle.rv_match.specs.Match.{Private, InFrame, Plain, Match}
use Rattle.rv_match.specs.Places.{Places, Homes, Passes, under, full}
use Rattle.rv_match.proofs.Keeping.{slot_cases, not_slot, at_home, changed, goes_to}
use Rattle.rv_match.proofs.Steps.{Does, here, slot_does, held}
use Rattle.rv_acts.proofs.Asking.{one_word}
use Rattle.rv_acts.proofs.Calling.{call_asks, call_goes}
use Rattle.rv_acts.proofs.Units.{asks_load}

-- so many words further on the distance is the same
same_distance : (at x y : ℕ) → distance x y ≡ distance (at + x) (at + y)
same_distance at x y = omega (arith, ints)

not_more : (n m : ℕ) → n ≤ m → nat_lt m n ≡ false
not_more n m le = grind (arith, nat_tests, le)

more_is : (n m : ℕ) → m < n → nat_lt m n ≡ true
more_is n m less = grind (arith, nat_tests, less)

fits_so : (n m : ℕ) → n ≤ m → nat_le n m ≡ true
fits_so n m le = grind (arith, nat_tests, le)

fits_not : (n m : ℕ) → m < n → nat_le n m ≡ false
fits_not n m less = grind (arith, nat_tests, less)

equal_zero : (n : ℕ) → n ≢ 0 → (n == 0) ≡ false
equal_zero n some = grind (arith, nat_tests, some)

not_used : (i n : ℕ) → (i < 2) ⊎ ((5 ≤ i) × (i < 18)) → IsKept n → n ≢ i
not_used i n (inl a) (inl f) e = absurd (omega (arith, a, f.0, e))
not_used i n (inl a) (inr f) e = absurd (omega (arith, a, f.0, e))
not_used i n (inr a) (inl f) e = absurd (omega (arith, a.0, f.1, e))
not_used i n (inr a) (inr f) e = absurd (omega (arith, a.1, f.0, e))

got_slot : (slot v : ℕ) (slots : Slots) → put_slot slot v slots slot ≡ Some v
got_slot slot v slots = let e : nat_eq slot slot ≡ true = grind (arith, nat_tests) in ap (λ (b : Bool). if b then Some v else slots slot) e

module _ (ir : Ir) (image : Contents) (l : Places) (live : (f pc unit t : ℕ) → Type 0) (Midway : (f pc unit : ℕ) → Slots → (sp : ℕ) → Hart → Type 0)
    (left : ℕ) (fr : IrFrame) (below : List IrFrame) (c : Control) (line : ℕ) (u : List ℕ) (h : Hart) (p : Privates)
    (homes : Homes l) (small : length image.code ≤ 2 ^ 23) (m : InFrame ir image l live Midway left fr below 0 c.text c.last h) (same : Private ir u p) (fine : Fine h p)
    (slot : ℕ) (la : live fr.function fr.pc 0 slot) (passes : Passes live fr.function fr.pc (fr.pc + 1)) (apart : (t : ℕ) → live fr.function fr.pc 0 t → t ≢ slot → Apart (l.home fr.function slot) (l.home fr.function t))
    (o : Operation) (is_there : operation_at ir fr.function fr.pc ≡ Some o) (its_line : o.line ≡ line) (its_op : o.op ≡ op.PutText slot)
    (has : Stands image.code (l.at fr.function fr.pc) (text_code (l.home fr.function slot))) (next : l.at fr.function fr.pc + length (text_code (l.home fr.function slot)) ≡ l.at fr.function (fr.pc + 1))
    (low : l.at fr.function (fr.pc + 1) < 2 ^ 23) (line_is : (j : ℕ) → l.at fr.function fr.pc ≤ j → j < l.at fr.function (fr.pc + 1) → line_of image (place j) ≡ line) where
  abbrev at0 : ℕ
  at0 = l.at fr.function fr.pc

  abbrev sp : ℕ
  sp = under l below

  abbrev home : Home
  home = l.home fr.function slot

  abbrev r : ℕ
  r = get_register home 11

  abbrev step_on : List Instr
  step_on = Immediate Addi (put_register home 11) (get_register home 11) (pos 1) ∷ put_code home 11

  abbrev get : List Instr
  get = get_code home 11

  abbrev back : List Instr
  back = Jal 0 (distance (length get + 4 + length step_on) 0) ∷ []

  abbrev at1 : ℕ
  at1 = at0 + length get

  -- the branch, behind the load
  abbrev at2 : ℕ
  at2 = at1 + 1

  abbrev at_jump : ℕ
  at_jump = at1 + 4 + length step_on

  code1 : Stands image.code at1 (Load Lbu 10 r (pos 0) ∷ (Branch Beq 10 0 (distance 0 (4 + length step_on)) ∷ (call_code 16 ++ (step_on ++ back))))
  code1 = stands_back image.code at0 get (Load Lbu 10 r (pos 0) ∷ (Branch Beq 10 0 (distance 0 (4 + length step_on)) ∷ (call_code 16 ++ (step_on ++ back)))) has

  lengths : at_jump + 1 ≡ l.at fr.function (fr.pc + 1)
  lengths = omega (arith, next, length-append get (Load Lbu 10 r (pos 0) ∷ (Branch Beq 10 0 (distance 0 (4 + length step_on)) ∷ (call_code 16 ++ (step_on ++ back)))), length-append (call_code 16) (step_on ++ back), length-append step_on back)

  code_branch : Stands image.code at2 (Branch Beq 10 0 (distance at2 (at_jump + 1)) ∷ [])
  code_branch =
      let start : at2 + 0 ≡ at2 = omega arith in
      let end : at2 + (4 + length step_on) ≡ at_jump + 1 = omega arith in
      let e : distance 0 (4 + length step_on) ≡ distance at2 (at_jump + 1) = same_distance at2 0 (4 + length step_on) ∙ ap₂ distance start end in
      subst (λ (d : ℤ). Stands image.code at2 (Branch Beq 10 0 d ∷ [])) e (code1.1.0, tt)

  code_call : Stands image.code (at2 + 1) (call_code 16 ++ (step_on ++ back))
  code_call = code1.1.1

  code_step : Stands image.code (at1 + 4) (step_on ++ back)
  code_step = let e : at2 + 1 + 2 ≡ at1 + 4 = omega arith in subst (λ n. Stands image.code n (step_on ++ back)) e (stands_back image.code (at2 + 1) (call_code 16) (step_on ++ back) code_call)

  code_back : Stands image.code at_jump (Jal 0 (distance at_jump at0) ∷ [])
  code_back =
      let start : at0 + (length get + 4 + length step_on) ≡ at_jump = omega arith in
      let end : at0 + 0 ≡ at0 = omega arith in
      let e : distance (length get + 4 + length step_on) 0 ≡ distance at_jump at0 = same_distance at0 (length get + 4 + length step_on) 0 ∙ ap₂ distance start end in
      subst (λ (d : ℤ). Stands image.code at_jump (Jal 0 d ∷ [])) e (stands_back image.code (at1 + 4) step_on back code_step)

  module _ (a : ℕ) (is_a : fr.slots slot ≡ Some a) where
    is_slot : slot < l.slots fr.function
    is_slot = (m.holds slot a la is_a).0

    is_home : IsHome sp home
    is_home = at_home ir image l live Midway m homes slot is_slot

    r_is : IsOperand 11 r
    r_is = got_at sp home 11 is_home

    r_apart : (n : ℕ) → n ≢ 11 → n < 18 → r ≢ n
    r_apart n other few e = on r_is where
      on : IsOperand 11 r → ⊥
      on (inl f) = other (sym e ∙ f)
      on (inr f) = absurd (omega (arith, e, f.0, few))

    -- ---- behind the load

    -- a hart that has got a byte: the address stands in its register
    record Answered (g : Hart) (v : ℕ) : Type 0 where
      there : g.pc ≡ place at2
      ten : g.registers 10 ≡ v
      address : g.registers r ≡ a
      three : g.registers 3 ≡ 4096
      kept : (n : ℕ) → IsKept n → n ≢ 3 → g.registers n ≡ h.registers n
      stacks : (j : ℕ) → g.stack j ≡ h.stack j
      text : g.text ≡ c.text
      waits : g.waits ≡ Done
      jumps : g.jumps ≡ 0

    abbrev with_text : Slots → List ℕ → Control
    with_text slots text = record { entering = None; into = Nowhere; unit = 0; text = text; last = c.last; frames = record fr { slots = slots } ∷ below }

    abbrev behind : Control
    behind = record { entering = None; into = Nowhere; unit = 0; text = c.text; last = c.last; frames = record fr { pc = fr.pc + 1 } ∷ below }

    abbrev Comes_to : Control → Hart → Privates → Type 0
    Comes_to k g q = Nears image resume (Private ir) (Match ir image l live Midway) full k g q

    -- 0 ends the text
    ends : (g : Hart) (q : Privates) → Answered g 0 → Comes_to behind g q
    ends g q is =
        let zero_is : (g.registers 10 == 0) ≡ true = ap (λ n. n == 0) is.ten in
        let j = branch_goes image small Beq 10 0 at2 (at_jump + 1) g q is.there (omega (arith, lengths, low)) (omega (arith, lengths, low)) (omega (arith, is.jumps)) Short code_branch zero_is in
        let g1 : Hart = record g { pc = place (at_jump + 1); registers = j.registers; jumps = j.jumps; work = j.work } in
        record {
          there = g1;
          leads = j.leads;
          match = inl (goes_to ir image l live Midway m (fr.pc + 1) full c.text g1 (ap place lengths) (λ n k other. j.kept n (not_used 0 n (inl (omega arith)) k) (not_used 5 n (inr (omega arith, omega arith)) k) ∙ is.kept n k other)
              (j.kept 3 (omega arith) (omega arith) ∙ is.three) is.stacks (is.text, m.text_is.1) is.waits (omega (arith, j.counted, is.jumps)) (omega arith) (omega arith) passes homes);
        }

    -- ---- another byte

    abbrev more : ℕ → Control
    more v = with_text (put_slot slot (sum a 1) fr.slots) (c.text ++ v ∷ [])

    module _ (v : ℕ) (some : v ≢ 0) (byte : v < 256) (g : Hart) (is : Answered g v) where
      abbrev at_call : ℕ → Hart
      at_call work = record g { pc = place (at2 + 1); work = work }

      comes_to_call : (q : Privates) → (work : ℕ) × Leads image g q (at_call work) q
      comes_to_call q =
          let other : (g.registers 10 == 0) ≡ false = ap (λ n. n == 0) is.ten ∙ equal_zero v some in
          let b = branch_stays image small Beq 10 0 at2 (at_jump + 1) g q is.there (omega (arith, lengths, low)) (omega (arith, lengths, low)) (omega (arith, is.jumps)) Short code_branch other in
          (b.work, b.leads)

      byte_is : g.registers 10 % 256 ≡ v
      byte_is = ap (λ n. n % 256) is.ten ∙ omega (arith, byte)

      text_length : length g.text ≡ length c.text
      text_length = ap (λ (t : List ℕ). length t) is.text

      call_stands : Stands image.code (at2 + 1) (call_code 16)
      call_stands = stands_front image.code (at2 + 1) (call_code 16) (step_on ++ back) code_call

      abbrev calling : ℕ → Hart
      calling work = record g { pc = place (at2 + 1) + 4; registers = put g.registers 17 16; work = work + 1 + 1 }

      -- a byte too much traps, before anything else is done
      traps_then : length c.text ≡ most_text → Soon image (private_step ir) resume (Private ir) (Plain ir image l live Midway) full full (more v) g
      traps_then full_text = λ u1 q same1 fine1.
          let w = comes_to_call q in
          let h1 : Hart = at_call w.0 in
          let waiting : Hart = record (calling w.0) { waits = Done } in
          let call_place : place (at2 + 1) + 4 ≡ place (at2 + 2) = omega arith in
          let off : nat_le (length g.text + 1) 1024 ≡ false = fits_not (length g.text + 1) 1024 (omega (arith, text_length, full_text)) in
          let k : Control = more v in
          let fr1 : IrFrame = record fr { slots = put_slot slot (sum a 1) fr.slots } in
          let at_hand : Here = here_at ir k fr1 below line u1 in
          let over : nat_lt most_text (length (c.text ++ v ∷ [])) ≡ true = more_is (length (c.text ++ v ∷ [])) most_text (omega (arith, full_text, length-append c.text (v ∷ []))) in
          let asks : Comes image g q (asked image (act.Trap trap.Print) waiting q) =
          then_comes image {i = h1} w.1 (call_asks image small h1 q (at2 + 1) 16 refl refl call_stands (act.Trap trap.Print) waiting
          (ap (λ b. composed (b ∷ []) (calling w.0) q) byte_is ∙ ap (λ (b : Bool). if b then Goes (moved (record (calling w.0) { text = g.text ++ v ∷ [] })) q else hart_traps trap.Print (calling w.0) q) off)) in
          let does : Follows image resume (Private ir) (Plain ir image l live Midway) full full g q (traps trap.Print at_hand) = λ real. record {
            waiting = waiting;
            privates = q;
            comes = asks;
            line_is = ap (line_of image) call_place ∙ line_is (at2 + 2) (omega arith) (omega (arith, lengths));
            waits = λ going words. absurd (cc);
            same = same1;
          } in
          let step_is : private_step ir k u1 ≡ step_op (op.PutText slot) at_hand =
          ap (λ (i : Option Operation). step_at ir k fr1 below i u1) is_there ∙ ap₂ (λ (x : Op) (n : ℕ). step_op x (here_at ir k fr1 below n u1)) its_op its_line in
          let known_is : step_op (op.PutText slot) at_hand ≡ scans slot (sum a 1) at_hand = ap (λ (i : Option ℕ). known at_hand i (λ x. scans slot x at_hand)) (got_slot slot (sum a 1) fr.slots) in
          let traps_is : scans slot (sum a 1) at_hand ≡ traps trap.Print at_hand =
          ap (λ (b : Bool). if b then traps trap.Print at_hand else AsksMove (act.Load (sum a 1) 1) line (control_at fr.pc (Byte slot (sum a 1)) at_hand) u1) over in
          subst (λ (x : Next). Follows image resume (Private ir) (Plain ir image l live Midway) full full g q x) (sym (step_is ∙ known_is ∙ traps_is)) does

      -- the address is one more
      record Stepped (g1 : Hart) (q : Privates) (k : Home) : Type 0 where
        pc : ℕ
        registers : ℕ → ℕ
        stack : ℕ → ℕ
        work : ℕ
        leads : Leads image g1 q (record g1 { pc = pc; registers = registers; stack = stack; work = work }) q
        there : pc ≡ place (at1 + 4 + length (Immediate Addi (put_register k 11) (get_register k 11) (pos 1) ∷ put_code k 11))
        holds : value_at k sp registers stack ≡ sum a 1
        fixed : (n : ℕ) → (2 ≤ n) × (n ≤ 4) → registers n ≡ g1.registers n
        others : (j : Home) → IsHome sp j → Apart k j → value_at j sp registers stack ≡ value_at j sp g1.registers g1.stack
        below_it : (j : ℕ) → j < sp → stack j ≡ g1.stack j

      one_more : (x : ℕ) → x ≡ a → sum_of x (word (pos 1)) ≡ sum a 1
      one_more x e = omega (arith, ints, e)

      steps : (g1 : Hart) (q : Privates) → Fine g1 q → g1.pc ≡ place (at1 + 4) → g1.registers 2 ≡ STACK_START + 4 * sp → (k : Home) → IsHome sp k → g1.registers (get_register k 11) ≡ a
          → Stands image.code (at1 + 4) (Immediate Addi (put_register k 11) (get_register k 11) (pos 1) ∷ put_code k 11) → Stepped g1 q k
      steps g1 q good there pointer (Frame k) is_k address code =
          let rs : ℕ → ℕ = put g1.registers 11 (sum a 1) in
          let g2 : Hart = record g1 { pc = g1.pc + 4; registers = rs; work = g1.work + 1 } in
          let first : Leads image g1 q g2 q = one image {h = g1} {next = g2} {p = q} {q = q} small (Immediate Addi 11 11 (pos 1)) (at1 + 4) code.0 there
          (ap (λ x. Goes (moved (with_register 11 x (fetched g1))) q) (one_more (g1.registers 11) address)) in
          let s = frame_stores image small g2 q (first.fine good) (at1 + 4 + 1) sp k (omega (arith, there)) (record { pointer = pointer; inside = is_k }) 11 (omega arith) (omega arith) code.1 in
          record {
            pc = s.pc;
            registers = s.registers;
            stack = put g1.stack (sp + k) (sum a 1);
            work = s.work;
            leads = then_leads image {i = g2} {j = record g1 { pc = s.pc; registers = s.registers; stack = put g1.stack (sp + k) (sum a 1); work = s.work }} first s.leads;
            there = s.there ∙ ap place (omega arith);
            holds = put_same g1.stack (sp + k) (sum a 1);
            fixed = λ n f. s.kept n (λ e. absurd (omega (arith, f.1, e))) ∙ put_other g1.registers 11 (sum a 1) n (λ e. absurd (omega (arith, f.1, e)));
            others = λ j is_j far. others_stay s.registers (λ n b. s.kept n b) j is_j far;
            below_it = λ j lower. put_other g1.stack (sp + k) (sum a 1) j (λ e. absurd (omega (arith, lower, e)));
          } where
            others_stay : (rs1 : ℕ → ℕ) → ((n : ℕ) → n ≢ 8 → rs1 n ≡ put g1.registers 11 (sum a 1) n) → (j : Home) → IsHome sp j → Apart (Frame k) j → value_at j sp rs1 (put g1.stack (sp + k) (sum a 1)) ≡ value_at j sp g1.registers g1.stack
            others_stay rs1 kept (Frame j) is_j far = put_other g1.stack (sp + k) (sum a 1) (sp + j) (λ e. far (omega (arith, e)))
            others_stay rs1 kept (Saved j) is_j far = kept j (λ e. absurd (omega (arith, is_j.0, e))) ∙ put_other g1.registers 11 (sum a 1) j (λ e. absurd (omega (arith, is_j.0, e)))
      steps g1 q good there pointer (Saved k) is_k address code =
          let rs : ℕ → ℕ = put g1.registers k (sum a 1) in
          let g2 : Hart = record g1 { pc = g1.pc + 4; registers = rs; work = g1.work + 1 } in
          let read : register (fetched g1) k ≡ a = reads (fetched g1) k (λ e. absurd (omega (arith, is_k.0, e))) ∙ address in
          record {
            pc = g1.pc + 4;
            registers = rs;
            stack = g1.stack;
            work = g1.work + 1;
            leads = one image {h = g1} {next = g2} {p = q} {q = q} small (Immediate Addi k k (pos 1)) (at1 + 4) code.0 there
                (ap (λ x. Goes (moved (with_register k x (fetched g1))) q) (one_more (register (fetched g1) k) read));
            there = omega (arith, there);
            holds = put_same g1.registers k (sum a 1);
            fixed = λ n f. put_other g1.registers k (sum a 1) n (λ e. absurd (omega (arith, f.1, is_k.0, e)));
            others = others_stay;
            below_it = λ j lower. refl;
          } where
            others_stay : (j : Home) → IsHome sp j → Apart (Saved k) j → value_at j sp (put g1.registers k (sum a 1)) g1.stack ≡ value_at j sp g1.registers g1.stack
            others_stay (Frame j) is_j far = refl
            others_stay (Saved j) is_j far = put_other g1.registers k (sum a 1) j (λ e. far (sym e))

      -- the byte is composed, and the operation is done again
      again : length c.text < most_text → (q : Privates) → Fine g q → Comes_to (more v) g q
      again room q good =
          let w = comes_to_call q in
          let h1 : Hart = at_call w.0 in
          let hn : Hart = record g { pc = place (at2 + 1) + 4 + 4; registers = put g.registers 17 16; text = g.text ++ v ∷ []; work = w.0 + 1 + 1 } in
          let on_it : nat_le (length g.text + 1) 1024 ≡ true = fits_so (length g.text + 1) 1024 (omega (arith, text_length, room)) in
          let goes : Leads image h1 q hn q = call_goes image small h1 q (at2 + 1) 16 refl refl call_stands hn
          (ap (λ b. composed (b ∷ []) (calling w.0) q) byte_is ∙ ap (λ (b : Bool). if b then Goes (moved (record (calling w.0) { text = g.text ++ v ∷ [] })) q else hart_traps trap.Print (calling w.0) q) on_it) in
          let l1 : Leads image g q hn q = then_leads image {i = h1} {j = hn} w.1 goes in
          let kept : (n : ℕ) → IsKept n → n ≢ 3 → hn.registers n ≡ h.registers n = λ n k other. put_other g.registers 17 16 n (not_kept 17 n (omega arith, omega arith) k) ∙ is.kept n k other in
          let s = steps hn q (l1.fine good) (omega arith) (kept 2 (inl (omega arith, omega arith)) (omega arith) ∙ m.pointer) home is_home
          (put_other g.registers 17 16 r (r_apart 17 (omega arith) (omega arith)) ∙ is.address) (stands_front image.code (at1 + 4) step_on back code_step) in
          let hs : Hart = record hn { pc = s.pc; registers = s.registers; stack = s.stack; work = s.work } in
          let l2 : Leads image g q hs q = then_leads image {i = hn} {j = hs} l1 s.leads in
          let j = jump_does image small hs q at_jump at0 s.there (omega (arith, lengths, low)) (omega (arith, lengths, low)) (omega (arith, is.jumps)) Short code_back in
          let h2 : Hart = record hs { pc = place at0; registers = j.registers; jumps = j.jumps; work = j.work } in
          let fixed : (n : ℕ) → (2 ≤ n) × (n ≤ 4) → j.registers n ≡ hn.registers n = λ n f. j.kept n (not_used 0 n (inl (omega arith)) (inl f)) (not_used 5 n (inr (omega arith, omega arith)) (inl f)) ∙ s.fixed n f in
          let value : (k : Home) → IsHome sp k → value_at k sp j.registers s.stack ≡ value_at k sp s.registers s.stack =
          λ k is_k. home_kept k sp s.registers j.registers s.stack is_k (λ n q1. j.kept n (λ e. absurd (omega (arith, q1.0, e))) (λ e. absurd (omega (arith, q1.0, e)))) in
          let far : (n : ℕ) → l.slots fr.function ≤ n → sp + n < 2 ^ 20 → s.stack (sp + n) ≡ h.stack (sp + n) =
          λ n behind_slots inside. s.others (Frame n) inside (not_slot l homes fr.function slot n is_slot behind_slots) ∙ is.stacks (sp + n) in
          record {
            there = h2;
            leads = then_leads image {i = hs} {j = h2} l2 j.leads;
            match = inl (changed ir image l live Midway m {left1 = full} {pc1 = fr.pc} {unit1 = 0} {slots1 = put_slot slot (sum a 1) fr.slots} {text1 = c.text ++ v ∷ []} {last1 = c.last} {h1 = h2} (record {
              here = refl;
              pointer = fixed 2 (omega arith, omega arith) ∙ kept 2 (inl (omega arith, omega arith)) (omega arith);
              globals = fixed 4 (omega arith, omega arith) ∙ kept 4 (inl (omega arith, omega arith)) (omega arith);
              turns = fixed 3 (omega arith, omega arith) ∙ is.three;
              below_it = λ i lower. s.below_it i lower ∙ is.stacks i;
              way = far (l.slots fr.function) (omega arith) (omega (arith, m.room, m.inside));
              holds = λ t x need e. ⊎_elim
                  (λ now. (
                    subst (λ i. i < l.slots fr.function) (sym now.0) is_slot,
                    ap (λ i. value_at (l.home fr.function i) sp j.registers s.stack) now.0 ∙ value home is_home ∙ s.holds ∙ now.1,
                  ))
                  (λ older. let was = m.holds t x need older.1 in
                  let is_t = at_home ir image l live Midway m homes t was.0 in (
                    was.0,
                    value (l.home fr.function t) is_t ∙ s.others (l.home fr.function t) is_t (apart t need older.0)
                        ∙ same_value (l.home fr.function t) is_t hn.registers (λ n k. kept n (inr k) (λ e1. absurd (omega (arith, k.0, e1)))) ∙ was.1,
                  ))
                  (slot_cases fr.slots slot (sum a 1) t x e);
              above = λ t x e. let was = m.above t x e in (
                was.0,
                ap s.stack (omega arith) ∙ far (l.stack fr.function + t) (omega (arith, m.room)) (omega (arith, was.0)) ∙ ap h.stack (omega arith) ∙ was.1,
              );
              text_is = (ap (λ (t : List ℕ). t ++ v ∷ []) is.text, omega (arith, room, length-append c.text (v ∷ [])));
              waits = is.waits;
              counted = omega (arith, j.counted, is.jumps);
              some = omega arith;
              few = omega arith;
            }));
          } where
            same_value : (k : Home) → IsHome sp k → (rs : ℕ → ℕ) → ((n : ℕ) → IsSaved n → rs n ≡ h.registers n) → value_at k sp rs g.stack ≡ value_at k sp h.registers h.stack
            same_value (Frame k) is_k rs regs = is.stacks (sp + k)
            same_value (Saved k) is_k rs regs = regs k is_k

      composes_on : (q : Privates) → Fine g q → Comes_to (more v) g q
      composes_on q good = ⊎_elim (λ room. again room q good) (λ none. record { there = g; leads = stays image; match = inr (traps_then (omega (arith, none, m.text_is.1))) }) (cases_lt (length c.text) most_text)

    -- ---- the load

    abbrev at_hand : Here
    at_hand = here ir image l live Midway left fr below c line u h p

    -- what is waited for, and the answer
    abbrev asked_control : Control
    asked_control = control_at fr.pc (Byte slot a) at_hand

    goes_by : (v : ℕ) → v < 256 → (g : Hart) → Answered g v → (q : Privates) → Fine g q → Comes_to (resume asked_control (v ∷ [])) g q
    goes_by zero byte g is q good = ends g q is
    goes_by (suc b) byte g is q good = composes_on (suc b) (λ e. absurd (omega (arith, e))) byte g is q good

    -- a byte is loaded
    loads : Does ir image l live Midway left h p (AsksMove (act.Load a 1) line asked_control u)
    loads = λ real.
        let px = held ir image l live Midway left fr below c line u h p homes small m same fine slot a la is_a in
        let g = gets image small h p at0 sp home 11 fine m.here m.pointer is_home (stands_front image.code at0 get (Load Lbu 10 r (pos 0) ∷ (Branch Beq 10 0 (distance 0 (4 + length step_on)) ∷ (call_code 16 ++ (step_on ++ back)))) has) in
        let h1 : Hart = record h { pc = g.pc; registers = g.registers; work = g.work } in
        let address : g.registers r ≡ a = g.holds ∙ px.stands in
        let waiting : Hart = record h1 { waits = UnitWaits Lbu 10; work = g.work + 1 } in
        let place_of : sum_of a 0 ≡ a = omega (arith, px.word) in
        let some : r ≢ 0 = operand_some 11 r (omega arith) r_is in
        let asks : Comes image h p (asked image (act.Load a 1) waiting p) =
        then_comes image {i = h1} g.leads (subst (λ x. Comes image h1 p (asked image (act.Load x 1) waiting p)) place_of
        (last image {h = h1} {waiting = waiting} {p = p} {q = p} (Load Lbu 10 r (pos 0)) at1 code1.0 g.there
        (asks_load image (fetched h1) p 1 10 r a 0 (pos 0) (inl refl) (base r_is) (reads (fetched h1) r some ∙ address) refl))) in
        record {
          waiting = waiting;
          privates = p;
          comes = asks;
          line_is = ap (line_of image) g.there ∙ line_is at1 (omega arith) (omega (arith, lengths));
          waits = λ going words.
              let v = one_word (256 ^ 1) words (omega arith) in
              subst (λ ws. Going image resume (Private ir) (Match ir image l live Midway) full (resume asked_control ws) (resumed (record waiting { jumps = 0; work = 0 }) ws)) (sym v.1)
              (record {
                near = omega (arith, g.there, lengths, low);
                jumps = refl;
                work = refl;
                comes = λ q good. goes_by v.0 v.2 (answered h1 v.0)
                    (record {
                      there = omega (arith, g.there);
                      ten = refl;
                      address = put_other (put g.registers 10 v.0) 3 4096 r (r_apart 3 (omega arith) (omega arith)) ∙ put_other g.registers 10 v.0 r (r_apart 10 (omega arith) (omega arith)) ∙ address;
                      three = refl;
                      kept = λ n k other. put_other (put g.registers 10 v.0) 3 4096 n other ∙ put_other g.registers 10 v.0 n (not_kept 10 n (omega arith, omega arith) k) ∙ g.kept n (not_kept 11 n (omega arith, omega arith) k) (not_eight n k);
                      stacks = λ j. refl;
                      text = m.text_is.0;
                      waits = refl;
                      jumps = refl;
                    }) q good;
              });
          same = same;
        } where
          base : IsOperand 11 r → ((10 ≤ r) × (r ≤ 17)) ⊎ IsSaved r
          base (inl q) = inl (omega (arith, q), omega (arith, q))
          base (inr q) = inr q

          answered : Hart → ℕ → Hart
          answered w v = record w { pc = w.pc + 4; registers = put (put w.registers 10 v) 3 4096; waits = Done; jumps = 0; work = 0 }

  pub put_text_does : Does ir image l live Midway left h p (step_op (op.PutText slot) (here ir image l live Midway left fr below c line u h p))
  put_text_does =
      slot_does ir image l live Midway left fr below c line u h p slot _ (λ a e.
      let room : nat_lt most_text (length c.text) ≡ false = not_more (length c.text) most_text m.text_is.1 in
      subst (λ (b : Bool). Does ir image l live Midway left h p (if b then traps trap.Print (here ir image l live Midway left fr below c line u h p) else AsksMove (act.Load a 1) line (control_at fr.pc (Byte slot a) (here ir image l live Midway left fr below c line u h p)) u)) (sym room) (loads a e))
