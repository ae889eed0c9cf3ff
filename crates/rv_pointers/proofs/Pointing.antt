-- Harts follow calls of functions through pointers.
use Rattle.std.proofs.Common.{◌≡◌, ℕ, zero, suc, ◌+◌, ◌^◌, ◌<◌, ◌≤◌, Bool, true, false, if◌then◌else◌, pos, List, ◌∷◌, ◌++◌, length, Option, Some, None, refl, sym, ap, ◌∙◌, arith, subst, length-append, inl, inr}
use Rattle.al_base.specs.declared.trap.Trap.TheVariants as trap
use Rattle.al_world.specs.Turns.{Turns}
use Rattle.rv_isa.specs.declared.image.Contents.{Contents}
use Rattle.rv_isa.specs.declared.instr.Instr.{Instr}
use Rattle.rv_isa.specs.declared.instr.Instr.TheVariants.{Jalr, Branch}
use Rattle.rv_isa.specs.declared.instr.BranchOp.TheVariants.{Bne}
use Rattle.rv_exec.specs.Hart.{Hart, register, moved}
use Rattle.rv_exec.specs.Words.{is_taken}
use Rattle.rv_exec.specs.Calls.{Privates, Goes}
use Rattle.rv_exec.specs.Machine.{line_of}
use Rattle.rv_exec.specs.Step.{jumps_by}
use Rattle.al_ir.specs.Bounds.{most_jumps}
use Rattle.al_ir.specs.declared.ir.Ir.{Ir}
use Rattle.al_ir.specs.declared.op.Op.TheVariants as op
use Rattle.al_ir.specs.Control.{Slots, Frame as IrFrame, Control, function_at, stack_of, arguments_of}
use Rattle.al_ir.specs.Meaning.{resume}
use Rattle.al_ir.specs.Step.{step_op, named_in, class_of, invokes_found}
use Rattle.rv_code.specs.declared.home.Home.TheVariants.{Frame}
use Rattle.rv_code.specs.Homes.{value_at, bring}
use Rattle.rv_code.specs.Jumps.{place, link_code}
use Rattle.rv_code.specs.Pieces.{trap_code, turn_code, up_code, down_code}
use Rattle.rv_code.specs.Runs.{Stands, Fine, Leads}
use Rattle.rv_code.proofs.Frames.{links}
use Rattle.rv_code.proofs.Jumps.{ahead}
use Rattle.rv_code.proofs.Leading.{stands_front, stands_back, stays, then_leads, then_comes, one, fetched}
use Rattle.rv_code.proofs.Numbers.{trap_asks, trapped}
use Rattle.rv_code.proofs.Operands.{IsKept, home_kept}
use Rattle.rv_code.proofs.Pairs.{brings}
use Rattle.rv_form.specs.Dispatch.{tree, tree_width, tree_code}
use Rattle.rv_form.specs.Flow.{found_test, found_stack_test, pass, invoke_pointer_code}
use Rattle.rv_match.specs.Following.{Follows}
use Rattle.rv_match.specs.Match.{Private, Rests, InFrame, Match}
use Rattle.rv_match.specs.Places.{Places, Homes, under, full, jumps_before}
use Rattle.rv_match.proofs.Keeping.{at_home}
use Rattle.rv_match.proofs.Steps.{Does, here, slot_does, trap_does}
use Rattle.rv_match.proofs.Turning.{turn_then}
use Rattle.rv_flow.specs.Functions.{Begins}
use Rattle.rv_pointers.proofs.Trees.{Each, Within, each_of, named_has, found_tree, tree_is_shallow, tree_has}
use Rattle.rv_pointers.proofs.Dispatching.{Known, Tells, tree_told, equal_so, other_so, not_used}
use Rattle.rv_pointers.proofs.Reaching.{found_enters}

module _ (ir : Ir) (image : Contents) (l : Places) (live : (f pc unit t : ℕ) → Type 0) (Midway : (f pc unit : ℕ) → Slots → (sp : ℕ) → Hart → Type 0)
    (left : ℕ) (fr : IrFrame) (below : List IrFrame) (c : Control) (line : ℕ) (u : List ℕ) (h : Hart) (p : Privates)
    (homes : Homes l) (small : length image.code ≤ 2 ^ 23) (m : InFrame ir image l live Midway left fr below 0 c.text c.last h) (same : Private ir u p) (fine : Fine h p)
    (fewer : jumps_before ir fr.function fr.pc + 18 ≤ most_jumps) (stacks : (f : ℕ) → stack_of (function_at ir f) ≡ l.stack f) where
  abbrev at0 : ℕ
  at0 = l.at fr.function fr.pc

  abbrev size : ℕ
  size = l.stack fr.function

  abbrev sp : ℕ
  sp = under l below

  -- what leads to a turn stands before it
  before_turn : (h1 : Hart) (d : Control) → Leads image h p h1 p → (n : ℕ) → Follows image resume (Private ir) (Match ir image l live Midway) full n h1 p (Turns line d u)
      → Follows image resume (Private ir) (Match ir image l live Midway) full n h p (Turns line d u)
  before_turn h1 d leads zero f = record { waiting = f.waiting; privates = f.privates; comes = then_comes image {i = h1} leads f.comes; line_is = f.line_is; waits = f.waits; same = f.same }
  before_turn h1 d leads (suc zero) f = record { waiting = f.waiting; privates = f.privates; comes = then_comes image {i = h1} leads f.comes; line_is = f.line_is; waits = f.waits; same = f.same }
  before_turn h1 d leads (suc (suc n)) f = record { next = f.next; privates = f.privates; leads = then_leads image {i = h1} leads f.leads; match = f.match; same = f.same }

  module _ (class pointer from count dispatcher : ℕ) (fs : List ℕ) (entry : ℕ → ℕ) (class_is : class_of ir class ≡ fs)
      (dispatches : Stands image.code dispatcher (tree_code entry l.stack dispatcher (tree fs))) (tree_low : dispatcher + tree_width (tree fs) < 2 ^ 23)
      (each : Each (λ g. Begins ir image l live g (entry g) × ((g < 2 ^ 16) × (arguments_of (function_at ir g) ≡ count))) fs)
      (has : Stands image.code at0 (invoke_pointer_code (l.home fr.function) size dispatcher pointer from count))
      (next : at0 + length (invoke_pointer_code (l.home fr.function) size dispatcher pointer from count) ≡ l.at fr.function (fr.pc + 1)) (low : l.at fr.function (fr.pc + 1) < 2 ^ 23)
      (line_is : (j : ℕ) → at0 ≤ j → j < l.at fr.function (fr.pc + 1) → line_of image (place j) ≡ line) (stack_f : size ≤ 16384)
      (pointer_lives : live fr.function fr.pc 0 pointer) (lives : (i : ℕ) → i < count → live fr.function fr.pc 0 (from + i) × (from + i < l.slots fr.function))
      (across : (t : ℕ) → live fr.function (fr.pc + 1) 0 t → live fr.function fr.pc 0 t × (l.home fr.function t ≡ Frame t)) where
    abbrev bringing : List Instr
    bringing = bring (l.home fr.function pointer) 10

    abbrev back : ℕ
    back = at0 + length bringing + 2

    abbrev passing : (n : ℕ) → List Instr
    passing n = pass (l.home fr.function) from size n

    abbrev last_code : (n : ℕ) → List Instr
    last_code n = found_stack_test size ++ (passing n ++ (up_code size ++ (Jalr 1 6 (pos 0) ∷ down_code size)))

    abbrev tail3 : List Instr
    tail3 = turn_code ++ last_code count

    abbrev tail2 : List Instr
    tail2 = found_test ++ tail3

    abbrev tail1 : List Instr
    tail1 = link_code dispatcher ++ tail2

    code1 : Stands image.code (at0 + length bringing) tail1
    code1 = stands_back image.code at0 bringing tail1 has

    code2 : Stands image.code back tail2
    code2 = stands_back image.code (at0 + length bringing) (link_code dispatcher) tail2 code1

    code3 : Stands image.code (back + 4) tail3
    code3 = stands_back image.code back found_test tail3 code2

    code4 : Stands image.code (back + 4 + 4) (last_code count)
    code4 = stands_back image.code (back + 4) turn_code (last_code count) code3

    lengths : back + 4 + 4 + 5 + length (passing count) + 7 ≡ l.at fr.function (fr.pc + 1)
    lengths = omega (arith, next, length-append bringing tail1, length-append (passing count) (up_code size ++ (Jalr 1 6 (pos 0) ∷ down_code size)))

    -- behind the dispatcher
    record Told (v : ℕ) : Type 0 where
      registers : ℕ → ℕ
      jumps : ℕ
      work : ℕ
      leads : Leads image h p (record h { pc = place back; registers = registers; jumps = jumps; work = work }) p
      tells : Tells entry l.stack (named_in v fs) registers
      kept : (n : ℕ) → IsKept n → registers n ≡ h.registers n
      counted : jumps ≤ h.jumps + 18

    told : (v : ℕ) → fr.slots pointer ≡ Some v → Told v
    told v e =
        let old = m.holds pointer v pointer_lives e in
        let b = brings image small h p at0 sp (l.home fr.function pointer) 10 fine m.here m.pointer (at_home ir image l live Midway m homes pointer old.0) (stands_front image.code at0 bringing tail1 has) in
        let h1 : Hart = record h { pc = b.pc; registers = b.registers; work = b.work } in
        let k = links image small h1 p (at0 + length bringing) dispatcher b.there (omega (arith, lengths, low)) (omega (arith, tree_low)) (omega (arith, m.counted, m.some, fewer))
        (stands_front image.code (at0 + length bringing) (link_code dispatcher) tail2 code1) in
        let h2 : Hart = record h { pc = place dispatcher; registers = k.registers; jumps = k.jumps; work = k.work } in
        let known = tree_has (Known entry) 16 0 fs (omega arith) (each_of (λ g. Begins ir image l live g (entry g) × ((g < 2 ^ 16) × (arguments_of (function_at ir g) ≡ count))) (Known entry) (λ g q. (q.1.0, q.0.low)) fs each) in
        let within = each_of (λ g. Begins ir image l live g (entry g) × ((g < 2 ^ 16) × (arguments_of (function_at ir g) ≡ count))) (Within 0 (2 ^ 16)) (λ g q. (omega arith, omega (arith, q.1.0))) fs each in
        let t = tree_told image small entry l.stack back v (omega (arith, lengths, low)) 16 (tree fs) (tree_is_shallow 16 0 fs) known h2 p dispatcher refl k.way
        (k.kept 10 (omega arith) (omega arith) ∙ b.holds ∙ old.1) (omega (arith, k.counted, m.counted, m.some, fewer)) tree_low dispatches in
        let h3 : Hart = record h { pc = place back; registers = t.registers; jumps = t.jumps; work = t.work } in
        record {
          registers = t.registers;
          jumps = t.jumps;
          work = t.work;
          leads = then_leads image {i = h1} {j = h3} b.leads (then_leads image {i = h2} {j = h3} k.leads t.leads);
          tells = subst (λ (o : Option ℕ). Tells entry l.stack o t.registers) (found_tree 16 0 v fs within) t.tells;
          kept = λ n q. t.kept n q ∙ k.kept n (not_used 1 n (inl (omega arith)) q) (not_used 5 n (inr (omega arith, omega arith)) q)
              ∙ b.kept n (not_used 10 n (inr (omega arith, omega arith)) q) (not_used 8 n (inr (omega arith, omega arith)) q);
          counted = omega (arith, t.counted, k.counted);
        }

    rests : Rests ir image l live Midway (record fr { pc = fr.pc + 1 }) sp h.stack
    rests t w a e =
        let k = across t a in
        let old = m.holds t w k.0 e in
        (old.0, (k.1, ap (λ home. value_at home sp h.registers h.stack) (sym k.1) ∙ old.1))

    found : (o : Option ℕ) (rs : ℕ → ℕ) (js w : ℕ) → Leads image h p (record h { pc = place back; registers = rs; jumps = js; work = w }) p → Tells entry l.stack o rs
        → ((n : ℕ) → IsKept n → rs n ≡ h.registers n) → js ≤ h.jumps + 18
        → ((g : ℕ) → o ≡ Some g → Begins ir image l live g (entry g) × ((g < 2 ^ 16) × (arguments_of (function_at ir g) ≡ count)))
        → Does ir image l live Midway left h p (invokes_found o from (here ir image l live Midway left fr below c line u h p))
    found None rs js w leads six kept counted known =
        let h3 : Hart = record h { pc = place back; registers = rs; jumps = js; work = w } in
        let t : is_taken Bne (register h3 6) (register h3 0) ≡ false = equal_so (rs 6) 0 six in
        let h4 : Hart = record h { pc = place back + 4; registers = rs; jumps = js; work = w + 1 } in
        let second : Leads image h3 p h4 p = one image {h = h3} {next = h4} {p = p} {q = p} small (Branch Bne 6 0 (pos 16)) back code2.0 refl
        (ap (λ (b : Bool). if b then jumps_by (pos 16) (fetched h3) (fetched h3) p else Goes (moved (fetched h3)) p) t) in
        trap_does ir image l live Midway left fr below c line u h p trap.Call (trapped image small trap.Call h4 p (back + 1) (omega arith))
        (then_comes image {i = h3} leads (then_comes image {i = h4} second (trap_asks image small trap.Call h4 p (back + 1) (omega arith) (stands_front image.code (back + 1) (trap_code trap.Call) tail3 code2.1))))
        (ap (line_of image) (omega arith) ∙ line_is (back + 3) (omega arith) (omega (arith, lengths))) same
    found (Some g) rs js w leads tells kept counted known =
        let k = known g refl in
        let count_is : count ≡ arguments_of (function_at ir g) = sym k.1.1 in
        let h3 : Hart = record h { pc = place back; registers = rs; jumps = js; work = w } in
        let t : is_taken Bne (register h3 6) (register h3 0) ≡ true = other_so (rs 6) 0 (λ z. absurd (omega (arith, z, tells.0))) in
        let h4 : Hart = record h { pc = place back + 16; registers = rs; jumps = js; work = w + 1 } in
        let second : Leads image h3 p h4 p = one image {h = h3} {next = h4} {p = p} {q = p} small (Branch Bne 6 0 (pos 16)) back code2.0 refl
        (ap (λ (b : Bool). if b then jumps_by (pos 16) (fetched h3) (fetched h3) p else Goes (moved (fetched h3)) p) t ∙ ahead image small (fetched h3) p 16 (omega arith) (omega arith) (omega (arith, lengths, low))) in
        let both : Leads image h p h4 p = then_leads image {i = h3} {j = h4} leads second in
        before_turn h4 _ both left
        (turn_then ir image l live Midway small left _ u h4 p line (back + 4) (jumps_before ir fr.function fr.pc + 18) (omega arith) (omega (arith, lengths, low)) (kept 3 (inl (omega arith, omega arith)) ∙ m.turns) m.few m.some m.waits
        (omega (arith, counted, m.counted)) fewer same (both.fine fine) (stands_front image.code (back + 4) turn_code (last_code count) code3) (line_is (back + 4 + 3) (omega arith) (omega (arith, lengths)))
        (λ left1 pc1 jumps1 work1 rs1 waits1 q at kept1 three counted1 some few done good.
        record {
          there = record h { pc = pc1; registers = rs1; waits = waits1; jumps = jumps1; work = work1 };
          leads = stays image;
          match = inr (λ u1 q1 same1 fine1.
              found_enters ir image l live Midway small homes stacks left1 (back + 4 + 4) from g (entry g) (record fr { pc = fr.pc + 1 }) fr.slots below c.text u1
              (record h { pc = pc1; registers = rs1; waits = waits1; jumps = jumps1; work = work1 }) q1 fine1 at
              (kept1 6 (omega arith) (omega arith) ∙ tells.0) (kept1 7 (omega arith) (omega arith) ∙ tells.1)
              (kept1 2 (omega arith) (omega arith) ∙ kept 2 (inl (omega arith, omega arith)) ∙ m.pointer) three (kept1 4 (omega arith) (omega arith) ∙ kept 4 (inl (omega arith, omega arith)) ∙ m.globals) m.text_is done counted1 some few same1 k.0
              (λ i word less e. let old = m.holds (from + i) word (lives i (omega (arith, less, count_is))).0 e in
              home_kept (l.home fr.function (from + i)) sp h.registers rs1 h.stack (at_home ir image l live Midway m homes (from + i) old.0)
              (λ n s. kept1 n (λ z. absurd (omega (arith, s.0, z))) (λ z. absurd (omega (arith, s.0, z))) ∙ kept n (inr s)) ∙ old.1)
              (λ i less. (lives i (omega (arith, less, count_is))).1) rests m.waiting m.inside m.room stack_f
              (subst (λ n. Stands image.code (back + 4 + 4) (last_code n)) count_is code4) (ap (λ n. back + 4 + 4 + 5 + length (passing n) + 7) (sym count_is) ∙ lengths) low);
        }) left refl)

    -- Where the value names a function of the class, that is called, and else the trap is asked.
    pub invoke_pointer_does : Does ir image l live Midway left h p (step_op (op.InvokePointer class pointer from) (here ir image l live Midway left fr below c line u h p))
    invoke_pointer_does =
        slot_does ir image l live Midway left fr below c line u h p pointer _ (λ v e.
        let t = told v e in
        subst (λ (gs : List ℕ). Does ir image l live Midway left h p (invokes_found (named_in v gs) from (here ir image l live Midway left fr below c line u h p))) (sym class_is)
        (found (named_in v fs) t.registers t.jumps t.work t.leads t.tells t.kept t.counted (λ g is. named_has (λ g. Begins ir image l live g (entry g) × ((g < 2 ^ 16) × (arguments_of (function_at ir g) ≡ count))) v g fs each is)))
