-- Harts follow jumps that count a turn.
use Rattle.std.proofs.Common.{◌≡◌, ◌≢◌, ℕ, zero, suc, ◌+◌, ◌-◌, ◌^◌, ◌<◌, ◌≤◌, ◌==◌, Bool, false, not, nat_le, if◌then◌else◌, pos, negsuc, List, ◌++◌, length, refl, ap, ◌∙◌, arith, subst, inl, inr}
use Rattle.std.proofs.lemmas.Bool.Decides.{nat_tests}
use Rattle.al_event.specs.declared.act.Act.TheVariants.{Pause}
use Rattle.rv_isa.specs.declared.image.Contents.{Contents}
use Rattle.rv_isa.specs.declared.instr.Instr.TheVariants.{Immediate, Branch, Ecall}
use Rattle.rv_isa.specs.declared.instr.ImmediateOp.TheVariants.{Addi}
use Rattle.rv_isa.specs.declared.instr.BranchOp.TheVariants.{Bne}
use Rattle.rv_exec.specs.Hart.{Hart, put, moved, with_register}
use Rattle.rv_exec.specs.Words.{word, sum_of}
use Rattle.rv_exec.specs.Calls.{Privates, Move, Goes}
use Rattle.rv_exec.specs.Step.{jumps, jumps_by}
use Rattle.rv_exec.specs.Step as machine
use Rattle.rv_exec.specs.Machine.{asked, line_of}
use Rattle.rv_exec.specs.declared.state.Waits.TheVariants.{Done}
use Rattle.al_ir.specs.Bounds.{most_jumps}
use Rattle.al_ir.specs.declared.ir.Ir.{Ir}
use Rattle.al_ir.specs.declared.op.Op.TheVariants as op
use Rattle.al_ir.specs.Control.{Slots, Frame as IrFrame, Control}
use Rattle.al_ir.specs.Step.{step_op, turns_to}
use Rattle.rv_code.specs.declared.reach.Reach.{Reach}
use Rattle.rv_code.specs.declared.reach.Reach.TheVariants.{Short, Middle, Long}
use Rattle.rv_code.specs.Jumps.{place, distance, jump_code}
use Rattle.rv_code.specs.Pieces.{turn_code}
use Rattle.rv_code.specs.Runs.{Stands, Fine, Leads, Comes}
use Rattle.rv_code.proofs.Leading.{stands_front, stands_back, then_leads, then_comes, one, last, fetched}
use Rattle.rv_code.proofs.Jumps.{counts, jump_does, way}
use Rattle.rv_code.proofs.Operands.{IsKept}
use Rattle.rv_code.proofs.Slots.{put_other}
use Rattle.rv_form.specs.Flow.{turn_to}
use Rattle.rv_match.specs.Match.{Private, InFrame}
use Rattle.rv_match.specs.Places.{Places, Homes, Passes, full, jumps_before}
use Rattle.rv_match.proofs.Keeping.{goes_to}
use Rattle.rv_match.proofs.Steps.{Does, here}
use Rattle.rv_match.proofs.Turning.{turn_then}
use Rattle.rv_flow.proofs.Jumping.{not_zero, not_five}

pub not_seventeen : (n : ℕ) → IsKept n → n ≢ 17
not_seventeen n (inl f) e = absurd (omega (arith, f.1, e))
not_seventeen n (inr f) e = absurd (omega (arith, f.0, e))

module _ (ir : Ir) (image : Contents) (l : Places) (live : (f pc unit t : ℕ) → Type 0) (Midway : (f pc unit : ℕ) → Slots → (sp : ℕ) → Hart → Type 0)
    (left : ℕ) (fr : IrFrame) (below : List IrFrame) (c : Control) (line : ℕ) (u : List ℕ) (h : Hart) (p : Privates)
    (homes : Homes l) (small : length image.code ≤ 2 ^ 23) (m : InFrame ir image l live Midway left fr below 0 c.text c.last h) (same : Private ir u p) (fine : Fine h p)
    (fewer : jumps_before ir fr.function fr.pc ≤ most_jumps) (to : ℕ) (low : l.at fr.function fr.pc + 4 < 2 ^ 23) (low1 : l.at fr.function to < 2 ^ 23)
    (line_is : line_of image (place (l.at fr.function fr.pc + 3)) ≡ line) (passes : Passes live fr.function fr.pc to) where
  abbrev at0 : ℕ
  at0 = l.at fr.function fr.pc

  abbrev there : ℕ
  there = l.at fr.function to

  -- a turn and a jump behind it
  then_jumps : (reach : Reach) → Stands image.code at0 (turn_code ++ jump_code reach (at0 + 4) there)
      → Does ir image l live Midway left h p (turns_to to (here ir image l live Midway left fr below c line u h p))
  then_jumps reach has =
      let jump = stands_back image.code at0 turn_code (jump_code reach (at0 + 4) there) has in
      turn_then ir image l live Midway small left _ u h p line at0 (jumps_before ir fr.function fr.pc) m.here (omega (arith, low)) m.turns m.few m.some m.waits m.counted fewer same fine
      (stands_front image.code at0 turn_code (jump_code reach (at0 + 4) there) has) line_is
      (λ left1 pc1 jumps1 work1 rs waits1 q at kept three counted some few done good.
      let h1 : Hart = record h { pc = pc1; registers = rs; waits = waits1; jumps = jumps1; work = work1 } in
      let j = jump_does image small h1 q (at0 + 4) there at low low1 (omega (arith, counted, some)) reach jump in
      let h2 : Hart = record h1 { pc = place there; registers = j.registers; jumps = j.jumps; work = j.work } in
      record {
        there = h2;
        leads = j.leads;
        match = inl (goes_to ir image l live Midway m to left1 c.text h2 refl
            (λ n k other. j.kept n (not_zero n k) (not_five n k) ∙ kept n other (not_seventeen n k))
            (j.kept 3 (omega arith) (omega arith) ∙ three) (λ i. refl) m.text_is done (omega (arith, j.counted, counted)) some few passes homes);
      }) left refl

  -- ---- the branch goes there by itself, but for the last turn

  module _ (has : Stands image.code at0 (turn_to Short at0 there)) where
    taken : (n : ℕ) (x y : Move) → (if not (suc n == 0) then x else y) ≡ x
    taken n x y = let e : (suc n == 0) ≡ false = grind (arith, nat_tests) in ap (λ (b : Bool). if not b then x else y) e

    one_less : (n : ℕ) → h.registers 3 ≡ suc n → n < 4096 → Leads image h p (record h { pc = h.pc + 4; registers = put h.registers 3 n; work = h.work + 1 }) p
    one_less n e few =
        let less : sum_of (h.registers 3) (word (negsuc 0)) ≡ n = omega (arith, e, few) in
        one image small (Immediate Addi 3 3 (negsuc 0)) at0 has.0 m.here (ap (λ k. Goes (moved (with_register 3 k (fetched h))) p) less)

    -- not the last turn
    goes_there : (n : ℕ) → h.registers 3 ≡ suc (suc n) → suc n < 4096 → h.jumps < machine.most_jumps
        → (jumps1 : ℕ) × Leads image h p (record h { pc = place there; registers = put h.registers 3 (suc n); jumps = jumps1; work = h.work + 1 + 1 }) p × (jumps1 ≤ h.jumps + 1)
    goes_there n e few room =
        let h1 : Hart = record h { pc = h.pc + 4; registers = put h.registers 3 (suc n); work = h.work + 1 } in
        let at1 : h1.pc ≡ place (at0 + 1) = omega (arith, m.here) in
        let target : sum_of h1.pc (word (distance (at0 + 1) there)) ≡ place there = ap (λ k. sum_of k (word (distance (at0 + 1) there))) at1 ∙ way (at0 + 1) there (omega (arith, low)) low1 in
        let k = counts image small (nat_le (place there) h1.pc) (place there) (fetched h1) (fetched h1) p room refl in (
          k.0,
          then_leads image {i = h1} {j = record h { pc = place there; registers = put h.registers 3 (suc n); jumps = k.0; work = h.work + 1 + 1 }} (one_less (suc n) e few)
              (one image {h = h1} {p = p} {q = p} small (Branch Bne 3 0 (distance (at0 + 1) there)) (at0 + 1) has.1.0 at1
              (taken n (jumps_by (distance (at0 + 1) there) (fetched h1) (fetched h1) p) (Goes (moved (fetched h1)) p)
              ∙ ap (λ q. jumps (nat_le q h1.pc) q (fetched h1) (fetched h1) p) target ∙ k.1)),
          k.2,
        )

    abbrev paused : Hart
    paused = record h { pc = h.pc + 4 + 4 + 4; registers = put (put h.registers 3 0) 17 2; waits = Done; work = h.work + 1 + 1 + 1 + 1 }

    abbrev again : Hart
    again = record h { pc = h.pc + 4 + 4 + 4 + 4; registers = put (put (put h.registers 3 0) 17 2) 3 4096; waits = Done; jumps = 0; work = 0 }

    pauses : h.registers 3 ≡ 1 → Comes image h p (asked image Pause paused p)
    pauses e =
        let h1 : Hart = record h { pc = h.pc + 4; registers = put h.registers 3 0; work = h.work + 1 } in
        let h2 : Hart = record h { pc = h.pc + 4 + 4; registers = put h.registers 3 0; work = h.work + 1 + 1 } in
        let h3 : Hart = record h { pc = h.pc + 4 + 4 + 4; registers = put (put h.registers 3 0) 17 2; work = h.work + 1 + 1 + 1 } in
        then_comes image (one_less 0 e (omega arith))
        (then_comes image (one image {h = h1} {next = h2} {p = p} {q = p} small (Branch Bne 3 0 (distance (at0 + 1) there)) (at0 + 1) has.1.0 (omega (arith, m.here)) refl)
        (then_comes image (one image {h = h2} {next = h3} {p = p} {q = p} small (Immediate Addi 17 0 (pos 2)) (at0 + 1 + 1) has.1.1.0 (omega (arith, m.here)) refl)
        (last image {h = h3} {waiting = paused} {p = p} {q = p} Ecall (at0 + 1 + 1 + 1) has.1.1.1.0 (omega (arith, m.here)) refl)))

    kept_again : (n : ℕ) → IsKept n → n ≢ 3 → again.registers n ≡ h.registers n
    kept_again n k other =
        put_other (put (put h.registers 3 0) 17 2) 3 4096 n other ∙ put_other (put h.registers 3 0) 17 2 n (not_seventeen n k) ∙ put_other h.registers 3 0 n other

    by_branch : (n : ℕ) → left ≡ n → Does ir image l live Midway n h p (turns_to to (here ir image l live Midway left fr below c line u h p))
    by_branch zero e = absurd (omega (arith, m.some, e))
    by_branch (suc zero) e = record {
      waiting = paused;
      privates = p;
      comes = pauses (m.turns ∙ e);
      line_is = ap (line_of image) (omega (arith, m.here)) ∙ line_is;
      waits = λ answered words. record {
        near = omega (arith, m.here, low);
        jumps = refl;
        work = refl;
        comes = λ q good.
            let j = jump_does image small again q (at0 + 4) there (omega (arith, m.here)) low low1 (omega arith) Short (stands_at has.1.1.1.1) in
            let h2 : Hart = record again { pc = place there; registers = j.registers; jumps = j.jumps; work = j.work } in
            record {
              there = h2;
              leads = j.leads;
              match = inl (goes_to ir image l live Midway m to full c.text h2 refl (λ n k other. j.kept n (not_zero n k) (not_five n k) ∙ kept_again n k other)
                  (j.kept 3 (omega arith) (omega arith)) (λ i. refl) m.text_is refl (omega (arith, j.counted)) (omega arith) (omega arith) passes homes);
            };
      };
      same = same;
    } where
      stands_at : Stands image.code (at0 + 1 + 1 + 1 + 1) (jump_code Short (at0 + 4) there) → Stands image.code (at0 + 4) (jump_code Short (at0 + 4) there)
      stands_at s = let e : at0 + 1 + 1 + 1 + 1 ≡ at0 + 4 = omega arith in subst (λ n. Stands image.code n (jump_code Short (at0 + 4) there)) e s
    by_branch (suc (suc n)) e =
        let g = goes_there n (m.turns ∙ e) (omega (arith, m.few, e)) (omega (arith, m.counted, fewer, m.some)) in
        let h2 : Hart = record h { pc = place there; registers = put h.registers 3 (suc n); jumps = g.0; work = h.work + 1 + 1 } in
        record {
          next = h2;
          privates = p;
          leads = g.1;
          match = inl (goes_to ir image l live Midway m to (suc n) c.text h2 refl (λ k a other. put_other h.registers 3 (suc n) k other) refl (λ i. refl) m.text_is m.waits
              (omega (arith, g.2, m.counted, fewer, e)) (omega arith) (omega (arith, m.few, e)) passes homes);
          same = same;
        }

  pub turns_to_does : (reach : Reach) → Stands image.code at0 (turn_to reach at0 there)
      → Does ir image l live Midway left h p (turns_to to (here ir image l live Midway left fr below c line u h p))
  turns_to_does Short has = by_branch has left refl
  turns_to_does Middle has = then_jumps Middle has
  turns_to_does Long has = then_jumps Long has

  pub turn_does : (reach : Reach) → Stands image.code at0 (turn_to reach at0 there)
      → Does ir image l live Midway left h p (step_op (op.Turn to) (here ir image l live Midway left fr below c line u h p))
  turn_does reach has = turns_to_does reach has

module _ (ir : Ir) (image : Contents) (l : Places) (live : (f pc unit t : ℕ) → Type 0) (Midway : (f pc unit : ℕ) → Slots → (sp : ℕ) → Hart → Type 0)
    (left : ℕ) (fr : IrFrame) (below : List IrFrame) (c : Control) (line : ℕ) (u : List ℕ) (h : Hart) (p : Privates)
    (homes : Homes l) (small : length image.code ≤ 2 ^ 23) (m : InFrame ir image l live Midway left fr below 0 c.text c.last h) (same : Private ir u p) (fine : Fine h p)
    (fewer : jumps_before ir fr.function fr.pc ≤ most_jumps) where
  pub back_does : (reach : Reach) (count : ℕ) → Stands image.code (l.at fr.function fr.pc) (turn_to reach (l.at fr.function fr.pc) (l.at fr.function (fr.pc - count)))
      → l.at fr.function fr.pc + 4 < 2 ^ 23 → l.at fr.function (fr.pc - count) < 2 ^ 23
      → line_of image (place (l.at fr.function fr.pc + 3)) ≡ line → Passes live fr.function fr.pc (fr.pc - count)
      → Does ir image l live Midway left h p (step_op (op.Back count) (here ir image l live Midway left fr below c line u h p))
  back_does reach count has low low1 line_is passes =
      turns_to_does ir image l live Midway left fr below c line u h p homes small m same fine fewer (fr.pc - count) low low1 line_is passes reach has
