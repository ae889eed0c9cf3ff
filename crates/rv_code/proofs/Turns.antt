-- A turn: one less is left, and at the last one a pause is asked.
use Rattle.std.proofs.Common.{◌≡◌, ℕ, suc, ◌+◌, ◌^◌, ◌<◌, ◌≤◌, ◌==◌, Bool, false, not, if◌then◌else◌, pos, negsuc, length, refl, ap, ◌∙◌, arith}
use Rattle.std.proofs.lemmas.Bool.Decides.{nat_tests}
use Rattle.al_event.specs.declared.act.Act.TheVariants.{Pause}
use Rattle.rv_isa.specs.declared.image.Contents.{Contents}
use Rattle.rv_isa.specs.declared.instr.Instr.TheVariants.{Immediate, Branch, Ecall}
use Rattle.rv_isa.specs.declared.instr.ImmediateOp.TheVariants.{Addi}
use Rattle.rv_isa.specs.declared.instr.BranchOp.TheVariants.{Bne}
use Rattle.rv_exec.specs.Hart.{Hart, put, moved, with_register}
use Rattle.rv_exec.specs.Words.{word, sum_of}
use Rattle.rv_exec.specs.Calls.{Privates, Move, Goes}
use Rattle.rv_exec.specs.Step.{jumps_by}
use Rattle.rv_exec.specs.Machine.{asked}
use Rattle.rv_exec.specs.declared.state.Waits.TheVariants.{Done}
use Rattle.rv_code.specs.Jumps.{place}
use Rattle.rv_code.specs.Pieces.{turn_code}
use Rattle.rv_code.specs.Runs.{Stands, Leads, Comes}
use Rattle.rv_code.proofs.Leading.{then_leads, then_comes, one, last, fetched}
use Rattle.rv_code.proofs.Jumps.{ahead}

module _ (image : Contents) (small : length image.code ≤ 2 ^ 23) (h : Hart) (p : Privates) (at : ℕ) (here : h.pc ≡ place at) (low : at < 2 ^ 23) (has : Stands image.code at turn_code) where
  taken : (n : ℕ) (x y : Move) → (if not (suc n == 0) then x else y) ≡ x
  taken n x y = let e : (suc n == 0) ≡ false = grind (arith, nat_tests) in ap (λ (b : Bool). if not b then x else y) e

  less_one : (n : ℕ) → h.registers 3 ≡ suc n → n < 4096 → Leads image h p (record h { pc = h.pc + 4; registers = put h.registers 3 n; work = h.work + 1 }) p
  less_one n left few =
      let less : sum_of (h.registers 3) (word (negsuc 0)) ≡ n = omega (arith, left, few) in
      one image small (Immediate Addi 3 3 (negsuc 0)) at has.0 here (ap (λ k. Goes (moved (with_register 3 k (fetched h))) p) less)

  -- a turn that is not the last
  pub turns_on : (n : ℕ) → h.registers 3 ≡ suc (suc n) → suc n < 4096
      → Leads image h p (record h { pc = h.pc + 4 + 12; registers = put h.registers 3 (suc n); work = h.work + 1 + 1 }) p
  turns_on n left few =
      let h1 : Hart = record h { pc = h.pc + 4; registers = put h.registers 3 (suc n); work = h.work + 1 } in
      then_leads image (less_one (suc n) left few)
      (one image small (Branch Bne 3 0 (pos 12)) (at + 1) has.1.0 (omega (arith, here))
      (taken n (jumps_by (pos 12) (fetched h1) (fetched h1) p) (Goes (moved (fetched h1)) p) ∙ ahead image small (fetched h1) p 12 (omega arith) (omega arith) (omega (arith, here, low))))

  -- the last turn asks the pause
  abbrev pub paused : Hart
  paused = record h { pc = h.pc + 4 + 4 + 4; registers = put (put h.registers 3 0) 17 2; waits = Done; work = h.work + 1 + 1 + 1 + 1 }

  pub turns_last : h.registers 3 ≡ 1 → Comes image h p (asked image Pause paused p)
  turns_last left =
      let h1 : Hart = record h { pc = h.pc + 4; registers = put h.registers 3 0; work = h.work + 1 } in
      let h2 : Hart = record h { pc = h.pc + 4 + 4; registers = put h.registers 3 0; work = h.work + 1 + 1 } in
      let h3 : Hart = record h { pc = h.pc + 4 + 4 + 4; registers = put (put h.registers 3 0) 17 2; work = h.work + 1 + 1 + 1 } in
      then_comes image (less_one 0 left (omega arith))
      (then_comes image (one image {h = h1} {next = h2} {p = p} {q = p} small (Branch Bne 3 0 (pos 12)) (at + 1) has.1.0 (omega (arith, here)) refl)
      (then_comes image (one image {h = h2} {next = h3} {p = p} {q = p} small (Immediate Addi 17 0 (pos 2)) (at + 1 + 1) has.1.1.0 (omega (arith, here)) refl)
      (last image {h = h3} {waiting = paused} {p = p} {q = p} Ecall (at + 1 + 1 + 1) has.1.1.1.0 (omega (arith, here)) refl)))
