-- The test of the stack before a call: it goes on where there is room, and else the trap is asked in the function's line.
use Rattle.std.proofs.Common.{◌≡◌, ℕ, ◌+◌, ◌-◌, ◌*◌, ◌^◌, ◌<◌, ◌≤◌, Bool, true, false, not, nat_lt, if◌then◌else◌, pos, length, refl, ap, ◌∙◌, arith}
use Rattle.std.proofs.lemmas.Bool.Decides.{nat_tests}
use Rattle.al_base.specs.declared.trap.Trap.TheVariants.{Stack}
use Rattle.al_event.specs.declared.act.Act.TheVariants as act
use Rattle.rv_isa.specs.declared.addresses.TheConstants.{STACK_START}
use Rattle.rv_isa.specs.declared.image.Contents.{Contents}
use Rattle.rv_isa.specs.declared.instr.Instr.TheVariants.{Upper, Immediate, Branch}
use Rattle.rv_isa.specs.declared.instr.UpperOp.TheVariants.{Lui}
use Rattle.rv_isa.specs.declared.instr.ImmediateOp.TheVariants.{Addi}
use Rattle.rv_isa.specs.declared.instr.BranchOp.TheVariants.{Bgeu}
use Rattle.rv_exec.specs.Hart.{Hart, put, moved, with_register}
use Rattle.rv_exec.specs.Calls.{Privates, Goes}
use Rattle.rv_exec.specs.Machine.{asked}
use Rattle.rv_exec.specs.Step.{jumps_by, most_jumps}
use Rattle.rv_code.specs.declared.reach.Reach.TheVariants.{Long}
use Rattle.rv_code.specs.Homes.{low_part, high_part}
use Rattle.rv_code.specs.Jumps.{place}
use Rattle.rv_code.specs.Runs.{Stands, Leads, Comes}
use Rattle.rv_code.proofs.Leading.{then_leads, then_comes, one, fetched}
use Rattle.rv_code.proofs.Jumps.{ahead, jump_does}
use Rattle.rv_code.proofs.Numbers.{whole, trap_asks, trapped}
use Rattle.rv_form.specs.Flow.{last_frame, stack_test, no_room, no_room_words}

not_less : (a b : ℕ) → b ≤ a → nat_lt a b ≡ false
not_less a b le = grind (arith, nat_tests, le)

less : (a b : ℕ) → a < b → nat_lt a b ≡ true
less a b lt = grind (arith, nat_tests, lt)

module _ (image : Contents) (small : length image.code ≤ 2 ^ 23) (h : Hart) (p : Privates) (at above words entry sp : ℕ) (here : h.pc ≡ place at) (low : at + 4 < 2 ^ 23)
    (pointer : h.registers 2 ≡ STACK_START + 4 * sp) (few : above + words ≤ 2 ^ 16) (has : Stands image.code at (stack_test above words entry)) where
  abbrev limit : ℕ
  limit = last_frame above words

  abbrev pub tested : ℕ → ℕ
  tested = put (put h.registers 5 (high_part limit * 2 ^ 12)) 5 limit

  abbrev at_branch : Hart
  at_branch = record h { pc = h.pc + 4 + 4; registers = tested; work = h.work + 1 + 1 }

  tests : Leads image h p at_branch p
  tests =
      let h1 : Hart = record h { pc = h.pc + 4; registers = put h.registers 5 (high_part limit * 2 ^ 12); work = h.work + 1 } in
      then_leads image {i = h1} {j = at_branch} (one image {h = h} {next = h1} {p = p} {q = p} small (Upper Lui 5 (high_part limit)) at has.0 here refl)
      (one image {h = h1} {next = at_branch} {p = p} {q = p} small (Immediate Addi 5 5 (low_part limit)) (at + 1) has.1.0 (omega (arith, here))
      (ap (λ k. Goes (moved (with_register 5 k (fetched h1))) p) (whole limit (omega arith))))

  pub test_passes : sp + above + words ≤ 2 ^ 20 → Leads image h p (record h { pc = h.pc + 4 + 4 + 12; registers = tested; work = h.work + 1 + 1 + 1 }) p
  test_passes room =
      let fits : nat_lt limit (h.registers 2) ≡ false = not_less limit (h.registers 2) (omega (arith, room, pointer, few)) in
      then_leads image {i = at_branch} {j = record h { pc = h.pc + 4 + 4 + 12; registers = tested; work = h.work + 1 + 1 + 1 }} tests
      (one image {h = at_branch} {p = p} {q = p} small (Branch Bgeu 5 2 (pos 12)) (at + 1 + 1) has.1.1.0 (omega (arith, here))
      (ap (λ (b : Bool). if not b then jumps_by (pos 12) (fetched at_branch) (fetched at_branch) p else Goes (moved (fetched at_branch)) p) fits
      ∙ ahead image small (fetched at_branch) p 12 (omega arith) (omega arith) (omega (arith, here, low))))

  pub test_fails : 2 ^ 20 < sp + above + words → no_room_words ≤ entry → entry < 2 ^ 23 → h.jumps < most_jumps → Stands image.code (entry - no_room_words) no_room
      → (waiting : Hart) × Comes image h p (asked image (act.Trap Stack) waiting p) × (waiting.pc ≡ place (entry - 1))
  test_fails full three low1 room code =
      let over : nat_lt limit (h.registers 2) ≡ true = less limit (h.registers 2) (omega (arith, full, pointer, few)) in
      let h1 : Hart = record h { pc = h.pc + 4 + 4 + 4; registers = tested; work = h.work + 1 + 1 + 1 } in
      let j = jump_does image small h1 p (at + 1 + 1 + 1) (entry - no_room_words) (omega (arith, here)) (omega (arith, low)) (omega (arith, low1)) room Long has.1.1.1 in
      let h2 : Hart = record h1 { pc = place (entry - no_room_words); registers = j.registers; jumps = j.jumps; work = j.work } in (
        trapped image small Stack h2 p (entry - no_room_words) refl,
        then_comes image {i = at_branch} tests
            (then_comes image {i = h1} (one image {h = at_branch} {next = h1} {p = p} {q = p} small (Branch Bgeu 5 2 (pos 12)) (at + 1 + 1) has.1.1.0 (omega (arith, here))
            (ap (λ (b : Bool). if not b then jumps_by (pos 12) (fetched at_branch) (fetched at_branch) p else Goes (moved (fetched at_branch)) p) over))
            (then_comes image {i = h2} j.leads (trap_asks image small Stack h2 p (entry - no_room_words) refl code))),
        omega (arith, three),
      )
