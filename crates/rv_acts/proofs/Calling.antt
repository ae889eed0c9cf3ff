-- Arguments come into the registers of a runtime call, and the call is made.
use Rattle.std.proofs.Common.{◌≡◌, ℕ, ◌+◌, ◌^◌, ◌≤◌, pos, length, ap, arith}
use Rattle.rv_isa.specs.declared.image.Contents.{Contents}
use Rattle.rv_isa.specs.declared.instr.Instr.TheVariants.{Immediate, Ecall}
use Rattle.rv_isa.specs.declared.instr.ImmediateOp.TheVariants.{Addi}
use Rattle.al_event.specs.declared.act.Act.{Act}
use Rattle.rv_exec.specs.Hart.{Hart, put, moved, with_register}
use Rattle.rv_exec.specs.Words.{word, sum_of}
use Rattle.rv_exec.specs.Calls.{Privates, Goes, Asks, called}
use Rattle.rv_exec.specs.Machine.{asked}
use Rattle.rv_code.specs.Jumps.{place}
use Rattle.rv_code.specs.Pieces.{call_code}
use Rattle.rv_code.specs.Runs.{Stands, Leads, Comes}
use Rattle.rv_code.proofs.Leading.{then_leads, then_comes, one, last, fetched}

module _ (image : Contents) (small : length image.code ≤ 2 ^ 23) (h : Hart) (p : Privates) (at n : ℕ) (here : h.pc ≡ place at) (few : sum_of 0 (word (pos n)) ≡ n) (has : Stands image.code at (call_code n)) where
  -- at the ECALL, with the call's number in register 17
  abbrev pub numbered : Hart
  numbered = record h { pc = h.pc + 4; registers = put h.registers 17 n; work = h.work + 1 }

  comes_to_call : Leads image h p numbered p
  comes_to_call = one image {h = h} {next = numbered} {p = p} {q = p} small (Immediate Addi 17 0 (pos n)) at has.0 here (ap (λ v. Goes (moved (with_register 17 v (fetched h))) p) few)

  -- it asks
  pub call_asks : (act : Act) (waiting : Hart) → called n image (fetched numbered) p ≡ Asks act waiting p → Comes image h p (asked image act waiting p)
  call_asks act waiting e =
      then_comes image {i = numbered} comes_to_call (last image {h = numbered} {waiting = waiting} {p = p} {q = p} Ecall (at + 1) has.1.0 (omega (arith, here)) e)

  -- it goes on
  pub call_goes : (next : Hart) → called n image (fetched numbered) p ≡ Goes next p → Leads image h p next p
  call_goes next e =
      then_leads image {i = numbered} {j = next} comes_to_call (one image {h = numbered} {next = next} {p = p} {q = p} small Ecall (at + 1) has.1.0 (omega (arith, here)) e)
