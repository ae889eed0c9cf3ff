-- A word comes into a register, and a trap is asked by its number.
use Rattle.std.proofs.Common.{◌≡◌, ◌≢◌, ℕ, ◌+◌, ◌-◌, ◌*◌, ◌%◌, ◌^◌, ◌<◌, ◌≤◌, Bool, true, false, nat_le, nat_lt, if◌then◌else◌, pos, negsuc, List, [], ◌∷◌, length, Option, Some, option_map, refl, ap, ◌∙◌, arith, ◌⊎◌, inl, inr}
use Rattle.std.proofs.lemmas.Bool.Decides.{nat_tests}
use Rattle.std.proofs.lemmas.Int.{ints}
use Rattle.al_base.specs.declared.trap.Trap.{Trap}
use Rattle.al_base.specs.declared.trap.Trap.TheVariants.{Fault, Align, Divide, Memory, Unalloc, Chan, Busy, Check, Stack, Tasks, Print, Illegal, Call}
use Rattle.al_base.specs.Trap.{number_of, trap_of}
use Rattle.al_event.specs.declared.act.Act.TheVariants.{Trap as Traps}
use Rattle.rv_isa.specs.declared.image.Contents.{Contents}
use Rattle.rv_isa.specs.declared.instr.Instr.{Instr}
use Rattle.rv_isa.specs.declared.instr.Instr.TheVariants.{Upper, Immediate, Ecall}
use Rattle.rv_isa.specs.declared.instr.UpperOp.TheVariants.{Lui}
use Rattle.rv_isa.specs.declared.instr.ImmediateOp.TheVariants.{Addi}
use Rattle.rv_exec.specs.Hart.{Hart, put, register, moved, with_register}
use Rattle.rv_exec.specs.Words.{word, sum_of}
use Rattle.rv_exec.specs.Calls.{Privates, Goes, asks_if_any}
use Rattle.rv_exec.specs.Machine.{asked}
use Rattle.rv_exec.specs.declared.state.Waits.TheVariants.{Done}
use Rattle.rv_code.specs.Homes.{low_part, high_part}
use Rattle.rv_code.specs.Jumps.{place}
use Rattle.rv_code.specs.Pieces.{number_code, trap_code}
use Rattle.rv_code.specs.Runs.{Stands, Comes}
use Rattle.rv_code.proofs.Leading.{fetched, then_leads, then_comes, one, last}
use Rattle.rv_code.proofs.Slots.{low_is, put_same, put_other, reads, Got}

-- a word is what its two parts make
pub whole : (n : ℕ) → n < 2 ^ 32 → sum_of (high_part n * 2 ^ 12) (word (low_part n)) ≡ n
whole n small = on (low_is (n % 2 ^ 12) (omega arith)) where
  on : ((n % 2 ^ 12 < 2 ^ 11) × (word (low_part n) ≡ n % 2 ^ 12)) ⊎ ((2 ^ 11 ≤ n % 2 ^ 12) × (word (low_part n) ≡ n % 2 ^ 12 + (2 ^ 32 - 2 ^ 12)))
      → sum_of (high_part n * 2 ^ 12) (word (low_part n)) ≡ n
  on (inl e) = rw e.1 (omega (arith, e.0, small))
  on (inr e) = rw e.1 (omega (arith, e.0, small))

-- the trap of a trap's number
pub numbered : (t : Trap) → trap_of (number_of t) ≡ Some t
numbered Fault = refl
numbered Align = refl
numbered Divide = refl
numbered Memory = refl
numbered Unalloc = refl
numbered Chan = refl
numbered Busy = refl
numbered Check = refl
numbered Stack = refl
numbered Tasks = refl
numbered Print = refl
numbered Illegal = refl
numbered Call = refl

few : (t : Trap) → sum_of 0 (word (pos (number_of t))) ≡ number_of t
few Fault = refl
few Align = refl
few Divide = refl
few Memory = refl
few Unalloc = refl
few Chan = refl
few Busy = refl
few Check = refl
few Stack = refl
few Tasks = refl
few Print = refl
few Illegal = refl
few Call = refl

module _ (image : Contents) (small : length image.code ≤ 2 ^ 23) where
  module _ (h : Hart) (p : Privates) (at rd n : ℕ) (here : h.pc ≡ place at) (some : rd ≢ 0) (fits : n < 2 ^ 32) where
    abbrev in_two : List Instr
    in_two = Upper Lui rd (high_part n) ∷ Immediate Addi rd rd (low_part n) ∷ []

    abbrev above : Instr
    above = Immediate Addi rd 0 (negsuc (2 ^ 32 - 1 - n))

    by_parts : Stands image.code at in_two → Got image small h p (at + length in_two) rd n rd
    by_parts s =
        let h1 : Hart = moved (with_register rd (high_part n * 2 ^ 12) (fetched h)) in
        let value : sum_of (register h1 rd) (word (low_part n)) ≡ n =
        ap (λ v. sum_of v (word (low_part n))) (reads h1 rd some ∙ put_same h.registers rd (high_part n * 2 ^ 12)) ∙ whole n fits in
        record {
          pc = h.pc + 4 + 4;
          registers = put (put h.registers rd (high_part n * 2 ^ 12)) rd n;
          work = h.work + 1 + 1;
          leads = then_leads image {i = h1} (one image {next = h1} {q = p} small (Upper Lui rd (high_part n)) at s.0 here refl)
              (one image {h = h1} {p = p} small (Immediate Addi rd rd (low_part n)) (at + 1) s.1.0 (omega (arith, here))
              (ap (λ v. Goes (moved (with_register rd v (fetched h1))) p) value));
          there = omega (arith, here);
          holds = put_same (put h.registers rd (high_part n * 2 ^ 12)) rd n;
          kept = λ k a b. put_other (put h.registers rd (high_part n * 2 ^ 12)) rd n k a ∙ put_other h.registers rd (high_part n * 2 ^ 12) k a;
        }

    pub numbers : Stands image.code at (number_code rd n) → Got image small h p (at + length (number_code rd n)) rd n rd
    numbers has = on (nat_lt n (2 ^ 11)) (nat_le (2 ^ 32 - 2 ^ 11) n) refl refl has where
      on : (b c : Bool) → nat_lt n (2 ^ 11) ≡ b → nat_le (2 ^ 32 - 2 ^ 11) n ≡ c
          → Stands image.code at (if b then Immediate Addi rd 0 (pos n) ∷ [] else (if c then above ∷ [] else in_two))
          → Got image small h p (at + length (if b then Immediate Addi rd 0 (pos n) ∷ [] else (if c then above ∷ [] else in_two))) rd n rd
      on true c e f s =
          let less : n < 2 ^ 11 = grind (arith, nat_tests, e) in
          let value : sum_of 0 (word (pos n)) ≡ n = omega (arith, ints, less) in
          record {
            pc = h.pc + 4;
            registers = put h.registers rd n;
            work = h.work + 1;
            leads = one image small (Immediate Addi rd 0 (pos n)) at s.0 here (ap (λ v. Goes (moved (with_register rd v (fetched h))) p) value);
            there = omega (arith, here);
            holds = put_same h.registers rd n;
            kept = λ k a b. put_other h.registers rd n k a;
          }
      on false true e f s =
          let more : 2 ^ 32 - 2 ^ 11 ≤ n = grind (arith, nat_tests, f) in
          let value : sum_of 0 (word (negsuc (2 ^ 32 - 1 - n))) ≡ n = omega (arith, ints, more, fits) in
          record {
            pc = h.pc + 4;
            registers = put h.registers rd n;
            work = h.work + 1;
            leads = one image small above at s.0 here (ap (λ v. Goes (moved (with_register rd v (fetched h))) p) value);
            there = omega (arith, here);
            holds = put_same h.registers rd n;
            kept = λ k a b. put_other h.registers rd n k a;
          }
      on false false e f s = by_parts s

  -- ---- traps

  module _ (trap : Trap) (h : Hart) (p : Privates) (at : ℕ) (here : h.pc ≡ place at) where
    abbrev pub trapped : Hart
    trapped = record h { pc = h.pc + 4 + 4; registers = put (put h.registers 10 (number_of trap)) 17 3; waits = Done; work = h.work + 1 + 1 + 1 }

    pub trap_asks : Stands image.code at (trap_code trap) → Comes image h p (asked image (Traps trap) trapped p)
    trap_asks has =
        let h1 : Hart = record h { pc = h.pc + 4; registers = put h.registers 10 (number_of trap); work = h.work + 1 } in
        let h2 : Hart = record h { pc = h.pc + 4 + 4; registers = put (put h.registers 10 (number_of trap)) 17 3; work = h.work + 1 + 1 } in
        let value : sum_of 0 (word (pos (number_of trap))) ≡ number_of trap = few trap in
        then_comes image (one image {h = h} {next = h1} {p = p} {q = p} small (Immediate Addi 10 0 (pos (number_of trap))) at has.0 here
        (ap (λ v. Goes (moved (with_register 10 v (fetched h))) p) value))
        (then_comes image (one image {h = h1} {next = h2} {p = p} {q = p} small (Immediate Addi 17 0 (pos 3)) (at + 1) has.1.0 (omega (arith, here)) refl)
        (last image {h = h2} {waiting = trapped} {p = p} {q = p} Ecall (at + 1 + 1) has.1.1.0 (omega (arith, here))
        (ap (λ (o : Option Trap). asks_if_any Done (option_map (λ t. Traps t) o) (fetched h2) p) (numbered trap))))
