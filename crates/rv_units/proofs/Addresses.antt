-- A number, or the address of a word of the frame, comes into a register, and no other register changes.
use Rattle.std.proofs.Common.{◌≡◌, ◌≢◌, ℕ, ◌+◌, ◌*◌, ◌^◌, ◌<◌, ◌≤◌, ◌-◌, Bool, true, false, nat_le, nat_lt, if◌then◌else◌, pos, negsuc, List, [], ◌∷◌, length, refl, ap, ap₂, ◌∙◌, arith}
use Rattle.std.proofs.lemmas.Int.{ints}
use Rattle.std.proofs.lemmas.Bool.Decides.{nat_tests}
use Rattle.rv_isa.specs.declared.addresses.TheConstants.{STACK_START}
use Rattle.rv_isa.specs.declared.image.Contents.{Contents}
use Rattle.rv_isa.specs.declared.instr.Instr.{Instr}
use Rattle.rv_isa.specs.declared.instr.Instr.TheVariants.{Upper, Immediate, Register}
use Rattle.rv_isa.specs.declared.instr.UpperOp.TheVariants.{Lui}
use Rattle.rv_isa.specs.declared.instr.ImmediateOp.TheVariants.{Addi}
use Rattle.rv_isa.specs.declared.instr.RegisterOp.TheVariants.{Add}
use Rattle.rv_exec.specs.Hart.{Hart, put, register, moved, with_register}
use Rattle.rv_exec.specs.Words.{word, sum_of}
use Rattle.rv_exec.specs.Calls.{Privates, Goes}
use Rattle.rv_code.specs.Homes.{low_part, high_part}
use Rattle.rv_code.specs.Jumps.{place}
use Rattle.rv_code.specs.Pieces.{number_code}
use Rattle.rv_code.specs.Runs.{Stands}
use Rattle.rv_code.proofs.Leading.{then_leads, one, fetched}
use Rattle.rv_code.proofs.Slots.{put_same, put_other, reads, Got}
use Rattle.rv_code.proofs.Numbers.{whole}
use Rattle.rv_form.specs.Units.{frame_address}
use Rattle.rv_words.proofs.Straight.{reg, reg_put, AreStraight, after, Spares}
use Rattle.rv_acts.proofs.Units.{fetched_register}

-- ---- numbers

module _ (rd n : ℕ) where
  abbrev in_two : List Instr
  in_two = Upper Lui rd (high_part n) ∷ Immediate Addi rd rd (low_part n) ∷ []

  abbrev above : Instr
  above = Immediate Addi rd 0 (negsuc (2 ^ 32 - 1 - n))

  pub number_straight : AreStraight (number_code rd n)
  number_straight = on (nat_lt n (2 ^ 11)) (nat_le (2 ^ 32 - 2 ^ 11) n) where
    on : (b c : Bool) → AreStraight (if b then Immediate Addi rd 0 (pos n) ∷ [] else (if c then above ∷ [] else in_two))
    on true c = (tt, tt)
    on false true = (tt, tt)
    on false false = (tt, (tt, tt))

  pub number_spares : (k : ℕ) → k ≢ rd → Spares k (number_code rd n)
  number_spares k other = on (nat_lt n (2 ^ 11)) (nat_le (2 ^ 32 - 2 ^ 11) n) where
    on : (b c : Bool) → Spares k (if b then Immediate Addi rd 0 (pos n) ∷ [] else (if c then above ∷ [] else in_two))
    on true c = (other, tt)
    on false true = (other, tt)
    on false false = (other, (other, tt))

  pub number_gives : (r : ℕ → ℕ) → rd ≢ 0 → n < 2 ^ 32 → after (number_code rd n) r rd ≡ n
  number_gives r some fits = on (nat_lt n (2 ^ 11)) (nat_le (2 ^ 32 - 2 ^ 11) n) refl refl where
    on : (b c : Bool) → nat_lt n (2 ^ 11) ≡ b → nat_le (2 ^ 32 - 2 ^ 11) n ≡ c → after (if b then Immediate Addi rd 0 (pos n) ∷ [] else (if c then above ∷ [] else in_two)) r rd ≡ n
    on true c e f =
        let less : n < 2 ^ 11 = grind (arith, nat_tests, e) in
        let value : sum_of 0 (word (pos n)) ≡ n = omega (arith, ints, less) in
        put_same r rd (sum_of 0 (word (pos n))) ∙ value
    on false true e f =
        let more : 2 ^ 32 - 2 ^ 11 ≤ n = grind (arith, nat_tests, f) in
        let value : sum_of 0 (word (negsuc (2 ^ 32 - 1 - n))) ≡ n = omega (arith, ints, more, fits) in
        put_same r rd (sum_of 0 (word (negsuc (2 ^ 32 - 1 - n)))) ∙ value
    on false false e f =
        let high : ℕ = high_part n * 2 ^ 12 in
        put_same (put r rd high) rd (sum_of (reg (put r rd high) rd) (word (low_part n)))
        ∙ ap (λ v. sum_of v (word (low_part n))) (reg_put r rd high some) ∙ whole n fits

-- ---- addresses

module _ (image : Contents) (small : length image.code ≤ 2 ^ 23) (h : Hart) (p : Privates) (at sp k rd : ℕ) (here : h.pc ≡ place at) (pointer : h.registers 2 ≡ STACK_START + 4 * sp)
    (inside : sp + k ≤ 2 ^ 21) (some : rd ≢ 0) (other : rd ≢ 2) where
  abbrev address : ℕ
  address = STACK_START + 4 * (sp + k)

  abbrev upper : ℕ
  upper = high_part (4 * k) * 2 ^ 12

  abbrev in_three : List Instr
  in_three = Upper Lui rd (high_part (4 * k)) ∷ Immediate Addi rd rd (low_part (4 * k)) ∷ Register Add rd rd 2 ∷ []

  by_parts : Stands image.code at in_three → Got image small h p (at + length in_three) rd address rd
  by_parts s =
      let h1 : Hart = moved (with_register rd upper (fetched h)) in
      let h2 : Hart = record h { pc = h.pc + 4 + 4; registers = put (put h.registers rd upper) rd (4 * k); work = h.work + 1 + 1 } in
      let bytes : sum_of (register h1 rd) (word (low_part (4 * k))) ≡ 4 * k =
      ap (λ v. sum_of v (word (low_part (4 * k)))) (reads h1 rd some ∙ put_same h.registers rd upper) ∙ whole (4 * k) (omega (arith, inside)) in
      let first : register h2 rd ≡ 4 * k = reads h2 rd some ∙ put_same (put h.registers rd upper) rd (4 * k) in
      let second : h2.registers 2 ≡ h.registers 2 = put_other (put h.registers rd upper) rd (4 * k) 2 (λ e. other (turned e)) ∙ put_other h.registers rd upper 2 (λ e. other (turned e)) in
      let value : sum_of (4 * k) (h.registers 2) ≡ address = omega (arith, pointer, inside) in
      record {
        pc = h.pc + 4 + 4 + 4;
        registers = put (put (put h.registers rd upper) rd (4 * k)) rd address;
        work = h.work + 1 + 1 + 1;
        leads = then_leads image {i = h2} (then_leads image {i = h1} {j = h2} (one image {next = h1} {q = p} small (Upper Lui rd (high_part (4 * k))) at s.0 here refl)
            (one image {h = h1} {next = h2} {p = p} {q = p} small (Immediate Addi rd rd (low_part (4 * k))) (at + 1) s.1.0 (omega (arith, here))
            (ap (λ v. Goes (moved (with_register rd v (fetched h1))) p) bytes)))
            (one image {h = h2} {p = p} small (Register Add rd rd 2) (at + 1 + 1) s.1.1.0 (omega (arith, here))
            (ap₂ (λ (u v : ℕ). Goes (moved (with_register rd (sum_of u v) (fetched h2))) p) (fetched_register h2 rd ∙ first) second ∙ ap (λ v. Goes (moved (with_register rd v (fetched h2))) p) value));
        there = omega (arith, here);
        holds = put_same (put (put h.registers rd upper) rd (4 * k)) rd address;
        kept = λ n a b. put_other (put (put h.registers rd upper) rd (4 * k)) rd address n a ∙ put_other (put h.registers rd upper) rd (4 * k) n a ∙ put_other h.registers rd upper n a;
      } where
        turned : 2 ≡ rd → rd ≡ 2
        turned e = omega (arith, e)

  pub addresses : Stands image.code at (frame_address rd k) → Got image small h p (at + length (frame_address rd k)) rd (STACK_START + 4 * (sp + k)) rd
  addresses has = on (nat_lt k 512) refl has where
    on : (b : Bool) → nat_lt k 512 ≡ b → Stands image.code at (if b then Immediate Addi rd 2 (pos (4 * k)) ∷ [] else in_three)
        → Got image small h p (at + length (if b then Immediate Addi rd 2 (pos (4 * k)) ∷ [] else in_three)) rd address rd
    on true e s =
        let near : k < 512 = grind (arith, nat_tests, e) in
        let value : sum_of (h.registers 2) (word (pos (4 * k))) ≡ address = omega (arith, ints, pointer, inside, near) in
        record {
          pc = h.pc + 4;
          registers = put h.registers rd address;
          work = h.work + 1;
          leads = one image small (Immediate Addi rd 2 (pos (4 * k))) at s.0 here (ap (λ v. Goes (moved (with_register rd v (fetched h))) p) value);
          there = omega (arith, here);
          holds = put_same h.registers rd address;
          kept = λ n a b. put_other h.registers rd address n a;
        }
    on false e s = by_parts s
