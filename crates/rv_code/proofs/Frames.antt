-- The frame goes up and down; calls go to a function and come back.
use Rattle.std.proofs.Common.{◌≡◌, ◌≢◌, ℕ, ◌+◌, ◌-◌, ◌*◌, ◌%◌, ◌^◌, ◌<◌, ◌≤◌, true, pos, [], ◌∷◌, ◌++◌, length, refl, ap, ◌∙◌, arith}
use Rattle.std.proofs.lemmas.Int.{ints}
use Rattle.rv_isa.specs.declared.addresses.TheConstants.{STACK_START}
use Rattle.rv_isa.specs.declared.image.Contents.{Contents}
use Rattle.rv_isa.specs.declared.instr.Instr.{Instr}
use Rattle.rv_isa.specs.declared.instr.Instr.TheVariants.{Upper, Jalr, Immediate, Register}
use Rattle.rv_isa.specs.declared.instr.UpperOp.TheVariants.{Lui}
use Rattle.rv_isa.specs.declared.instr.ImmediateOp.TheVariants.{Addi}
use Rattle.rv_isa.specs.declared.instr.RegisterOp.TheVariants.{Add, Sub}
use Rattle.rv_exec.specs.Hart.{Hart, put, moved, with_register}
use Rattle.rv_exec.specs.Words.{word, sum_of, difference_of}
use Rattle.rv_exec.specs.Calls.{Privates, Goes}
use Rattle.rv_exec.specs.Step.{jumps, most_jumps}
use Rattle.rv_code.specs.Homes.{low_part, high_part, frame_load}
use Rattle.rv_code.specs.Jumps.{place, link_code}
use Rattle.rv_code.specs.Pieces.{up_code, down_code}
use Rattle.rv_code.specs.Runs.{Stands, Fine, Leads}
use Rattle.rv_code.proofs.Leading.{stands_front, stands_back, then_leads, one, fetched}
use Rattle.rv_code.proofs.Slots.{put_same, put_other, Above, frame_loads}
use Rattle.rv_code.proofs.Jumps.{counts}
use Rattle.rv_code.proofs.Numbers.{whole}

module _ (image : Contents) (small : length image.code ≤ 2 ^ 23) where
  -- At word number `end` the frame begins at another word of the stack; only register 5 may have changed besides.
  pub record Shifted (h : Hart) (p : Privates) (end sp : ℕ) : Type 0 where
    pub pc : ℕ
    pub registers : ℕ → ℕ
    pub work : ℕ
    pub leads : Leads image h p (record h { pc = pc; registers = registers; work = work }) p
    pub there : pc ≡ place end
    pub pointer : registers 2 ≡ STACK_START + 4 * sp
    pub kept : (n : ℕ) → n ≢ 2 → n ≢ 5 → registers n ≡ h.registers n

  module _ (h : Hart) (p : Privates) (at n : ℕ) (here : h.pc ≡ place at) (few : n ≤ 2 ^ 20) where
    abbrev upper : Hart
    upper = record h { pc = h.pc + 4; registers = put h.registers 5 (high_part (4 * n) * 2 ^ 12); work = h.work + 1 }

    abbrev by_bytes : Hart
    by_bytes = record h { pc = h.pc + 4 + 4; registers = put (put h.registers 5 (high_part (4 * n) * 2 ^ 12)) 5 (4 * n); work = h.work + 1 + 1 }

    bytes : (i : Instr) → Stands image.code at (Upper Lui 5 (high_part (4 * n)) ∷ Immediate Addi 5 5 (low_part (4 * n)) ∷ i ∷ []) → Leads image h p by_bytes p
    bytes i has = then_leads image {i = upper} (one image {h = h} {next = upper} {p = p} {q = p} small (Upper Lui 5 (high_part (4 * n))) at has.0 here refl)
        (one image {h = upper} {next = by_bytes} {p = p} {q = p} small (Immediate Addi 5 5 (low_part (4 * n))) (at + 1) has.1.0 (omega (arith, here))
        (ap (λ k. Goes (moved (with_register 5 k (fetched upper))) p) (whole (4 * n) (omega (arith, few)))))

    bytes_keep : (v k : ℕ) → k ≢ 2 → k ≢ 5 → put by_bytes.registers 2 v k ≡ h.registers k
    bytes_keep v k a b = put_other by_bytes.registers 2 v k a ∙ put_other (put h.registers 5 (high_part (4 * n) * 2 ^ 12)) 5 (4 * n) k b ∙ put_other h.registers 5 _ k b

    pub goes_up : (base : ℕ) → h.registers 2 ≡ STACK_START + 4 * base → base + n ≤ 2 ^ 20 → Stands image.code at (up_code n) → Shifted h p (at + 3) (base + n)
    goes_up base pointer near has =
        let up_to : sum_of (h.registers 2) (4 * n) ≡ STACK_START + 4 * (base + n) = omega (arith, pointer, near) in
        record {
          pc = h.pc + 4 + 4 + 4;
          registers = put by_bytes.registers 2 (STACK_START + 4 * (base + n));
          work = h.work + 1 + 1 + 1;
          leads = then_leads image {i = by_bytes} (bytes (Register Add 2 2 5) has)
              (one image {h = by_bytes} {p = p} {q = p} small (Register Add 2 2 5) (at + 1 + 1) has.1.1.0 (omega (arith, here))
              (ap (λ k. Goes (moved (with_register 2 k (fetched by_bytes))) p) up_to));
          there = omega (arith, here);
          pointer = refl;
          kept = bytes_keep (STACK_START + 4 * (base + n));
        }

    pub goes_down : (base : ℕ) → h.registers 2 ≡ STACK_START + 4 * (base + n) → base + n ≤ 2 ^ 20 → Stands image.code at (down_code n) → Shifted h p (at + 3) base
    goes_down base pointer near has =
        let down_to : difference_of (h.registers 2) (4 * n) ≡ STACK_START + 4 * base = omega (arith, pointer, near) in
        record {
          pc = h.pc + 4 + 4 + 4;
          registers = put by_bytes.registers 2 (STACK_START + 4 * base);
          work = h.work + 1 + 1 + 1;
          leads = then_leads image {i = by_bytes} (bytes (Register Sub 2 2 5) has)
              (one image {h = by_bytes} {p = p} {q = p} small (Register Sub 2 2 5) (at + 1 + 1) has.1.1.0 (omega (arith, here))
              (ap (λ k. Goes (moved (with_register 2 k (fetched by_bytes))) p) down_to));
          there = omega (arith, here);
          pointer = refl;
          kept = bytes_keep (STACK_START + 4 * base);
        }

  -- ---- to a function, and back

  -- at a function's start, with the way back in register 1
  pub record Linked (h : Hart) (p : Privates) (there back : ℕ) : Type 0 where
    pub registers : ℕ → ℕ
    pub jumps : ℕ
    pub work : ℕ
    pub leads : Leads image h p (record h { pc = place there; registers = registers; jumps = jumps; work = work }) p
    pub way : registers 1 ≡ place back
    pub kept : (n : ℕ) → n ≢ 1 → n ≢ 5 → registers n ≡ h.registers n
    pub counted : jumps ≤ h.jumps + 1

  pub links : (h : Hart) (p : Privates) (at there : ℕ) → h.pc ≡ place at → at < 2 ^ 23 → there < 2 ^ 23 → h.jumps < most_jumps
      → Stands image.code at (link_code there) → Linked h p there (at + 2)
  links h p at there here low low1 room has =
      let h1 : Hart = moved (with_register 5 (high_part (place there) * 2 ^ 12) (fetched h)) in
      let next : Hart = with_register 1 (h1.pc + 4) (fetched h1) in
      let target : sum_of (high_part (place there) * 2 ^ 12) (word (low_part (place there))) ≡ place there = whole (place there) (omega (arith, low1)) in
      let even : place there - place there % 2 ≡ place there = omega arith in
      let c = counts image small true (place there) next (fetched h1) p room refl in
      record {
        registers = next.registers;
        jumps = c.0;
        work = h.work + 1 + 1;
        leads = then_leads image {i = h1} (one image {next = h1} {q = p} small (Upper Lui 5 (high_part (place there))) at has.0 here refl)
            (one image {h = h1} {p = p} small (Jalr 1 5 (low_part (place there))) (at + 1) has.1.0 (omega (arith, here))
            (ap (λ n. jumps true (n - n % 2) next (fetched h1) p) target ∙ ap (λ n. jumps true n next (fetched h1) p) even ∙ c.1));
        way = put_same h1.registers 1 (h1.pc + 4) ∙ omega (arith, here);
        kept = λ n a b. put_other h1.registers 1 _ n a ∙ put_other h.registers 5 _ n b;
        counted = c.2;
      }

  -- the way back is taken
  pub record Back (h : Hart) (p : Privates) (to : ℕ) : Type 0 where
    pub registers : ℕ → ℕ
    pub jumps : ℕ
    pub work : ℕ
    pub leads : Leads image h p (record h { pc = to; registers = registers; jumps = jumps; work = work }) p
    pub kept : (n : ℕ) → n ≢ 0 → n ≢ 1 → n ≢ 8 → registers n ≡ h.registers n
    pub counted : jumps ≤ h.jumps + 1

  pub returns_by : (h : Hart) (p : Privates) (at r : ℕ) → h.pc ≡ place at → h.registers 1 ≡ place r → r < 2 ^ 23
      → Stands image.code at (Jalr 0 1 (pos 0) ∷ []) → h.jumps < most_jumps → Back h p (place r)
  returns_by h p at r here way low has room =
      let next : Hart = with_register 0 (h.pc + 4) (fetched h) in
      let target : sum_of (h.registers 1) (word (pos 0)) ≡ place r = omega (arith, ints, way, low) in
      let even : place r - place r % 2 ≡ place r = omega arith in
      let c = counts image small true (place r) next (fetched h) p room refl in
      record {
        registers = next.registers;
        jumps = c.0;
        work = h.work + 1;
        leads = one image {h = h} {p = p} small (Jalr 0 1 (pos 0)) at has.0 here
            (ap (λ n. jumps true (n - n % 2) next (fetched h) p) target ∙ ap (λ n. jumps true n next (fetched h) p) even ∙ c.1);
        kept = λ n a b d. put_other h.registers 0 _ n a;
        counted = c.2;
      }

  pub returns : (h : Hart) (p : Privates) (at sp k r : ℕ) → Fine h p → h.pc ≡ place at → Above h sp k → h.stack (sp + k) ≡ place r → r < 2 ^ 23
      → Stands image.code at (frame_load 1 k ++ Jalr 0 1 (pos 0) ∷ []) → h.jumps < most_jumps → Back h p (place r)
  returns h p at sp k r fine here above way low has room =
      let g = frame_loads image small h p fine at sp k here above 1 (stands_front image.code at (frame_load 1 k) (Jalr 0 1 (pos 0) ∷ []) has) in
      let h1 : Hart = record h { pc = g.pc; registers = g.registers; work = g.work } in
      let b = returns_by h1 p (at + length (frame_load 1 k)) r g.there (g.holds ∙ way) low (stands_back image.code at (frame_load 1 k) (Jalr 0 1 (pos 0) ∷ []) has) room in
      record {
        registers = b.registers;
        jumps = b.jumps;
        work = b.work;
        leads = then_leads image {i = h1} {j = record h { pc = place r; registers = b.registers; jumps = b.jumps; work = b.work }} g.leads b.leads;
        kept = λ n a c d. b.kept n a c d ∙ g.kept n c d;
        counted = b.counted;
      }
