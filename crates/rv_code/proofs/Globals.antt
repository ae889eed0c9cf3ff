-- Words of the private globals come into a register, and out of one.
use Rattle.std.proofs.Common.{◌≡◌, ◌≢◌, ℕ, ◌+◌, ◌*◌, ◌^◌, ◌<◌, ◌≤◌, Bool, true, false, nat_lt, if◌then◌else◌, pos, [], ◌∷◌, length, refl, sym, ap, ◌∙◌, arith, subst, ◌⊎◌, inl, inr}
use Rattle.std.proofs.lemmas.Bool.{cases_eq}
use Rattle.std.proofs.lemmas.Int.{ints}
use Rattle.rv_isa.specs.declared.addresses.TheConstants.{GLOBALS_START}
use Rattle.rv_isa.specs.declared.image.Contents.{Contents}
use Rattle.rv_isa.specs.declared.instr.Instr.{Instr}
use Rattle.rv_isa.specs.declared.instr.Instr.TheVariants.{Upper, Load, Store}
use Rattle.rv_isa.specs.declared.instr.UpperOp.TheVariants.{Lui}
use Rattle.rv_isa.specs.declared.instr.LoadOp.TheVariants.{Lw}
use Rattle.rv_isa.specs.declared.instr.StoreOp.TheVariants.{Sw}
use Rattle.rv_exec.specs.Hart.{Hart, put, register, moved, with_register}
use Rattle.rv_exec.specs.Words.{word, sum_of}
use Rattle.rv_exec.specs.Calls.{Privates, Goes}
use Rattle.rv_exec.proofs.Propriety.{register_below}
use Rattle.rv_code.specs.Homes.{low_part, high_part}
use Rattle.rv_code.specs.Jumps.{place}
use Rattle.rv_code.specs.Pieces.{by_globals, private_load, private_store}
use Rattle.rv_code.specs.Runs.{Stands, Fine, Leads}
use Rattle.rv_code.proofs.Leading.{fetched, then_leads, one}
use Rattle.rv_code.proofs.Access.{loads_global, stores_global}
use Rattle.rv_code.proofs.Slots.{put_same, put_other, reads, Got}
use Rattle.rv_code.proofs.Numbers.{whole}

module _ (image : Contents) (small : length image.code ≤ 2 ^ 23) where
  -- At word number `end` a word of the private globals has this value, and no register has another.
  pub record Held (h : Hart) (p : Privates) (end j value : ℕ) : Type 0 where
    pub pc : ℕ
    pub registers : ℕ → ℕ
    pub work : ℕ
    pub leads : Leads image h p (record h { pc = pc; registers = registers; work = work }) (put p j value)
    pub there : pc ≡ place end
    pub kept : (n : ℕ) → registers n ≡ h.registers n

  module _ (h : Hart) (p : Privates) (fine : Fine h p) (at j : ℕ) (here : h.pc ≡ place at) (pointer : h.registers 4 ≡ GLOBALS_START)
      (few : image.privates ≤ 2 ^ 16) (inside : 4 * j + 4 ≤ image.privates) where
    abbrev near_by : Hart
    near_by = moved (with_register 4 (high_part (GLOBALS_START + 4 * j) * 2 ^ 12) (fetched h))

    comes_near : (i : Instr) → Stands image.code at (by_globals j i) → Leads image h p near_by p
    comes_near i s = one image {next = near_by} {q = p} small (Upper Lui 4 (high_part (GLOBALS_START + 4 * j))) at s.0 here refl

    near_address : sum_of (h.registers 4) (word (pos (4 * j))) ≡ GLOBALS_START + 4 * j
    near_address = rw pointer (omega (arith, ints, few, inside))

    far_address : sum_of (high_part (GLOBALS_START + 4 * j) * 2 ^ 12) (word (low_part (GLOBALS_START + 4 * j))) ≡ GLOBALS_START + 4 * j
    far_address = whole (GLOBALS_START + 4 * j) (omega (arith, few, inside))

    -- register 4 is back
    back_same : (rs : ℕ → ℕ) → ((n : ℕ) → n ≢ 4 → rs n ≡ h.registers n) → (n : ℕ) → put rs 4 (high_part GLOBALS_START * 2 ^ 12) n ≡ h.registers n
    back_same rs same n = on (cases_eq n 4) where
      on : (n ≡ 4) ⊎ (n ≢ 4) → put rs 4 (high_part GLOBALS_START * 2 ^ 12) n ≡ h.registers n
      on (inl e) = rw e (sym pointer)
      on (inr e) = put_other rs 4 _ n e ∙ same n e

    abbrev far_load : ℕ → Instr
    far_load rd = Load Lw rd 4 (low_part (GLOBALS_START + 4 * j))

    abbrev far_store : ℕ → Instr
    far_store rs = Store Sw 4 rs (low_part (GLOBALS_START + 4 * j))

    pub private_loads : (rd : ℕ) → rd ≢ 4 → Stands image.code at (private_load rd j) → Got image small h p (at + length (private_load rd j)) rd (p j) rd
    private_loads rd other has = on (nat_lt j 512) has where
      on : (b : Bool) → Stands image.code at (if b then Load Lw rd 4 (pos (4 * j)) ∷ [] else by_globals j (far_load rd))
          → Got image small h p (at + length (if b then Load Lw rd 4 (pos (4 * j)) ∷ [] else by_globals j (far_load rd))) rd (p j) rd
      on true s = record {
        pc = h.pc + 4;
        registers = put h.registers rd (p j);
        work = h.work + 1;
        leads = one image small (Load Lw rd 4 (pos (4 * j))) at s.0 here (loads_global image (fetched h) p rd j (pos (4 * j)) near_address inside (fine.privates j));
        there = omega (arith, here);
        holds = put_same h.registers rd (p j);
        kept = λ n a b. put_other h.registers rd (p j) n a;
      }
      on false s =
          let h2 : Hart = record h { pc = h.pc + 4 + 4; registers = put near_by.registers rd (p j); work = h.work + 1 + 1 } in
          let loaded : Leads image near_by p h2 p = one image {h = near_by} {next = h2} {p = p} {q = p} small (far_load rd) (at + 1) s.1.0 (omega (arith, here))
          (loads_global image (fetched near_by) p rd j (low_part (GLOBALS_START + 4 * j)) far_address inside (fine.privates j)) in
          let rest : Leads image h2 p (moved (with_register 4 (high_part GLOBALS_START * 2 ^ 12) (fetched h2))) p =
          one image {h = h2} {p = p} {q = p} small (Upper Lui 4 (high_part GLOBALS_START)) (at + 1 + 1) s.1.1.0 (omega (arith, here)) refl in
          record {
            pc = h.pc + 4 + 4 + 4;
            registers = put h2.registers 4 (high_part GLOBALS_START * 2 ^ 12);
            work = h.work + 1 + 1 + 1;
            leads = then_leads image {i = near_by} (comes_near (far_load rd) s) (then_leads image {i = h2} loaded rest);
            there = omega (arith, here);
            holds = put_other h2.registers 4 _ rd other ∙ put_same near_by.registers rd (p j);
            kept = λ n a b. kept_so n a (cases_eq n 4);
          } where
            kept_so : (n : ℕ) → n ≢ rd → (n ≡ 4) ⊎ (n ≢ 4)
                → put (put near_by.registers rd (p j)) 4 (high_part GLOBALS_START * 2 ^ 12) n ≡ h.registers n
            kept_so n a (inl e) = rw e (sym pointer)
            kept_so n a (inr e) = put_other (put near_by.registers rd (p j)) 4 _ n e ∙ put_other near_by.registers rd (p j) n a ∙ put_other h.registers 4 _ n e

    pub private_stores : (rs : ℕ) → rs ≢ 0 → rs ≢ 4 → Stands image.code at (private_store rs j) → Held h p (at + length (private_store rs j)) j (h.registers rs)
    private_stores rs some other has = on (nat_lt j 512) has where
      on : (b : Bool) → Stands image.code at (if b then Store Sw 4 rs (pos (4 * j)) ∷ [] else by_globals j (far_store rs))
          → Held h p (at + length (if b then Store Sw 4 rs (pos (4 * j)) ∷ [] else by_globals j (far_store rs))) j (h.registers rs)
      on true s = record {
        pc = h.pc + 4;
        registers = h.registers;
        work = h.work + 1;
        leads = one image small (Store Sw 4 rs (pos (4 * j))) at s.0 here
            (stores_global image (fetched h) p rs j (pos (4 * j)) near_address inside (register_below h fine.hart rs)
            ∙ ap (λ v. Goes (moved (fetched h)) (put p j v)) (reads h rs some));
        there = omega (arith, here);
        kept = λ n. refl;
      }
      on false s =
          let value : register near_by rs ≡ h.registers rs = reads near_by rs some ∙ put_other h.registers 4 _ rs other in
          let q : Privates = put p j (h.registers rs) in
          let h2 : Hart = record h { pc = h.pc + 4 + 4; registers = near_by.registers; work = h.work + 1 + 1 } in
          let stored : Leads image near_by p h2 q = one image {h = near_by} {next = h2} {p = p} {q = q} small (far_store rs) (at + 1) s.1.0 (omega (arith, here))
          (stores_global image (fetched near_by) p rs j (low_part (GLOBALS_START + 4 * j)) far_address inside (subst (λ v. v < 2 ^ 32) (sym value) (fine.hart.registers rs))
          ∙ ap (λ v. Goes (moved (fetched near_by)) (put p j v)) value) in
          let rest : Leads image h2 q (moved (with_register 4 (high_part GLOBALS_START * 2 ^ 12) (fetched h2))) q =
          one image {h = h2} {p = q} {q = q} small (Upper Lui 4 (high_part GLOBALS_START)) (at + 1 + 1) s.1.1.0 (omega (arith, here)) refl in
          record {
            pc = h.pc + 4 + 4 + 4;
            registers = put near_by.registers 4 (high_part GLOBALS_START * 2 ^ 12);
            work = h.work + 1 + 1 + 1;
            leads = then_leads image {i = near_by} (comes_near (far_store rs) s) (then_leads image {i = h2} stored rest);
            there = omega (arith, here);
            kept = back_same near_by.registers (λ n e. put_other h.registers 4 _ n e);
          }
