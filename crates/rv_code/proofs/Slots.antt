-- Reading and writing slots at their homes.
use Rattle.std.proofs.Common.{◌≡◌, ◌≢◌, ℕ, zero, suc, ◌+◌, ◌-◌, ◌*◌, ◌%◌, ◌^◌, ◌<◌, ◌≤◌, ◌==◌, Bool, true, false, nat_lt, if◌then◌else◌, pos, negsuc, [], ◌∷◌, length, refl, sym, ap, ◌∙◌, arith, subst, ◌⊎◌, inl, inr}
use Rattle.std.proofs.lemmas.Bool.Decides.{nat_tests}
use Rattle.std.proofs.lemmas.Int.{ints}
use Rattle.rv_isa.specs.declared.addresses.TheConstants.{STACK_START}
use Rattle.rv_isa.specs.declared.image.Contents.{Contents}
use Rattle.rv_isa.specs.declared.instr.Instr.{Instr}
use Rattle.rv_isa.specs.declared.instr.Instr.TheVariants.{Upper, Load, Store, Register}
use Rattle.rv_isa.specs.declared.instr.UpperOp.TheVariants.{Lui}
use Rattle.rv_isa.specs.declared.instr.LoadOp.TheVariants.{Lw}
use Rattle.rv_isa.specs.declared.instr.StoreOp.TheVariants.{Sw}
use Rattle.rv_isa.specs.declared.instr.RegisterOp.TheVariants.{Add}
use Rattle.rv_isa.specs.Fields.{signed}
use Rattle.rv_exec.specs.Hart.{Hart, put, register, moved, with_register}
use Rattle.rv_exec.specs.Words.{word, sum_of}
use Rattle.rv_exec.specs.Calls.{Privates, Goes}
use Rattle.rv_exec.proofs.Propriety.{register_below}
use Rattle.rv_code.specs.Homes.{low_part, high_part, coming_near, frame_load, frame_store}
use Rattle.rv_code.specs.Jumps.{place}
use Rattle.rv_code.specs.Runs.{Stands, Fine, Leads}
use Rattle.rv_code.proofs.Leading.{fetched, then_leads, one}
use Rattle.rv_code.proofs.Access.{loads_word, stores_word, near_word}

-- ---- far words

pub low_is : (m : ℕ) → m < 2 ^ 12 → ((m < 2 ^ 11) × (word (signed 12 m) ≡ m)) ⊎ ((2 ^ 11 ≤ m) × (word (signed 12 m) ≡ m + (2 ^ 32 - 2 ^ 12)))
low_is m small = on (nat_lt m (2 ^ 11)) refl where
  on : (b : Bool) → nat_lt m (2 ^ 11) ≡ b → ((m < 2 ^ 11) × (word (if b then pos m else negsuc (2 ^ 12 - 1 - m)) ≡ m)) ⊎ ((2 ^ 11 ≤ m) × (word (if b then pos m else negsuc (2 ^ 12 - 1 - m)) ≡ m + (2 ^ 32 - 2 ^ 12)))
  on true e = let less : m < 2 ^ 11 = grind (arith, nat_tests, e) in inl (less, omega (arith, ints, less))
  on false e = let more : 2 ^ 11 ≤ m = grind (arith, nat_tests, e) in inr (more, omega (arith, ints, small, more))

-- the two parts make the number
pub parts_make : (n r : ℕ) → n < 2 ^ 31 → sum_of (sum_of (high_part n * 2 ^ 12) r) (word (low_part n)) ≡ sum_of r n
parts_make n r small = on (low_is (n % 2 ^ 12) (omega arith)) where
  on : ((n % 2 ^ 12 < 2 ^ 11) × (word (low_part n) ≡ n % 2 ^ 12)) ⊎ ((2 ^ 11 ≤ n % 2 ^ 12) × (word (low_part n) ≡ n % 2 ^ 12 + (2 ^ 32 - 2 ^ 12))) → sum_of (sum_of (high_part n * 2 ^ 12) r) (word (low_part n)) ≡ sum_of r n
  on (inl e) = rw e.1 (omega (arith, e.0, small))
  on (inr e) = rw e.1 (omega (arith, e.0, small))

-- ---- a word comes into a register

pub put_same : (f : ℕ → ℕ) (x v : ℕ) → put f x v x ≡ v
put_same f x v = let e : (x == x) ≡ true = grind (arith, nat_tests) in ap (λ (b : Bool). if b then v else f x) e

pub put_other : (f : ℕ → ℕ) (x v n : ℕ) → n ≢ x → put f x v n ≡ f n
put_other f x v n other = on (n == x) refl where
  on : (b : Bool) → (n == x) ≡ b → (if b then v else f n) ≡ f n
  on true e = absurd (other (grind (arith, nat_tests, e)))
  on false e = refl

-- reading a register that is not 0
pub reads : (h : Hart) (n : ℕ) → n ≢ 0 → register h n ≡ h.registers n
reads h zero other = absurd (other refl)
reads h (suc n) other = refl

-- register 8 comes near to word k of the frame
abbrev nearing : Hart → ℕ → Hart
nearing h k = moved (with_register 8 (high_part (4 * k) * 2 ^ 12) (fetched h))

abbrev near_by : Hart → ℕ → Hart
near_by h k = moved (with_register 8 (sum_of (high_part (4 * k) * 2 ^ 12) (h.registers 2)) (fetched (nearing h k)))

-- the stack pointer, and a word above it
pub record Above (h : Hart) (sp k : ℕ) : Type 0 where
  pub pointer : h.registers 2 ≡ STACK_START + 4 * sp
  pub inside : sp + k < 2 ^ 20

near_address : (h : Hart) (sp k : ℕ) → Above h sp k → sum_of (h.registers 2) (word (pos (4 * k))) ≡ STACK_START + 4 * (sp + k)
near_address h sp k above = near_word (h.registers 2) STACK_START sp k above.pointer (omega (arith, above.inside)) (omega (arith, above.inside))

far_address : (h : Hart) (sp k : ℕ) → Above h sp k
    → sum_of (sum_of (high_part (4 * k) * 2 ^ 12) (h.registers 2)) (word (low_part (4 * k))) ≡ STACK_START + 4 * (sp + k)
far_address h sp k above = parts_make (4 * k) (h.registers 2) (omega (arith, above.inside)) ∙ omega (arith, above.pointer, above.inside)

module _ (image : Contents) (small : length image.code ≤ 2 ^ 23) where
  -- At word number `end` a register has this value. Besides it only register 8 may have changed, and nothing but registers.
  pub record Got (h : Hart) (p : Privates) (end reg value rd : ℕ) : Type 0 where
    pub pc : ℕ
    pub registers : ℕ → ℕ
    pub work : ℕ
    pub leads : Leads image h p (record h { pc = pc; registers = registers; work = work }) p
    pub there : pc ≡ place end
    pub holds : registers reg ≡ value
    pub kept : (n : ℕ) → n ≢ rd → n ≢ 8 → registers n ≡ h.registers n

  -- At word number `end` a word of the stack has this value; only it and register 8 may have changed.
  pub record Stored (h : Hart) (p : Privates) (end cell value : ℕ) : Type 0 where
    pub pc : ℕ
    pub registers : ℕ → ℕ
    pub work : ℕ
    pub leads : Leads image h p (record h { pc = pc; registers = registers; stack = put h.stack cell value; work = work }) p
    pub there : pc ≡ place end
    pub kept : (n : ℕ) → n ≢ 8 → registers n ≡ h.registers n

  module _ (h : Hart) (p : Privates) (fine : Fine h p) (at sp k : ℕ) (here : h.pc ≡ place at) (above : Above h sp k) where
    comes_near : (i : Instr) → Stands image.code at (coming_near k i) → Leads image h p (near_by h k) p
    comes_near i s = then_leads image {j = near_by h k} {r = p} (one image {next = nearing h k} {q = p} small (Upper Lui 8 (high_part (4 * k))) at s.0 here refl)
        (one image small (Register Add 8 8 2) (at + 1) s.1.0 (omega (arith, here)) refl)

    near_keeps : (n : ℕ) → n ≢ 8 → (near_by h k).registers n ≡ h.registers n
    near_keeps n b = put_other (nearing h k).registers 8 _ n b ∙ put_other h.registers 8 _ n b

    pub frame_loads : (rd : ℕ) → Stands image.code at (frame_load rd k) → Got h p (at + length (frame_load rd k)) rd (h.stack (sp + k)) rd
    frame_loads rd has = on (nat_lt k 512) has where
      on : (b : Bool)
          → Stands image.code at (if b then Load Lw rd 2 (pos (4 * k)) ∷ [] else coming_near k (Load Lw rd 8 (low_part (4 * k))))
          → Got h p (at + length (if b then Load Lw rd 2 (pos (4 * k)) ∷ [] else coming_near k (Load Lw rd 8 (low_part (4 * k))))) rd (h.stack (sp + k)) rd
      on true s = record {
        pc = h.pc + 4;
        registers = put h.registers rd (h.stack (sp + k));
        work = h.work + 1;
        leads = one image small (Load Lw rd 2 (pos (4 * k))) at s.0 here
            (loads_word image (fetched h) p 2 rd (sp + k) (pos (4 * k)) refl (near_address h sp k above) above.inside (fine.hart.stack (sp + k)));
        there = omega (arith, here);
        holds = put_same h.registers rd _;
        kept = λ n a b. put_other h.registers rd _ n a;
      }
      on false s = record {
        pc = h.pc + 4 + 4 + 4;
        registers = put (near_by h k).registers rd (h.stack (sp + k));
        work = h.work + 1 + 1 + 1;
        leads = then_leads image (comes_near (Load Lw rd 8 (low_part (4 * k))) s)
            (one image small (Load Lw rd 8 (low_part (4 * k))) (at + 1 + 1) s.1.1.0 (omega (arith, here))
            (loads_word image (fetched (near_by h k)) p 8 rd (sp + k) (low_part (4 * k)) refl (far_address h sp k above) above.inside (fine.hart.stack (sp + k))));
        there = omega (arith, here);
        holds = put_same (near_by h k).registers rd _;
        kept = λ n a b. put_other (near_by h k).registers rd _ n a ∙ near_keeps n b;
      }

    pub frame_stores : (rs : ℕ) → rs ≢ 0 → rs ≢ 8 → Stands image.code at (frame_store rs k) → Stored h p (at + length (frame_store rs k)) (sp + k) (h.registers rs)
    frame_stores rs some other has = on (nat_lt k 512) has where
      on : (b : Bool)
          → Stands image.code at (if b then Store Sw 2 rs (pos (4 * k)) ∷ [] else coming_near k (Store Sw 8 rs (low_part (4 * k))))
          → Stored h p (at + length (if b then Store Sw 2 rs (pos (4 * k)) ∷ [] else coming_near k (Store Sw 8 rs (low_part (4 * k))))) (sp + k) (h.registers rs)
      on true s = record {
        pc = h.pc + 4;
        registers = h.registers;
        work = h.work + 1;
        leads = one image small (Store Sw 2 rs (pos (4 * k))) at s.0 here
            (stores_word image (fetched h) p 2 rs (sp + k) (pos (4 * k)) refl (near_address h sp k above) above.inside (register_below h fine.hart rs)
            ∙ ap (λ v. Goes (moved (record (fetched h) { stack = put h.stack (sp + k) v })) p) (reads h rs some));
        there = omega (arith, here);
        kept = λ n b. refl;
      }
      on false s =
          let value : register (near_by h k) rs ≡ h.registers rs = reads (near_by h k) rs some ∙ near_keeps rs other in
          record {
            pc = h.pc + 4 + 4 + 4;
            registers = (near_by h k).registers;
            work = h.work + 1 + 1 + 1;
            leads = then_leads image (comes_near (Store Sw 8 rs (low_part (4 * k))) s)
                (one image small (Store Sw 8 rs (low_part (4 * k))) (at + 1 + 1) s.1.1.0 (omega (arith, here))
                (stores_word image (fetched (near_by h k)) p 8 rs (sp + k) (low_part (4 * k)) refl (far_address h sp k above) above.inside
                (subst (λ v. v < 2 ^ 32) (sym value) (fine.hart.registers rs))
                ∙ ap (λ v. Goes (moved (record (fetched (near_by h k)) { stack = put h.stack (sp + k) v })) p) value));
            there = omega (arith, here);
            kept = near_keeps;
          }
