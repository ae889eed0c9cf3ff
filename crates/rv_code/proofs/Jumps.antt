-- Jumps and branches come to their targets, and count at most once.
use Rattle.std.proofs.Common.{◌≡◌, ◌≢◌, ℕ, ◌+◌, ◌-◌, ◌*◌, ◌%◌, ◌^◌, ◌<◌, ◌≤◌, ◌==◌, Bool, true, false, nat_le, nat_lt, not, if◌then◌else◌, pos, List, [], ◌∷◌, length, refl, sym, ap, ◌∙◌, arith}
use Rattle.std.proofs.lemmas.Bool.Decides.{nat_tests}
use Rattle.std.proofs.lemmas.Int.{ints}
use Rattle.rv_isa.specs.declared.image.Contents.{Contents}
use Rattle.rv_isa.specs.declared.instr.Instr.{Instr}
use Rattle.rv_isa.specs.declared.instr.Instr.TheVariants.{Upper, Jal, Jalr, Branch}
use Rattle.rv_isa.specs.declared.instr.UpperOp.TheVariants.{Lui}
use Rattle.rv_isa.specs.declared.instr.BranchOp.{BranchOp}
use Rattle.rv_isa.specs.declared.instr.BranchOp.TheVariants.{Beq, Bne, Blt, Bge, Bltu, Bgeu}
use Rattle.rv_exec.specs.Hart.{Hart, register, moved, with_register}
use Rattle.rv_exec.specs.Words.{word, sum_of, is_taken, less_signed}
use Rattle.rv_exec.specs.Calls.{Privates, Goes, illegal}
use Rattle.rv_exec.specs.Step.{jumps, jumps_by, most_jumps}
use Rattle.rv_code.specs.Homes.{low_part, high_part}
use Rattle.rv_code.specs.declared.reach.Reach.{Reach}
use Rattle.rv_code.specs.declared.reach.Reach.TheVariants.{Short, Middle, Long}
use Rattle.rv_code.specs.Jumps.{place, distance, jump_code, opposite, branch_code}
use Rattle.rv_code.specs.Runs.{At, Stands, Leads}
use Rattle.rv_code.proofs.Leading.{fetched, then_leads, one}
use Rattle.rv_code.proofs.Slots.{parts_make, put_other}

pub way : (here there : ℕ) → here < 2 ^ 23 → there < 2 ^ 23 → sum_of (place here) (word (distance here there)) ≡ place there
way here there a b = omega (arith, ints, a, b)

module _ (image : Contents) (small : length image.code ≤ 2 ^ 23) where
  -- at a word, with the stack and the rest as they were; only register 5 may have changed; at most one counted jump more
  pub record Jumped (h : Hart) (p : Privates) (there : ℕ) : Type 0 where
    pub registers : ℕ → ℕ
    pub jumps : ℕ
    pub work : ℕ
    pub leads : Leads image h p (record h { pc = place there; registers = registers; jumps = jumps; work = work }) p
    pub kept : (n : ℕ) → n ≢ 0 → n ≢ 5 → registers n ≡ h.registers n
    pub counted : jumps ≤ h.jumps + 1

  pub counts : (b : Bool) (target : ℕ) (next h : Hart) (p : Privates) → h.jumps < most_jumps → next.jumps ≡ h.jumps
      → (j : ℕ) × (jumps b target next h p ≡ Goes (record next { pc = target; jumps = j }) p) × (j ≤ h.jumps + 1)
  counts false target next h p less same = (next.jumps, refl, omega (arith, same))
  counts true target next h p less same =
      let e : nat_le most_jumps h.jumps ≡ false = grind (arith, nat_tests, less) in
      (h.jumps + 1, ap (λ (b : Bool). if b then illegal h p else Goes (record next { pc = target; jumps = h.jumps + 1 }) p) e, omega arith)

  module _ (h : Hart) (p : Privates) (at there : ℕ) (here : h.pc ≡ place at) (low : at < 2 ^ 23) (low1 : there < 2 ^ 23) (less : h.jumps < most_jumps) where
    by_jal : (is : List Instr) → Stands image.code at (Jal 0 (distance at there) ∷ is) → Jumped h p there
    by_jal is has =
        let target : sum_of h.pc (word (distance at there)) ≡ place there = ap (λ n. sum_of n (word (distance at there))) here ∙ way at there low low1 in
        let next : Hart = with_register 0 (h.pc + 4) (fetched h) in
        let c = counts (nat_le (place there) h.pc) (place there) next (fetched h) p less refl in
        record {
          registers = next.registers;
          jumps = c.0;
          work = h.work + 1;
          leads = one image small (Jal 0 (distance at there)) at has.0 here (ap (λ n. jumps (nat_le n h.pc) n next (fetched h) p) target ∙ c.1);
          kept = λ n a b. put_other h.registers 0 _ n a;
          counted = c.2;
        }

    by_register : (is : List Instr) → Stands image.code at (Upper Lui 5 (high_part (place there)) ∷ Jalr 0 5 (low_part (place there)) ∷ is) → Jumped h p there
    by_register is has =
        let h1 : Hart = moved (with_register 5 (high_part (place there) * 2 ^ 12) (fetched h)) in
        let next : Hart = with_register 0 (h1.pc + 4) (fetched h1) in
        let small_high : sum_of (high_part (place there) * 2 ^ 12) 0 ≡ high_part (place there) * 2 ^ 12 = omega arith in
        let target : sum_of (high_part (place there) * 2 ^ 12) (word (low_part (place there))) ≡ place there =
        ap (λ n. sum_of n (word (low_part (place there)))) (sym small_high) ∙ parts_make (place there) 0 (omega (arith, low1)) ∙ omega (arith, low1) in
        let even : place there - place there % 2 ≡ place there = omega arith in
        let c = counts true (place there) next (fetched h1) p less refl in
        record {
          registers = next.registers;
          jumps = c.0;
          work = h.work + 1 + 1;
          leads = then_leads image (one image {next = h1} {q = p} small (Upper Lui 5 (high_part (place there))) at has.0 here refl)
              (one image small (Jalr 0 5 (low_part (place there))) (at + 1) has.1.0 (omega (arith, here))
              (ap (λ n. jumps true (n - n % 2) next (fetched h1) p) target ∙ ap (λ n. jumps true n next (fetched h1) p) even ∙ c.1));
          kept = λ n a b. put_other h1.registers 0 _ n a ∙ put_other h.registers 5 _ n b;
          counted = c.2;
        }

    pub jump_does : (reach : Reach) → Stands image.code at (jump_code reach at there) → Jumped h p there
    jump_does Short has = by_jal [] has
    jump_does Middle has = by_jal [] has
    jump_does Long has = by_register [] has

-- ---- branches

pub opposes : (op : BranchOp) (x y : ℕ) → is_taken (opposite op) x y ≡ not (is_taken op x y)
opposes Beq x y = refl
opposes Bne x y = twice (x == y) where
  twice : (b : Bool) → b ≡ not (not b)
  twice true = refl
  twice false = refl
opposes Blt x y = refl
opposes Bge x y = twice (less_signed x y) where
  twice : (b : Bool) → b ≡ not (not b)
  twice true = refl
  twice false = refl
opposes Bltu x y = refl
opposes Bgeu x y = twice (nat_lt x y) where
  twice : (b : Bool) → b ≡ not (not b)
  twice true = refl
  twice false = refl

module _ (image : Contents) (small : length image.code ≤ 2 ^ 23) where
  pub ahead : (h : Hart) (p : Privates) (k : ℕ) → 0 < k → k < 2 ^ 11 → h.pc < 2 ^ 30 → jumps_by (pos k) h h p ≡ Goes (record h { pc = h.pc + k }) p
  ahead h p k some short near =
      let target : sum_of h.pc (word (pos k)) ≡ h.pc + k = omega (arith, ints, short, near) in
      let up : nat_le (h.pc + k) h.pc ≡ false = grind (arith, nat_tests, some) in
      ap (λ n. jumps (nat_le n h.pc) n h h p) target ∙ ap (λ (b : Bool). jumps b (h.pc + k) h h p) up

  -- a branch that is not taken only goes on
  pub record GoneOn (h : Hart) (p : Privates) (at : ℕ) : Type 0 where
    pub work : ℕ
    pub leads : Leads image h p (record h { pc = place at; work = work }) p

  module _ (op : BranchOp) (a b at there : ℕ) (h : Hart) (p : Privates) (here : h.pc ≡ place at) (low : at + 1 < 2 ^ 23) (low1 : there < 2 ^ 23) (less : h.jumps < most_jumps) where
    -- the branch instruction itself, over so many words
    over : (k : ℕ) → 0 < k → k < 2 ^ 9 → At image.code at (Branch (opposite op) a b (pos (4 * k))) → is_taken op (register h a) (register h b) ≡ false
        → Leads image h p (record h { pc = place (at + k); work = h.work + 1 }) p
    over k some few has not_so =
        let e : is_taken (opposite op) (register h a) (register h b) ≡ true = opposes op (register h a) (register h b) ∙ ap not not_so in
        let f : h.pc + 4 * k ≡ place (at + k) = omega (arith, here) in
        one image small (Branch (opposite op) a b (pos (4 * k))) at has here
        (ap (λ (t : Bool). if t then jumps_by (pos (4 * k)) (fetched h) (fetched h) p else Goes (moved (fetched h)) p) e
        ∙ ahead (fetched h) p (4 * k) (omega (arith, some)) (omega (arith, few)) (omega (arith, here, low)) ∙ ap (λ n. Goes (record h { pc = n; work = h.work + 1 }) p) f)

    onto : (k : ℕ) → At image.code at (Branch (opposite op) a b (pos (4 * k))) → is_taken op (register h a) (register h b) ≡ true
        → Leads image h p (record h { pc = h.pc + 4; work = h.work + 1 }) p
    onto k has so =
        let e : is_taken (opposite op) (register h a) (register h b) ≡ false = opposes op (register h a) (register h b) ∙ ap not so in
        one image small (Branch (opposite op) a b (pos (4 * k))) at has here
        (ap (λ (t : Bool). if t then jumps_by (pos (4 * k)) (fetched h) (fetched h) p else Goes (moved (fetched h)) p) e)

    then_jumps : {w : ℕ} → Leads image h p (record h { pc = h.pc + 4; work = w }) p → Jumped image small (record h { pc = h.pc + 4; work = w }) p there → Jumped image small h p there
    then_jumps l j = record { registers = j.registers; jumps = j.jumps; work = j.work; leads = then_leads image l j.leads; kept = j.kept; counted = j.counted }

    pub branch_goes : (reach : Reach) → Stands image.code at (branch_code reach op a b at there) → is_taken op (register h a) (register h b) ≡ true → Jumped image small h p there
    branch_goes Short has so =
        let target : sum_of h.pc (word (distance at there)) ≡ place there = ap (λ n. sum_of n (word (distance at there))) here ∙ way at there (omega (arith, low)) (omega (arith, low1)) in
        let c = counts image small (nat_le (place there) h.pc) (place there) (fetched h) (fetched h) p less refl in
        record {
          registers = h.registers;
          jumps = c.0;
          work = h.work + 1;
          leads = one image small (Branch op a b (distance at there)) at has.0 here
              (ap (λ (t : Bool). if t then jumps_by (distance at there) (fetched h) (fetched h) p else Goes (moved (fetched h)) p) so
              ∙ ap (λ n. jumps (nat_le n h.pc) n (fetched h) (fetched h) p) target ∙ c.1);
          kept = λ n q r. refl;
          counted = c.2;
        }
    branch_goes Middle has so = then_jumps (onto 2 has.0 so)
        (jump_does image small (record h { pc = h.pc + 4; work = h.work + 1 }) p (at + 1) there (omega (arith, here)) (omega (arith, low)) (omega (arith, low1)) less Middle has.1)
    branch_goes Long has so = then_jumps (onto 3 has.0 so)
        (jump_does image small (record h { pc = h.pc + 4; work = h.work + 1 }) p (at + 1) there (omega (arith, here)) (omega (arith, low)) (omega (arith, low1)) less Long has.1)

    pub branch_stays : (reach : Reach) → Stands image.code at (branch_code reach op a b at there) → is_taken op (register h a) (register h b) ≡ false
        → GoneOn h p (at + length (branch_code reach op a b at there))
    branch_stays Short has not_so =
        let f : h.pc + 4 ≡ place (at + 1) = omega (arith, here) in
        record {
          work = h.work + 1;
          leads = one image small (Branch op a b (distance at there)) at has.0 here
              (ap (λ (t : Bool). if t then jumps_by (distance at there) (fetched h) (fetched h) p else Goes (moved (fetched h)) p) not_so ∙ ap (λ n. Goes (record h { pc = n; work = h.work + 1 }) p) f);
        }
    branch_stays Middle has not_so = record { work = h.work + 1; leads = over 2 (omega arith) (omega arith) has.0 not_so }
    branch_stays Long has not_so = record { work = h.work + 1; leads = over 3 (omega arith) (omega arith) has.0 not_so }
