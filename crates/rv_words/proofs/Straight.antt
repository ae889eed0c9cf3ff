-- Instructions on registers alone, one behind the other.
use Rattle.std.proofs.Common.{◌≡◌, ◌≢◌, ℕ, zero, suc, ◌+◌, ◌*◌, ◌^◌, ◌≤◌, List, [], ◌∷◌, ◌++◌, length, refl, ap, ap₂, ◌∙◌, arith}
use Rattle.rv_isa.specs.declared.image.Contents.{Contents}
use Rattle.rv_isa.specs.declared.instr.Instr.{Instr}
use Rattle.rv_isa.specs.declared.instr.Instr.TheVariants.{Upper, Immediate, Shift, Register}
use Rattle.rv_isa.specs.declared.instr.UpperOp.TheVariants.{Lui}
use Rattle.rv_exec.specs.Hart.{Hart, put, register, moved, with_register}
use Rattle.rv_exec.specs.Words.{word, computed, computed_immediate, shifted}
use Rattle.rv_exec.specs.Calls.{Privates, Goes}
use Rattle.rv_exec.specs.Step.{executed}
use Rattle.rv_code.specs.Jumps.{place}
use Rattle.rv_code.specs.Runs.{Stands, Leads}
use Rattle.rv_code.proofs.Leading.{stays, then_leads, one, fetched}
use Rattle.rv_code.proofs.Slots.{put_same, put_other}

-- register 0 reads 0
abbrev pub reg : (ℕ → ℕ) → ℕ → ℕ
reg r zero = 0
reg r (suc n) = r (suc n)

pub register_is : (h : Hart) (n : ℕ) → register h n ≡ reg h.registers n
register_is h zero = refl
register_is h (suc n) = refl

pub reg_some : (r : ℕ → ℕ) (n : ℕ) → n ≢ 0 → reg r n ≡ r n
reg_some r zero other = absurd (other refl)
reg_some r (suc n) other = refl

pub reg_put : (r : ℕ → ℕ) (d v : ℕ) → d ≢ 0 → reg (put r d v) d ≡ v
reg_put r d v some = reg_some (put r d v) d some ∙ put_same r d v

pub reg_other : (r : ℕ → ℕ) (d v n : ℕ) → n ≢ d → reg (put r d v) n ≡ reg r n
reg_other r d v zero other = refl
reg_other r d v (suc n) other = put_other r d v (suc n) other

-- an instruction that computes a word from registers
abbrev pub IsStraight : Instr → Type 0
IsStraight (Upper Lui rd imm) = Unit {0}
IsStraight (Immediate op rd a imm) = Unit {0}
IsStraight (Shift op rd a k) = Unit {0}
IsStraight (Register op rd a b) = Unit {0}
IsStraight _ = ⊥

abbrev pub target : Instr → ℕ
target (Upper op rd imm) = rd
target (Immediate op rd a imm) = rd
target (Shift op rd a k) = rd
target (Register op rd a b) = rd
target _ = 0

abbrev pub given : Instr → (ℕ → ℕ) → ℕ
given (Upper op rd imm) r = imm * 2 ^ 12
given (Immediate op rd a imm) r = computed_immediate op (reg r a) (word imm)
given (Shift op rd a k) r = shifted op (reg r a) k
given (Register op rd a b) r = computed op (reg r a) (reg r b)
given _ r = 0

abbrev pub AreStraight : List Instr → Type 0
AreStraight [] = Unit {0}
AreStraight (i ∷ is) = IsStraight i × AreStraight is

-- the registers after them
abbrev pub after : List Instr → (ℕ → ℕ) → (ℕ → ℕ)
after [] r = r
after (i ∷ is) r = after is (put r (target i) (given i r))

-- a register that none of them writes
abbrev pub Spares : (n : ℕ) → List Instr → Type 0
Spares n [] = Unit {0}
Spares n (i ∷ is) = (n ≢ target i) × Spares n is

pub spared : (n : ℕ) (is : List Instr) (r : ℕ → ℕ) → Spares n is → after is r n ≡ r n
spared n [] r s = refl
spared n (i ∷ is) r s = spared n is (put r (target i) (given i r)) s.1 ∙ put_other r (target i) (given i r) n s.0

pub straight_append : (a b : List Instr) → AreStraight a → AreStraight b → AreStraight (a ++ b)
straight_append [] b p q = q
straight_append (i ∷ a) b p q = (p.0, straight_append a b p.1 q)

pub after_append : (a b : List Instr) (r : ℕ → ℕ) → after (a ++ b) r ≡ after b (after a r)
after_append [] b r = refl
after_append (i ∷ a) b r = after_append a b (put r (target i) (given i r))

pub spares_append : (n : ℕ) (a b : List Instr) → Spares n a → Spares n b → Spares n (a ++ b)
spares_append n [] b p q = q
spares_append n (i ∷ a) b p q = (p.0, spares_append n a b p.1 q)

module _ (image : Contents) (small : length image.code ≤ 2 ^ 23) where
  does_straight : (i : Instr) (h : Hart) (p : Privates) → IsStraight i → executed i image h p ≡ Goes (moved (with_register (target i) (given i h.registers) h)) p
  does_straight (Upper Lui rd imm) h p s = refl
  does_straight (Immediate op rd a imm) h p s = ap (λ v. Goes (moved (with_register rd (computed_immediate op v (word imm)) h)) p) (register_is h a)
  does_straight (Shift op rd a k) h p s = ap (λ v. Goes (moved (with_register rd (shifted op v k) h)) p) (register_is h a)
  does_straight (Register op rd a b) h p s = ap₂ (λ v w. Goes (moved (with_register rd (computed op v w) h)) p) (register_is h a) (register_is h b)
  does_straight _ h p s = absurd s

  -- they are run
  pub record Ran (h : Hart) (p : Privates) (is : List Instr) (end : ℕ) : Type 0 where
    pub pc : ℕ
    pub work : ℕ
    pub leads : Leads image h p (record h { pc = pc; registers = after is h.registers; work = work }) p
    pub there : pc ≡ place end

  pub runs : (is : List Instr) (h : Hart) (p : Privates) (at : ℕ) → AreStraight is → Stands image.code at is → h.pc ≡ place at → Ran h p is (at + length is)
  runs [] h p at s has here = record { pc = h.pc; work = h.work; leads = stays image; there = omega (arith, here) }
  runs (i ∷ is) h p at s has here =
      let h1 : Hart = moved (with_register (target i) (given i h.registers) (fetched h)) in
      let first : Leads image h p h1 p = one image {h = h} {next = h1} {p = p} {q = p} small i at has.0 here (does_straight i (fetched h) p s.0) in
      let more = runs is h1 p (at + 1) s.1 has.1 (omega (arith, here)) in
      record {
        pc = more.pc;
        work = more.work;
        leads = then_leads image {i = h1} {j = record h { pc = more.pc; registers = after is h1.registers; work = more.work }} first more.leads;
        there = omega (arith, more.there);
      }
