-- Numbers in two's complement, and where the formats keep their bits.
use Rattle.std.proofs.Common.{◌≡◌, ℕ, ◌+◌, ◌*◌, ◌/◌, ◌%◌, ◌-◌, ◌^◌, ◌<◌, ◌≤◌, Bool, true, false, nat_lt, if◌then◌else◌, ℤ, pos, negsuc, suc, ◌≤ℤ◌, ◌<ℤ◌, refl, ap, arith}
use Rattle.std.proofs.lemmas.Int.{ints}
use Rattle.std.proofs.lemmas.Bool.{lt-ltb}
use Rattle.std.proofs.Math.Dec.{ltb}
use Rattle.std.proofs.lemmas.Bool.Decides.{nat_tests}
use Rattle.rv_isa.specs.Fields.{bits, rd, funct3, rs1, rs2, funct7, u_imm}
use Rattle.rv_isa.specs.Table.{IsEven}
use Rattle.rv_isa.specs.Parts.{pattern}

-- what `signed` computes to where the highest bit is worth `half`
abbrev pub signed_at : (half field : ℕ) → ℤ
signed_at half field = if nat_lt field half then pos field else negsuc (2 * half - 1 - field)

pub pattern-signed : (half field : ℕ) → field < 2 * half → pattern (2 * half) (signed_at half field) ≡ field
pattern-signed half field fits = on (nat_lt field half) refl where
  on : (b : Bool) → nat_lt field half ≡ b → pattern (2 * half) (if b then pos field else negsuc (2 * half - 1 - field)) ≡ field
  on true e = refl
  on false e = omega arith

pub signed-pattern : (half : ℕ) (imm : ℤ) → 1 ≤ half → negsuc (half - 1) ≤ℤ imm → imm <ℤ pos half → signed_at half (pattern (2 * half) imm) ≡ imm
signed-pattern half (pos n) some low high =
    let below : n < half = omega (arith, ints) in
    rw (lt-ltb n half below) refl
signed-pattern half (negsuc n) some low high =
    let below : n < half = omega (arith, ints) in
    let same : 2 * half - 1 - (2 * half - suc n) ≡ n = omega arith in
    let past : nat_lt (2 * half - suc n) half ≡ false = grind (arith, nat_tests) in
    rw past (ap negsuc same)

pub pattern-fits : (half : ℕ) (imm : ℤ) → 1 ≤ half → negsuc (half - 1) ≤ℤ imm → imm <ℤ pos half → pattern (2 * half) imm < 2 * half
pattern-fits half (pos n) some low high = omega (arith, ints)
pattern-fits half (negsuc n) some low high = omega (arith, ints)

pub pattern-even : (half : ℕ) (imm : ℤ) → 1 ≤ half → negsuc (half - 1) ≤ℤ imm → IsEven imm → pattern (2 * half) imm % 2 ≡ 0
pattern-even half (pos n) some low even = even
pattern-even half (negsuc n) some low even = omega (arith, ints)

module _ (word imm : ℕ) where
  pub i_read : rs2 word ≡ imm % 32 → funct7 word ≡ imm / 32 → bits 31 20 word ≡ imm
  i_read low high = omega arith

  pub s_read : rd word ≡ imm % 32 → funct7 word ≡ imm / 32 → bits 31 25 word * 2 ^ 5 + bits 11 7 word ≡ imm
  s_read low high = omega arith

  pub b_read : imm % 2 ≡ 0 → rd word ≡ imm / 2 % 16 * 2 + imm / 2048 % 2 → funct7 word ≡ imm / 4096 * 64 + imm / 32 % 64
      → bits 31 31 word * 2 ^ 12 + bits 7 7 word * 2 ^ 11 + bits 30 25 word * 2 ^ 5 + bits 11 8 word * 2 ≡ imm
  b_read even low high = omega arith

  pub u_read : funct3 word ≡ imm % 8 → rs1 word ≡ imm / 8 % 32 → rs2 word ≡ imm / 256 % 32 → funct7 word ≡ imm / 8192 → u_imm word ≡ imm
  u_read a b c d = omega arith

  pub j_read : imm % 2 ≡ 0 → funct3 word ≡ imm / 4096 % 8 → rs1 word ≡ imm / 32768 % 32 → rs2 word ≡ imm / 2 % 16 * 2 + imm / 2048 % 2
      → funct7 word ≡ imm / 1048576 * 64 + imm / 32 % 64
      → bits 31 31 word * 2 ^ 20 + bits 19 12 word * 2 ^ 12 + bits 20 20 word * 2 ^ 11 + bits 30 21 word * 2 ≡ imm
  j_read even a b c d = omega arith
