-- Numbers in two parts are those of their 32 bits.
use Rattle.std.proofs.Common.{◌≡◌, ℕ, ◌+◌, ◌*◌, ◌%◌, ◌^◌, [], ◌∷◌, ap, ◌∙◌, arith}
use Rattle.rv_isa.specs.Fields.{signed}
use Rattle.rv_isa.specs.declared.instr.Instr.TheVariants.{Upper, Immediate}
use Rattle.rv_isa.specs.declared.instr.UpperOp.TheVariants.{Lui}
use Rattle.rv_isa.specs.declared.instr.ImmediateOp.TheVariants.{Addi}
use Rattle.al_meaning.specs.Places.{function_address}
use Rattle.rv_form.specs.Flow.{wide_number}
use Rattle.rv_code.specs.Homes.{low_part, high_part}

high_wraps : (n : ℕ) → high_part (n % 2 ^ 32) ≡ high_part n
high_wraps n = omega arith

low_wraps : (n : ℕ) → low_part (n % 2 ^ 32) ≡ low_part n
low_wraps n = let e : n % 2 ^ 32 % 2 ^ 12 ≡ n % 2 ^ 12 = omega arith in ap (λ m. signed 12 m) e

wide_wraps : (rd n : ℕ) → wide_number rd (n % 2 ^ 32) ≡ wide_number rd n
wide_wraps rd n =
    ap (λ (h : ℕ). Upper Lui rd h ∷ Immediate Addi rd rd (low_part (n % 2 ^ 32)) ∷ []) (high_wraps n)
    ∙ ap (λ l. Upper Lui rd (high_part n) ∷ Immediate Addi rd rd l ∷ []) (low_wraps n)

-- the value of any function
pub value_wraps : (rd function : ℕ) → wide_number rd ((0x08000000 + function * 4 % 2 ^ 32) % 2 ^ 32) ≡ wide_number rd (function_address function)
value_wraps rd function =
    let e : (0x08000000 + function * 4 % 2 ^ 32) % 2 ^ 32 ≡ (0x08000000 + 4 * function) % 2 ^ 32 = omega arith in
    ap (λ n. wide_number rd n) e ∙ wide_wraps rd (function_address function)
