-- Operations on words, with homes in the frame and in registers.
use Rattle.std.proofs.Common.{◌≡◌, ℕ, ◌+◌, ◌^◌, ◌-◌, true, false, List, [], ◌∷◌, ◌++◌, refl}
use Rattle.std.specs.Prelude.{nat_lt, if◌then◌else◌}
use Rattle.std.specs.Fmt.{digits}
use Rattle.al_base.specs.declared.arith.Op.TheVariants as arith
use Rattle.al_base.specs.declared.arith.Kind.TheVariants as kind
use Rattle.al_ir.specs.declared.ir.Ir.{Ir}
use Rattle.al_ir.specs.declared.ir.Operation.{Operation}
use Rattle.al_ir.specs.declared.op.Op.{Op}
use Rattle.al_ir.specs.declared.op.Op.TheVariants as op
use Rattle.rv_code.specs.declared.home.Home.TheVariants.{Frame, Saved}
use Rattle.rv_exec.specs.Step.{performed}
use Rattle.rv_form.specs.Program.{Homes}
use Rattle.rv_form_examples.specs.Runs.{by_operations, by_code, plain}
use Rattle.rv_form_examples.proofs.Programs.{on, function, program}

-- the first ten slots of the first function in registers
abbrev in_registers : Homes
in_registers f t = if nat_lt t 10 then Saved (18 + t) else Frame t

-- an operation, whose word in slot 2 is shown
abbrev shown : ℕ → Op → List Operation
shown line o = on line o ∷ on line (op.PutHex 2) ∷ on line (op.PutByte 32) ∷ []

abbrev computes : List Operation → Ir
computes code = program (function 1 0 24 12 (
    on 1 (op.Constant 0 (2 ^ 32 - 100))
    ∷ on 1 (op.Constant 1 35)
    ∷ (code ++ on 2 op.Print ∷ on 3 (op.Leave 0) ∷ [])) ∷ [])

-- ---- two operands

abbrev operators : Ir
operators = computes (
    shown 2 (op.Word arith.Add true 2 0 1)
    ++ shown 2 (op.Word arith.Sub true 2 1 0)
    ++ shown 2 (op.Word arith.Mul true 2 0 1)
    ++ shown 2 (op.Word arith.Div true 2 0 1)
    ++ shown 2 (op.Word arith.Div false 2 0 1)
    ++ shown 2 (op.Word arith.Rem true 2 0 1)
    ++ shown 2 (op.Word arith.Rem false 2 0 1)
    ++ shown 2 (op.Word arith.And true 2 0 1)
    ++ shown 2 (op.Word arith.Or true 2 0 1)
    ++ shown 2 (op.Word arith.Xor true 2 0 1)
    ++ shown 2 (op.Word arith.Shl true 2 0 1)
    ++ shown 2 (op.Word arith.Shr true 2 0 1)
    ++ shown 2 (op.Word arith.Shr false 2 0 1)
    ++ shown 2 (op.Word arith.Lt true 2 0 1)
    ++ shown 2 (op.Word arith.Lt false 2 0 1)
    ++ shown 2 (op.Word arith.Le true 2 0 0)
    ++ shown 2 (op.Word arith.Le false 2 0 1)
    ++ shown 2 (op.Word arith.Eq true 2 0 1)
    ++ shown 2 (op.Word arith.Ne true 2 0 1))

pub operators_in_the_frame : by_code plain operators ([] ∷ []) ≡ by_operations operators ([] ∷ [])
unfolding performed digits
operators_in_the_frame = refl

pub operators_in_registers : by_code in_registers operators ([] ∷ []) ≡ by_operations operators ([] ∷ [])
unfolding performed digits
operators_in_registers = refl

-- ---- a constant on the right

abbrev constants : Ir
constants = computes (
    shown 2 (op.WordBy arith.Add true 2 0 (2 ^ 32 - 5))
    ++ shown 2 (op.WordBy arith.Sub true 2 1 7)
    ++ shown 2 (op.WordBy arith.Sub true 2 1 (2 ^ 32 - 2048))
    ++ shown 2 (op.WordBy arith.Sub false 2 1 0)
    ++ shown 2 (op.WordBy arith.Mul true 2 0 3)
    ++ shown 2 (op.WordBy arith.Div true 2 0 (2 ^ 32 - 7))
    ++ shown 2 (op.WordBy arith.Rem false 2 0 9)
    ++ shown 2 (op.WordBy arith.And true 2 0 (2 ^ 32 - 16))
    ++ shown 2 (op.WordBy arith.Or true 2 1 1024)
    ++ shown 2 (op.WordBy arith.Xor true 2 1 (2 ^ 32 - 1))
    ++ shown 2 (op.WordBy arith.Shl true 2 0 37)
    ++ shown 2 (op.WordBy arith.Shr true 2 0 4)
    ++ shown 2 (op.WordBy arith.Shr false 2 0 (2 ^ 32 - 1))
    ++ shown 2 (op.WordBy arith.Lt true 2 0 (2 ^ 32 - 99))
    ++ shown 2 (op.WordBy arith.Lt false 2 1 (2 ^ 32 - 1))
    ++ shown 2 (op.WordBy arith.Le true 2 1 35)
    ++ shown 2 (op.WordBy arith.Le false 2 0 2047)
    ++ shown 2 (op.WordBy arith.Eq true 2 0 (2 ^ 32 - 100))
    ++ shown 2 (op.WordBy arith.Ne true 2 1 35))

pub constants_in_the_frame : by_code plain constants ([] ∷ []) ≡ by_operations constants ([] ∷ [])
unfolding performed digits
constants_in_the_frame = refl

pub constants_in_registers : by_code in_registers constants ([] ∷ []) ≡ by_operations constants ([] ∷ [])
unfolding performed digits
constants_in_registers = refl

-- ---- one operand, and addresses

abbrev single : Ir
single = computes (
    shown 2 (op.Copy 2 0)
    ++ shown 2 (op.Complement 2 0)
    ++ shown 2 (op.IsZero 2 0)
    ++ shown 2 (op.IsLongSet 2 0)
    ++ shown 2 (op.Extract 2 0 0 1)
    ++ shown 2 (op.Extract 2 0 1 2)
    ++ shown 2 (op.Extract 2 0 3 2)
    ++ shown 2 (op.Extract 2 0 2 4)
    ++ shown 2 (op.Offset 2 1 8)
    ++ shown 2 (op.Offset 2 1 (2 ^ 28 + 3000))
    ++ shown 2 (op.Advance false 1 2 0 1)
    ++ shown 2 (op.Advance true 2 2 0 1)
    ++ shown 2 (op.Advance false 4 2 0 1)
    ++ shown 2 (op.Advance true 12 2 1 0)
    ++ shown 2 (op.Between 4 2 0 1)
    ++ shown 2 (op.Between 5000 2 1 0))

pub single_in_the_frame : by_code plain single ([] ∷ []) ≡ by_operations single ([] ∷ [])
unfolding performed digits
single_in_the_frame = refl

pub single_in_registers : by_code in_registers single ([] ∷ []) ≡ by_operations single ([] ∷ [])
unfolding performed digits
single_in_registers = refl

-- ---- conversions

abbrev conversions : Ir
conversions = computes (
    shown 2 (op.Convert kind.Int kind.Byte 2 0)
    ++ shown 2 (op.Convert kind.Int kind.Sint 2 0)
    ++ shown 2 (op.Convert kind.Uint kind.Usint 2 0)
    ++ shown 2 (op.Convert kind.Sint kind.Int 2 0)
    ++ shown 2 (op.Convert kind.Usint kind.Int 2 0)
    ++ shown 2 (op.Convert kind.Byte kind.Sint 2 0)
    ++ shown 2 (op.Convert kind.Sint kind.Usint 2 0)
    ++ shown 2 (op.Convert kind.Int kind.Uint 2 0)
    ++ shown 2 (op.Convert kind.Lint kind.Int 2 0)
    ++ shown 2 (op.Convert kind.Ulint kind.Byte 2 0)
    ++ (on 2 (op.Convert kind.Int kind.Lint 2 0) ∷ on 2 (op.PutLongDecimal true 2)
    ∷ on 2 (op.Convert kind.Uint kind.Lint 2 0) ∷ on 2 (op.PutLongDecimal true 2)
    ∷ on 2 (op.Convert kind.Sint kind.Ulint 2 0) ∷ on 2 (op.PutLongHex 2)
    ∷ on 2 (op.Convert kind.Byte kind.Lint 2 0) ∷ on 2 (op.PutLongHex 2)
    ∷ on 2 (op.Convert kind.Lint kind.Ulint 2 0) ∷ on 2 (op.PutLongHex 2) ∷ []))

pub conversions_in_the_frame : by_code plain conversions ([] ∷ []) ≡ by_operations conversions ([] ∷ [])
unfolding performed digits
conversions_in_the_frame = refl

pub conversions_in_registers : by_code in_registers conversions ([] ∷ []) ≡ by_operations conversions ([] ∷ [])
unfolding performed digits
conversions_in_registers = refl
