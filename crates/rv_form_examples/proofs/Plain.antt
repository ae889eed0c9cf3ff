-- Programs with a word of the frame for each slot. Each asks on the machine what its operations ask, in the same lines.
use Rattle.std.proofs.Common.{◌≡◌, ◌^◌, ◌-◌, true, false, List, [], ◌∷◌, refl}
use Rattle.std.specs.Fmt.{digits}
use Rattle.al_base.specs.declared.arith.Op.TheVariants as arith
use Rattle.al_base.specs.declared.trap.Trap.TheVariants as trap
use Rattle.al_event.specs.declared.act.Act.TheVariants as act
use Rattle.al_ir.specs.declared.ir.Ir.{Ir}
use Rattle.al_ir.specs.declared.op.Op.TheVariants as op
use Rattle.rv_exec.specs.Step.{performed}
use Rattle.rv_form_examples.specs.Runs.{Said, by_operations, by_code, plain}
use Rattle.rv_form_examples.proofs.Programs.{on, function, program, says}

-- ---- a loop

-- s = 0; for (i = 0; i < 5; i++) s = s + i; print s
abbrev sums : Ir
sums = program (function 1 0 16 8 (
    on 2 (op.Constant 0 0)
    ∷ on 3 (op.Constant 1 0)
    ∷ on 3 (op.Constant 2 5)
    ∷ on 3 (op.SkipUnless arith.Lt true 1 2 3)
    ∷ on 4 (op.Word arith.Add true 0 0 1)
    ∷ on 3 (op.WordBy arith.Add true 1 1 1)
    ∷ on 3 (op.Back 3)
    ∷ on 5 (op.PutDecimal true 0)
    ∷ on 5 (op.PutByte 10)
    ∷ on 5 op.Print
    ∷ on 6 (op.Leave 0)
    ∷ []) ∷ [])

abbrev sums_say : List Said
sums_say = says 5 (act.Print (49 ∷ 48 ∷ 10 ∷ [])) ∷ says 0 act.End ∷ []

pub sums_meant : by_operations sums ([] ∷ []) ≡ sums_say
unfolding digits
sums_meant = refl

pub sums_run : by_code plain sums ([] ∷ []) ≡ sums_say
unfolding performed digits
sums_run = refl

-- ---- a call with two arguments, and its result

abbrev differs : Ir
differs = program (
    function 1 0 16 8 (
    on 2 (op.Constant 3 4)
    ∷ on 2 (op.Constant 4 9)
    ∷ on 2 (op.Invoke 1 3)
    ∷ on 2 (op.Result 0 0)
    ∷ on 3 (op.PutDecimal true 0)
    ∷ on 3 op.Print
    ∷ on 4 (op.Leave 0)
    ∷ [])
    ∷ function 7 2 10 2 (
    on 8 (op.Word arith.Sub true 0 0 1)
    ∷ on 8 (op.Leave 1)
    ∷ [])
    ∷ [])

abbrev differs_say : List Said
differs_say = says 3 (act.Print (45 ∷ 53 ∷ [])) ∷ says 0 act.End ∷ []

pub differs_meant : by_operations differs ([] ∷ []) ≡ differs_say
unfolding digits
differs_meant = refl

pub differs_run : by_code plain differs ([] ∷ []) ≡ differs_say
unfolding performed digits
differs_run = refl

-- ---- recursion

-- 5!
abbrev factorial : Ir
factorial = program (
    function 1 0 16 8 (
    on 2 (op.Constant 0 5)
    ∷ on 2 (op.Invoke 1 0)
    ∷ on 2 (op.Result 0 0)
    ∷ on 3 (op.PutDecimal false 0)
    ∷ on 3 op.Print
    ∷ on 4 (op.Leave 0)
    ∷ [])
    ∷ function 6 1 16 8 (
    on 7 (op.SkipIfSet 0 2)
    ∷ on 7 (op.Constant 0 1)
    ∷ on 7 (op.Leave 1)
    ∷ on 8 (op.WordBy arith.Sub true 1 0 1)
    ∷ on 8 (op.Invoke 1 1)
    ∷ on 8 (op.Result 1 0)
    ∷ on 8 (op.Word arith.Mul true 0 0 1)
    ∷ on 8 (op.Leave 1)
    ∷ [])
    ∷ [])

abbrev factorial_says : List Said
factorial_says = says 3 (act.Print (49 ∷ 50 ∷ 48 ∷ [])) ∷ says 0 act.End ∷ []

pub factorial_meant : by_operations factorial ([] ∷ []) ≡ factorial_says
unfolding digits
factorial_meant = refl

pub factorial_run : by_code plain factorial ([] ∷ []) ≡ factorial_says
unfolding performed digits
factorial_run = refl

-- ---- a call that goes too deep, in the line of the function that finds no room

abbrev deep : Ir
deep = program (
    function 1 0 16384 8 (on 2 (op.Invoke 1 0) ∷ on 3 (op.Leave 0) ∷ [])
    ∷ function 5 0 16384 8 (on 6 (op.Invoke 1 0) ∷ on 6 (op.Leave 0) ∷ [])
    ∷ [])

abbrev deep_says : List Said
deep_says = says 5 (act.Trap trap.Stack) ∷ []

pub deep_meant : by_operations deep [] ≡ deep_says
deep_meant = refl

pub deep_run : by_code plain deep [] ≡ deep_says
unfolding performed
deep_run = refl

-- ---- a division by 0

abbrev by_zero : Ir
by_zero = program (function 1 0 16 8 (
    on 2 (op.Constant 0 (2 ^ 32 - 7))
    ∷ on 2 (op.Constant 1 2)
    ∷ on 3 (op.Word arith.Div true 2 0 1)
    ∷ on 3 (op.PutDecimal true 2)
    ∷ on 4 (op.WordBy arith.Rem true 3 0 4)
    ∷ on 4 (op.PutDecimal true 3)
    ∷ on 5 op.Print
    ∷ on 6 (op.Constant 1 0)
    ∷ on 7 (op.Word arith.Rem false 2 0 1)
    ∷ on 8 (op.Leave 0)
    ∷ []) ∷ [])

abbrev by_zero_says : List Said
by_zero_says = says 5 (act.Print (45 ∷ 51 ∷ 45 ∷ 51 ∷ [])) ∷ says 7 (act.Trap trap.Divide) ∷ []

pub by_zero_meant : by_operations by_zero ([] ∷ []) ≡ by_zero_says
unfolding digits
by_zero_meant = refl

pub by_zero_run : by_code plain by_zero ([] ∷ []) ≡ by_zero_says
unfolding performed digits
by_zero_run = refl

-- ---- 64 bits

-- (2^32 + 3) * (2^32 + 5), its low 64 bits, then that minus 16, shifted right by 33, and a comparison
abbrev long : Ir
long = program (function 1 0 24 12 (
    on 2 (op.Constant 0 3)
    ∷ on 2 (op.Constant 1 1)
    ∷ on 2 (op.Constant 2 5)
    ∷ on 2 (op.Constant 3 1)
    ∷ on 3 (op.Long arith.Mul true 4 0 2)
    ∷ on 3 (op.PutLongDecimal false 4)
    ∷ on 3 op.Print
    ∷ on 4 (op.Constant 6 33)
    ∷ on 4 (op.Constant 7 0)
    ∷ on 4 (op.Long arith.Shr false 8 4 6)
    ∷ on 4 (op.PutLongHex 8)
    ∷ on 5 (op.Long arith.Sub true 8 6 4)
    ∷ on 5 (op.PutByte 32)
    ∷ on 5 (op.PutLongDecimal true 8)
    ∷ on 5 (op.Long arith.Le true 10 8 6)
    ∷ on 5 (op.PutDecimal true 10)
    ∷ on 5 (op.Long arith.Lt true 10 6 8)
    ∷ on 5 (op.PutDecimal true 10)
    ∷ on 5 (op.Long arith.Eq true 10 6 6)
    ∷ on 5 (op.PutDecimal true 10)
    ∷ on 5 op.Print
    ∷ on 6 (op.Leave 0)
    ∷ []) ∷ [])

pub long_runs : by_code plain long ([] ∷ [] ∷ []) ≡ by_operations long ([] ∷ [] ∷ [])
unfolding performed digits
long_runs = refl
