-- Divisions of 64 bits, whose routines stand once in the code.
use Rattle.std.proofs.Common.{◌≡◌, false, List, [], ◌∷◌, refl}
use Rattle.std.specs.Fmt.{digits}
use Rattle.al_base.specs.declared.arith.Op.TheVariants as arith
use Rattle.al_base.specs.declared.trap.Trap.TheVariants as trap
use Rattle.al_event.specs.declared.act.Act.TheVariants as act
use Rattle.al_ir.specs.declared.ir.Ir.{Ir}
use Rattle.al_ir.specs.declared.op.Op.TheVariants as op
use Rattle.rv_long.specs.Code.{repeated}
use Rattle.rv_exec.specs.Step.{performed}
use Rattle.rv_form_examples.specs.Runs.{Said, by_operations, by_code, plain}
use Rattle.rv_form_examples.proofs.Programs.{on, function, program, says}

-- (2^32 + 5) % 7, and then by 0
abbrev remainder : Ir
remainder = program (function 1 0 24 12 (
    on 2 (op.Constant 0 5)
    ∷ on 2 (op.Constant 1 1)
    ∷ on 2 (op.Constant 2 7)
    ∷ on 2 (op.Constant 3 0)
    ∷ on 3 (op.Long arith.Rem false 4 0 2)
    ∷ on 3 (op.PutLongDecimal false 4)
    ∷ on 3 op.Print
    ∷ on 4 (op.Constant 2 0)
    ∷ on 4 (op.Long arith.Rem false 4 0 2)
    ∷ on 5 (op.Leave 0)
    ∷ []) ∷ [])

abbrev remainder_says : List Said
remainder_says = says 3 (act.Print (50 ∷ [])) ∷ says 4 (act.Trap trap.Divide) ∷ []

pub remainder_meant : by_operations remainder ([] ∷ []) ≡ remainder_says
unfolding digits
remainder_meant = refl

pub remainder_runs : by_code plain remainder ([] ∷ []) ≡ remainder_says
unfolding performed digits repeated
remainder_runs = refl
