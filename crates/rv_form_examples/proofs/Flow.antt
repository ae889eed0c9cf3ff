-- Jumps, calls, pointers to functions and pauses.
use Rattle.std.proofs.Common.{◌≡◌, ◌+◌, ◌*◌, ◌^◌, true, false, List, [], ◌∷◌, ◌++◌, refl}
use Rattle.std.specs.Prelude.{replicate, nat_lt, if◌then◌else◌, nat_eq, ◌&&◌}
use Rattle.std.specs.Fmt.{digits}
use Rattle.al_base.specs.declared.arith.Op.TheVariants as arith
use Rattle.al_base.specs.declared.trap.Trap.TheVariants as trap
use Rattle.al_event.specs.declared.act.Act.TheVariants as act
use Rattle.al_world.specs.Turns.{ask_within}
use Rattle.al_ir.specs.declared.ir.Ir.{Ir}
use Rattle.al_ir.specs.declared.op.Op.TheVariants as op
use Rattle.al_ir.specs.Step.{private_step}
use Rattle.al_ir.specs.Meaning.{control_weight, start, main_start, fresh_privates}
use Rattle.rv_code.specs.declared.home.Home.TheVariants.{Frame, Saved}
use Rattle.rv_exec.specs.Hart.{with_register}
use Rattle.rv_exec.specs.Step.{performed}
use Rattle.rv_exec.specs.Machine.{ask, started}
use Rattle.rv_form.specs.Program.{Homes}
use Rattle.rv_form_examples.specs.Runs.{Said, by_operations, by_code, plain, image_of}
use Rattle.rv_form_examples.proofs.Programs.{on, function, program, says}

-- ---- jumps of each kind

abbrev jumps : Ir
jumps = program (function 1 0 24 12 (
    on 2 (op.Constant 0 0)
    ∷ on 2 (op.Constant 1 1)
    ∷ on 3 (op.SkipIfZero 0 1)
    ∷ on 3 (op.PutByte 65)
    ∷ on 4 (op.SkipIfZero 1 1)
    ∷ on 4 (op.PutByte 66)
    ∷ on 5 (op.SkipIfSet 0 1)
    ∷ on 5 (op.PutByte 67)
    ∷ on 6 (op.SkipIfSet 1 1)
    ∷ on 6 (op.PutByte 68)
    ∷ on 7 (op.Skip 1)
    ∷ on 7 (op.PutByte 69)
    ∷ on 8 (op.GoTo 14)
    ∷ on 8 (op.PutByte 70)
    ∷ on 9 (op.SkipUnless arith.Le true 0 1 1)
    ∷ on 9 (op.PutByte 71)
    ∷ on 9 (op.SkipUnless arith.Eq true 0 1 1)
    ∷ on 9 (op.PutByte 72)
    ∷ on 9 (op.SkipUnless arith.Ne true 0 1 1)
    ∷ on 9 (op.PutByte 73)
    ∷ on 9 (op.SkipUnless arith.Lt false 1 0 1)
    ∷ on 9 (op.PutByte 74)
    ∷ on 10 (op.Turn 24)
    ∷ on 10 (op.PutByte 75)
    ∷ on 10 op.Print
    ∷ on 11 (op.Leave 0)
    ∷ []) ∷ [])

abbrev jumps_say : List Said
jumps_say = says 10 (act.Print (66 ∷ 67 ∷ 71 ∷ 73 ∷ [])) ∷ says 0 act.End ∷ []

pub jumps_meant : by_operations jumps ([] ∷ []) ≡ jumps_say
jumps_meant = refl

pub jumps_run : by_code plain jumps ([] ∷ []) ≡ jumps_say
unfolding performed
jumps_run = refl

-- ---- the last turn pauses in its line: here at the second one

abbrev ever : Ir
ever = program (function 1 0 16 8 (on 2 (op.Constant 0 1) ∷ on 3 (op.Turn 2) ∷ on 4 (op.Back 2) ∷ []) ∷ [])

pub ever_pauses_in_operations : (ask_within (private_step ever) (control_weight ever) 2 act.Pause (start ever (main_start ever)) (fresh_privates ever)).line ≡ 4
ever_pauses_in_operations = refl

pub ever_pauses : (ask (image_of plain ever) (with_register 3 2 (started (image_of plain ever) 0 [])) (λ n. 0)).act ≡ act.Pause
unfolding performed
ever_pauses = refl

pub ever_pauses_there : (ask (image_of plain ever) (with_register 3 2 (started (image_of plain ever) 0 [])) (λ n. 0)).line ≡ 4
unfolding performed
ever_pauses_there = refl

-- ---- pointers to functions

abbrev pointers : Ir
pointers = record {
  functions =
      function 1 0 24 12 (
      on 2 (op.Constant 0 (2 ^ 27 + 4 * 5))
      ∷ on 2 (op.Constant 1 30)
      ∷ on 2 (op.Constant 2 4)
      ∷ on 2 (op.InvokePointer 0 0 1)
      ∷ on 2 (op.Result 3 0)
      ∷ on 2 (op.PutDecimal true 3)
      ∷ on 3 (op.Constant 0 (2 ^ 27 + 4 * 1))
      ∷ on 3 (op.InvokePointer 0 0 1)
      ∷ on 3 (op.Result 3 0)
      ∷ on 3 (op.PutDecimal true 3)
      ∷ on 3 op.Print
      ∷ on 4 (op.Constant 0 (2 ^ 27 + 4 * 2))
      ∷ on 5 (op.InvokePointer 0 0 1)
      ∷ on 6 (op.Leave 0)
      ∷ [])
      ∷ function 10 2 10 2 (on 11 (op.Word arith.Add true 0 0 1) ∷ on 11 (op.Leave 1) ∷ [])
      ∷ function 20 0 8 0 (on 21 (op.Leave 0) ∷ [])
      ∷ function 30 2 10 2 (on 31 (op.Word arith.Mul true 0 0 1) ∷ on 31 (op.Leave 1) ∷ [])
      ∷ function 40 0 8 0 (on 41 (op.Leave 0) ∷ [])
      ∷ function 50 2 10 2 (on 51 (op.Word arith.Sub true 0 0 1) ∷ on 51 (op.Leave 1) ∷ [])
      ∷ [];
  classes = (5 ∷ 1 ∷ 3 ∷ []) ∷ [];
  layouts = [];
  globals = [];
  privates = 0;
  main = 0;
}

abbrev pointers_say : List Said
pointers_say = says 3 (act.Print (50 ∷ 54 ∷ 51 ∷ 52 ∷ [])) ∷ says 5 (act.Trap trap.Call) ∷ []

pub pointers_meant : by_operations pointers ([] ∷ []) ≡ pointers_say
unfolding digits
pointers_meant = refl

pub pointers_run : by_code plain pointers ([] ∷ []) ≡ pointers_say
unfolding performed digits
pointers_run = refl

-- ---- a call in the place of the function at hand, with arguments, results and what a function computes in registers

-- the first three slots of the second function in registers
abbrev some_in_registers : Homes
some_in_registers f t = if nat_eq f 1 && nat_lt t 3 then Saved (20 + t) else Frame t

abbrev tail : Ir
tail = program (
    function 1 0 16 8 (
    on 2 (op.Constant 0 4)
    ∷ on 2 (op.Constant 1 1)
    ∷ on 2 (op.Invoke 1 0)
    ∷ on 2 (op.Result 2 0)
    ∷ on 3 (op.PutDecimal true 2)
    ∷ on 3 op.Print
    ∷ on 4 (op.Leave 0)
    ∷ [])
    ∷ function 5 2 20 8 (
    on 6 (op.SkipIfSet 0 2)
    ∷ on 6 (op.Copy 0 1)
    ∷ on 6 (op.Leave 1)
    ∷ on 7 (op.WordBy arith.Sub true 4 0 1)
    ∷ on 7 (op.Word arith.Mul true 5 0 1)
    ∷ on 7 (op.Become 1 4)
    ∷ [])
    ∷ [])

abbrev tail_says : List Said
tail_says = says 3 (act.Print (50 ∷ 52 ∷ [])) ∷ says 0 act.End ∷ []

pub tail_meant : by_operations tail ([] ∷ []) ≡ tail_says
unfolding digits
tail_meant = refl

pub tail_runs : by_code plain tail ([] ∷ []) ≡ tail_says
unfolding performed digits
tail_runs = refl

pub tail_runs_in_registers : by_code some_in_registers tail ([] ∷ []) ≡ tail_says
unfolding performed digits
tail_runs_in_registers = refl

-- ---- a function that no branch reaches across

abbrev wide : Ir
wide = program (function 1 0 16 8 (
    on 2 (op.Constant 0 0)
    ∷ on 2 (op.SkipIfZero 0 400)
    ∷ (replicate 400 (on 3 (op.PutByte 65))
    ++ (on 4 (op.SkipIfSet 0 2)
    ∷ on 4 (op.Constant 0 1)
    ∷ on 4 (op.Back 2)
    ∷ on 5 (op.PutByte 66)
    ∷ on 5 op.Print
    ∷ on 6 (op.Leave 0)
    ∷ []))) ∷ [])

abbrev wide_says : List Said
wide_says = says 5 (act.Print (66 ∷ [])) ∷ says 0 act.End ∷ []

pub wide_meant : by_operations wide ([] ∷ []) ≡ wide_says
wide_meant = refl

pub wide_runs : by_code plain wide ([] ∷ []) ≡ wide_says
unfolding performed
wide_runs = refl
