-- The instructions of operations on words of 64 bits. The left one is brought into registers 10 and 11, the low word first, and the
-- right one into 12 and 13; a result of two words comes into 10 and 11, and one of one word into 10.
use Rattle.std.specs.Prelude.{ℕ, Bool, true, false, pos, List, [], ◌∷◌, ◌++◌, Option, Some, None}
use Rattle.al_base.specs.declared.arith.Op.{Op as Arith}
use Rattle.al_base.specs.declared.arith.Op.TheVariants as arith
use Rattle.al_base.specs.declared.trap.Trap.TheVariants as trap
use Rattle.rv_isa.specs.declared.instr.Instr.{Instr}
use Rattle.rv_isa.specs.declared.instr.Instr.TheVariants.{Jalr, Branch, Immediate, Register}
use Rattle.rv_isa.specs.declared.instr.BranchOp.TheVariants.{Bne}
use Rattle.rv_isa.specs.declared.instr.ImmediateOp.TheVariants.{Sltiu, Xori}
use Rattle.rv_isa.specs.declared.instr.RegisterOp.{RegisterOp}
use Rattle.rv_isa.specs.declared.instr.RegisterOp.TheVariants.{Add, Sub, Sltu, Xor, Or, And}
use Rattle.rv_asm.specs.Asm.{instructions_of}
use Rattle.rv_long.specs.Code.{code_of}
use Rattle.rv_long.specs.declared.op.LongOp.{LongOp}
use Rattle.rv_long.specs.declared.op.LongOp.TheVariants.{Mul, Div, DivU, Rem, RemU, Sll, Srl, Sra}
use Rattle.rv_code.specs.declared.home.Home.{Home}
use Rattle.rv_code.specs.Homes.{get_code, get_register, put_code, put_register, bring, leave}
use Rattle.rv_code.specs.Jumps.{link_code}
use Rattle.rv_code.specs.Pieces.{trap_code}
use Rattle.rv_form.specs.Words.{less}

-- ---- divisions, whose routines stand once in the code and are called

-- the division that an operation is, if it is one
abbrev pub division_of : Arith → (signed : Bool) → Option LongOp
division_of arith.Div true = Some Div
division_of arith.Div false = Some DivU
division_of arith.Rem true = Some Rem
division_of arith.Rem false = Some RemU
division_of _ signed = None

-- the instructions of an operation that runs straight on
abbrev pub straight : LongOp → List Instr
straight op = instructions_of (code_of op)

-- a routine returns by register 1
abbrev pub routine_code : LongOp → List Instr
routine_code op = straight op ++ Jalr 0 1 (pos 0) ∷ []

-- a division by 0 traps
abbrev pub divide_instrs : (routine : ℕ) → List Instr
divide_instrs routine = Register Or 5 12 13 ∷ Branch Bne 5 0 (pos 16) ∷ (trap_code trap.Divide ++ link_code routine)

-- ---- what is computed in line

abbrev pub both : RegisterOp → List Instr
both op = Register op 10 10 12 ∷ Register op 11 11 13 ∷ []

abbrev pub shift_right : Bool → LongOp
shift_right true = Sra
shift_right false = Srl

-- 1 where the pair in registers `a` and `a1` is below that in `b` and `b1`
abbrev pub below_instrs : (signed : Bool) → (a a1 b b1 : ℕ) → List Instr
below_instrs signed a a1 b b1 =
    Register (less signed) 5 a1 b1 ∷ Register Xor 6 a1 b1 ∷ Immediate Sltiu 6 6 (pos 1) ∷ Register Sltu 7 a b
    ∷ Register And 7 7 6 ∷ Register Or 10 5 7 ∷ []

-- the bits in which two pairs differ, in register 10
abbrev pub difference : List Instr
difference = Register Xor 10 10 12 ∷ Register Xor 11 11 13 ∷ Register Or 10 10 11 ∷ []

abbrev pub long_instrs : Arith → (signed : Bool) → List Instr
long_instrs arith.Add signed = Register Add 10 10 12 ∷ Register Sltu 5 10 12 ∷ Register Add 11 11 13 ∷ Register Add 11 11 5 ∷ []
long_instrs arith.Sub signed = Register Sltu 5 10 12 ∷ Register Sub 10 10 12 ∷ Register Sub 11 11 13 ∷ Register Sub 11 11 5 ∷ []
long_instrs arith.Mul signed = straight Mul
long_instrs arith.And signed = both And
long_instrs arith.Or signed = both Or
long_instrs arith.Xor signed = both Xor
long_instrs arith.Shl signed = straight Sll
long_instrs arith.Shr signed = straight (shift_right signed)
long_instrs arith.Lt signed = below_instrs signed 10 11 12 13
long_instrs arith.Le signed = below_instrs signed 12 13 10 11 ++ Immediate Xori 10 10 (pos 1) ∷ []
long_instrs arith.Eq signed = difference ++ Immediate Sltiu 10 10 (pos 1) ∷ []
long_instrs arith.Ne signed = difference ++ Register Sltu 10 0 10 ∷ []
long_instrs _ signed = []

abbrev pub computed_or_called : (routine : LongOp → ℕ) → Option LongOp → Arith → (signed : Bool) → List Instr
computed_or_called routine (Some division) op signed = divide_instrs (routine division)
computed_or_called routine None op signed = long_instrs op signed

abbrev pub leave_result : Arith → (to to1 : Home) → List Instr
leave_result arith.Lt to to1 = leave to 10
leave_result arith.Le to to1 = leave to 10
leave_result arith.Eq to to1 = leave to 10
leave_result arith.Ne to to1 = leave to 10
leave_result _ to to1 = leave to 10 ++ leave to1 11

abbrev pub long_op_code : (routine : LongOp → ℕ) → Arith → (signed : Bool) → (to to1 a a1 b b1 : Home) → List Instr
long_op_code routine op signed to to1 a a1 b b1 =
    bring a 10 ++ (bring a1 11 ++ (bring b 12 ++ (bring b1 13
    ++ (computed_or_called routine (division_of op signed) op signed ++ leave_result op to to1))))

abbrev pub is_long_set_code : (to from from1 : Home) → List Instr
is_long_set_code to from from1 =
    get_code from 10 ++ (get_code from1 11
    ++ (Register Or 10 (get_register from 10) (get_register from1 11) ∷ Register Sltu (put_register to 10) 0 10 ∷ put_code to 10))
