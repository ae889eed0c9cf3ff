-- What routines are made of.
use Rattle.std.specs.Prelude.{ℕ, zero, suc, List, [], ◌++◌, map}
use Rattle.rv_isa.specs.declared.instr.Instr.{Instr}
use Rattle.rv_isa.specs.declared.instr.Instr.TheVariants.{Register, Shift, Immediate}
use Rattle.rv_asm.specs.declared.line.AsmLine.{AsmLine}
use Rattle.rv_asm.specs.declared.line.AsmLine.TheVariants.{Plain}
use Rattle.rv_long.specs.declared.op.LongOp.{LongOp}
use Rattle.rv_long.specs.declared.op.LongOp.TheVariants.{Mul, Div, DivU, Rem, RemU, Sll, Srl, Sra}
use Rattle.rv_long.specs.declared.step.Step.{Step}
use Rattle.rv_long.specs.declared.step.Step.TheVariants.{Of, By, With}
use Rattle.rv_long.specs.declared.blocks.TheConstants.{MULTIPLY, POWER, SHIFT_RIGHT, SIGN, COMPLEMENT, ADD_SIGN, ABSOLUTE_RIGHT, SIGN_OF_QUOTIENT, CLEAR, DIVIDE, REMAINDER}

abbrev pub instr_of : Step → Instr
instr_of (Of op rd rs1 rs2) = Register op rd rs1 rs2
instr_of (By op rd rs1 amount) = Shift op rd rs1 amount
instr_of (With op rd rs1 imm) = Immediate op rd rs1 imm

abbrev pub line_of : Step → AsmLine
line_of step = Plain (instr_of step)

abbrev pub lines_of : List Step → List AsmLine
lines_of steps = map line_of steps

-- steps so many times over
unfoldable pub repeated : ℕ → List Step → List Step
repeated zero steps = []
repeated (suc n) steps = repeated n steps ++ steps

-- ---- the routines

-- each bit of the dividend
abbrev pub bits_of_division : List AsmLine
bits_of_division = lines_of (repeated 64 DIVIDE)

abbrev pub code_of : LongOp → List AsmLine
code_of Mul = lines_of MULTIPLY
code_of Sll = lines_of POWER ++ lines_of MULTIPLY
code_of Srl = lines_of SHIFT_RIGHT
code_of Sra = lines_of SIGN ++ lines_of COMPLEMENT ++ lines_of SHIFT_RIGHT ++ lines_of COMPLEMENT
code_of DivU = lines_of CLEAR ++ bits_of_division
code_of RemU = lines_of CLEAR ++ bits_of_division ++ lines_of REMAINDER
code_of Div = lines_of SIGN ++ lines_of COMPLEMENT ++ lines_of ADD_SIGN ++ lines_of ABSOLUTE_RIGHT ++ lines_of SIGN_OF_QUOTIENT ++ lines_of CLEAR ++ bits_of_division ++ lines_of COMPLEMENT ++ lines_of ADD_SIGN
code_of Rem = lines_of SIGN ++ lines_of COMPLEMENT ++ lines_of ADD_SIGN ++ lines_of ABSOLUTE_RIGHT ++ lines_of CLEAR ++ bits_of_division ++ lines_of REMAINDER ++ lines_of COMPLEMENT ++ lines_of ADD_SIGN
