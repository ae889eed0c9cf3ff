-- What a routine computes: the wrapped value of its operation on 64 bits, by the definition of arithmetic that all parts
-- share, in a run of the machine.
use Rattle.std.specs.Prelude.{◌≡◌, ℕ, zero, suc, ◌+◌, ◌*◌, ◌/◌, ◌%◌, ◌^◌, ◌<◌, nat_le, Bool, false, ◌&&◌, ◌||◌, List, ◌++◌, length, map, Option, Some}
use Rattle.al_base.specs.Arith.{applied}
use Rattle.al_base.specs.declared.arith.Op.TheVariants as Op
use Rattle.al_base.specs.declared.arith.Kind.TheVariants.{Lint, Ulint}
use Rattle.rv_isa.specs.declared.addresses.TheConstants.{CODE_START}
use Rattle.rv_isa.specs.declared.image.Contents.{Contents}
use Rattle.rv_isa.specs.declared.instr.Instr.TheVariants.{Register, Shift, Immediate}
use Rattle.rv_isa.specs.Table.{instruction_of}
use Rattle.rv_asm.specs.Asm.{instructions_of}
use Rattle.rv_asm.specs.declared.line.AsmLine.{AsmLine}
use Rattle.rv_asm.specs.declared.line.AsmLine.TheVariants.{Plain}
use Rattle.rv_exec.specs.Hart.{Hart}
use Rattle.rv_exec.specs.Calls.{Privates, Move, Goes, Asks}
use Rattle.rv_exec.specs.Step.{step}
use Rattle.rv_long.specs.declared.op.LongOp.{LongOp}
use Rattle.rv_long.specs.declared.op.LongOp.TheVariants.{Mul, Div, DivU, Rem, RemU, Sll, Srl, Sra}

-- what an operation gives on the bits of two numbers; nothing where it divides by 0
abbrev pub result_of : LongOp → ℕ → ℕ → Option ℕ
result_of Mul a b = applied Op.Mul Lint a b
result_of Div a b = applied Op.Div Lint a b
result_of DivU a b = applied Op.Div Ulint a b
result_of Rem a b = applied Op.Rem Lint a b
result_of RemU a b = applied Op.Rem Ulint a b
result_of Sll a b = applied Op.Shl Lint a b
result_of Srl a b = applied Op.Shr Ulint a b
result_of Sra a b = applied Op.Shr Lint a b

-- the number of two words, low word first
abbrev pub two_words : ℕ → ℕ → ℕ
two_words low high = low + high * 2 ^ 32

-- the registers that a routine may change
abbrev pub may_change : ℕ → Bool
may_change n = (nat_le 5 n && nat_le n 7) || ((nat_le 10 n && nat_le n 17) || (nat_le 28 n && nat_le n 31))

-- so many instructions of the machine; an ask ends them
abbrev pub steps : Contents → ℕ → Hart → Privates → Move
steps image zero h p = Goes h p
steps image (suc n) h p = elim (step image h p) [ Goes next q ↦ steps image n next q | Asks act waiting q ↦ Asks act waiting q ]

-- the operands are words
pub record HasOperands (registers : ℕ → ℕ) : Type 0 where
  pub left_low : registers 10 < 2 ^ 32
  pub left_high : registers 11 < 2 ^ 32
  pub right_low : registers 12 < 2 ^ 32
  pub right_high : registers 13 < 2 ^ 32

-- after `count` instructions, each of which fetched a word, the hart is `count` words on, with a value of 64 bits in
-- registers 10 and 11; stack, text, private globals and all registers that may not change are as they were
pub record Ends (image : Contents) (count value : ℕ) (h : Hart) (p : Privates) : Type 0 where
  pub registers : ℕ → ℕ
  pub goes : steps image count h p ≡ Goes (record h { pc = h.pc + 4 * count; registers = registers; work = h.work + count }) p
  pub low : registers 10 ≡ value % 2 ^ 32
  pub high : registers 11 ≡ value / 2 ^ 32
  pub kept : (n : ℕ) → may_change n ≡ false → registers n ≡ h.registers n

-- wherever code has words that are the instructions of these lines, a hart at the first of them that has the operands
-- computes the result
pub record Computes (op : LongOp) (lines : List AsmLine) : Type 0 where
  pub runs : (image : Contents) (before words rest : List ℕ) (h : Hart) (p : Privates) (value : ℕ) → image.code ≡ before ++ (words ++ rest) → map instruction_of words ≡ map Some (instructions_of lines) → h.pc ≡ CODE_START + 4 * length before → HasOperands h.registers → result_of op (two_words (h.registers 10) (h.registers 11)) (two_words (h.registers 12) (h.registers 13)) ≡ Some value → Ends image (length words) value h p

-- an instruction on registers alone
abbrev pub IsArithmetic : AsmLine → Type 0
IsArithmetic (Plain (Register op rd rs1 rs2)) = Unit {0}
IsArithmetic (Plain (Shift op rd rs1 amount)) = Unit {0}
IsArithmetic (Plain (Immediate op rd rs1 imm)) = Unit {0}
IsArithmetic _ = ⊥
