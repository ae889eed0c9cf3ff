-- The instructions that compose a text, and the last ones of a task.
use Rattle.std.specs.Prelude.{ℕ, ◌+◌, Bool, true, false, pos, List, [], ◌∷◌, ◌++◌, length}
use Rattle.rv_isa.specs.declared.instr.Instr.{Instr}
use Rattle.rv_isa.specs.declared.instr.Instr.TheVariants.{Jal, Load, Branch, Immediate}
use Rattle.rv_isa.specs.declared.instr.BranchOp.TheVariants.{Beq}
use Rattle.rv_isa.specs.declared.instr.LoadOp.TheVariants.{Lbu}
use Rattle.rv_isa.specs.declared.instr.ImmediateOp.TheVariants.{Addi}
use Rattle.rv_code.specs.declared.home.Home.{Home}
use Rattle.rv_code.specs.Homes.{get_code, get_register, put_code, put_register, bring}
use Rattle.rv_code.specs.Jumps.{distance}
use Rattle.rv_code.specs.Pieces.{call_code}
use Rattle.rv_form.specs.Words.{sign_word}

abbrev pub byte_code : (byte : ℕ) → List Instr
byte_code byte = Immediate Addi 10 0 (pos byte) ∷ call_code 16

abbrev pub character_code : (from : Home) → List Instr
character_code from = bring from 10 ++ call_code 16

abbrev pub flag : Bool → ℕ
flag true = 1
flag false = 0

-- a number of two words in registers 10 and 11, signed or not
abbrev pub decimal_call : (signed : Bool) → List Instr
decimal_call signed = Immediate Addi 12 0 (pos (flag signed)) ∷ call_code 17

abbrev pub decimal_code : (signed : Bool) → (from : Home) → List Instr
decimal_code signed from = bring from 10 ++ (sign_word signed ++ decimal_call signed)

abbrev pub long_decimal_code : (signed : Bool) → (from from1 : Home) → List Instr
long_decimal_code signed from from1 = bring from 10 ++ (bring from1 11 ++ decimal_call signed)

abbrev pub hexadecimal_code : (from : Home) → List Instr
hexadecimal_code from = bring from 10 ++ (Immediate Addi 11 0 (pos 0) ∷ call_code 18)

abbrev pub long_hexadecimal_code : (from from1 : Home) → List Instr
long_hexadecimal_code from from1 = bring from 10 ++ (bring from1 11 ++ call_code 18)

-- a byte is loaded; 0 ends the text, and all others are composed, each of them before the next one is loaded
abbrev pub text_code : (at : Home) → List Instr
text_code at = get_code at 11 ++ (Load Lbu 10 (get_register at 11) (pos 0) ∷ (Branch Beq 10 0 (distance 0 (4 + length next)) ∷ (call_code 16 ++ (next ++ Jal 0 (distance (length (get_code at 11) + 4 + length next) 0) ∷ [])))) where
  next : List Instr
  next = Immediate Addi (put_register at 11) (get_register at 11) (pos 1) ∷ put_code at 11

abbrev pub print_code : List Instr
print_code = call_code 14

abbrev pub terminate_code : (status : Home) → List Instr
terminate_code status = bring status 10 ++ call_code 15
