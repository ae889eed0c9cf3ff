-- The instructions that lines of assembly stand for. High and low parts of an address are those of %hi and %lo in the
-- RISC-V assembly programmer's manual.
use Rattle.std.specs.Prelude.{◌≡◌, ℕ, ◌+◌, ◌-◌, ◌*◌, ◌/◌, ◌%◌, ◌^◌, ◌==◌, Bool, false, if◌then◌else◌, ℤ, pos, ◌-ℤ◌, List, [], ◌∷◌, ◌++◌, Option, Some, None, unwrap_or, option_and_then}
use Rattle.std.specs.Option.{option_to_list}
use Rattle.rv_isa.specs.Fields.{signed}
use Rattle.rv_isa.specs.declared.instr.Instr.{Instr}
use Rattle.rv_isa.specs.declared.instr.Instr.TheVariants.{Upper, Jalr, Immediate, Branch as IsBranch, Jal as IsJal}
use Rattle.rv_isa.specs.declared.instr.UpperOp.TheVariants.{Lui}
use Rattle.rv_isa.specs.declared.instr.ImmediateOp.TheVariants.{Addi}
use Rattle.rv_isa.specs.declared.addresses.TheConstants.{CODE_START}
use Rattle.rv_asm.specs.declared.line.AsmLine.{AsmLine}
use Rattle.rv_asm.specs.declared.line.AsmLine.TheVariants.{Label, Plain, Branch, Jal, High, Low, JumpLow}

-- the words that a line makes
abbrev pub words_of : AsmLine → ℕ
words_of (Label l) = 0
words_of _ = 1

-- the label that stands at a line
abbrev pub is_label : ℕ → AsmLine → Bool
is_label label (Label l) = l == label
is_label label _ = false

-- the word at which a label stands first, of lines whose first word is number `here`
abbrev pub place_from : (here label : ℕ) → List AsmLine → Option ℕ
place_from here label [] = None
place_from here label (line ∷ lines) = if is_label label line then Some here else place_from (here + words_of line) label lines

-- the label that a line leads to
abbrev pub target_of : AsmLine → Option ℕ
target_of (Branch op rs1 rs2 label) = Some label
target_of (Jal rd label) = Some label
target_of (High rd label) = Some label
target_of (Low rd rs1 label) = Some label
target_of (JumpLow rd rs1 label) = Some label
target_of _ = None

-- the word that a line leads to; a label that stands nowhere is taken at word 0
abbrev pub target_place : List AsmLine → AsmLine → ℕ
target_place lines line = unwrap_or (option_and_then (λ label. place_from 0 label lines) (target_of line)) 0

-- from one word to another, in bytes
abbrev pub distance : (here there : ℕ) → ℤ
distance here there = pos (4 * there) -ℤ pos (4 * here)

abbrev pub address : (word : ℕ) → ℕ
address word = CODE_START + 4 * word

-- the high part is what the low part, which has a sign, leaves
abbrev pub low_part : ℕ → ℤ
low_part at = signed 12 (at % 2 ^ 12)

abbrev pub high_part : ℕ → ℕ
high_part at = (at + 2 ^ 11) / 2 ^ 12 % 2 ^ 20

-- the instruction of a line whose word is number `here`, and which leads to word `there`
abbrev pub line_instruction : (here there : ℕ) → AsmLine → Option Instr
line_instruction here there (Label l) = None
line_instruction here there (Plain instr) = Some instr
line_instruction here there (Branch op rs1 rs2 label) = Some (IsBranch op rs1 rs2 (distance here there))
line_instruction here there (Jal rd label) = Some (IsJal rd (distance here there))
line_instruction here there (High rd label) = Some (Upper Lui rd (high_part (address there)))
line_instruction here there (Low rd rs1 label) = Some (Immediate Addi rd rs1 (low_part (address there)))
line_instruction here there (JumpLow rd rs1 label) = Some (Jalr rd rs1 (low_part (address there)))

-- the instructions of lines of a text, the first of whose words is number `here`
abbrev pub instructions_from : (text : List AsmLine) (here : ℕ) → List AsmLine → List Instr
instructions_from text here [] = []
instructions_from text here (line ∷ lines) =
    option_to_list (line_instruction here (target_place text line) line) ++ instructions_from text (here + words_of line) lines

-- the instructions that a text stands for
abbrev pub instructions_of : List AsmLine → List Instr
instructions_of text = instructions_from text 0 text
