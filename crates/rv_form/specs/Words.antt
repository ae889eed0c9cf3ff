-- The instructions of operations on words of 32 bits.
use Rattle.std.specs.Prelude.{ℕ, ◌-◌, ◌*◌, ◌/◌, ◌%◌, ◌^◌, ◌==◌, nat_le, nat_lt, if◌then◌else◌, Bool, true, false, pos, negsuc, List, [], ◌∷◌, ◌++◌, Option, Some, None}
use Rattle.al_base.specs.Arith.{width_of, is_signed}
use Rattle.al_base.specs.declared.arith.Op.{Op as Arith}
use Rattle.al_base.specs.declared.arith.Op.TheVariants as arith
use Rattle.al_base.specs.declared.arith.Kind.{Kind}
use Rattle.al_base.specs.declared.arith.Kind.TheVariants as kind
use Rattle.al_base.specs.declared.trap.Trap.TheVariants as trap
use Rattle.rv_isa.specs.declared.instr.Instr.{Instr}
use Rattle.rv_isa.specs.declared.instr.Instr.TheVariants.{Branch, Immediate, Shift, Register}
use Rattle.rv_isa.specs.declared.instr.BranchOp.TheVariants.{Bne}
use Rattle.rv_isa.specs.declared.instr.ImmediateOp.TheVariants.{Addi, Slti, Sltiu, Xori, Ori, Andi}
use Rattle.rv_isa.specs.declared.instr.ShiftOp.TheVariants.{Slli, Srli, Srai}
use Rattle.rv_isa.specs.declared.instr.RegisterOp.{RegisterOp}
use Rattle.rv_isa.specs.declared.instr.RegisterOp.TheVariants.{Add, Sub, Sll, Slt, Sltu, Xor, Srl, Sra, Or, And, Mul, Div, Divu, Rem, Remu}
use Rattle.rv_code.specs.declared.home.Home.{Home}
use Rattle.rv_code.specs.declared.home.Home.TheVariants.{Frame, Saved}
use Rattle.rv_code.specs.Homes.{low_part, high_part, frame_store, get_code, get_register, put_code, put_register, bring, leave}
use Rattle.rv_code.specs.Pieces.{number_code, trap_code}

-- ---- moves

abbrev pub constant_code : (to : Home) → (word : ℕ) → List Instr
constant_code to word = number_code (put_register to 10) word ++ put_code to 10

abbrev pub copy_code : (to from : Home) → List Instr
copy_code (Frame k) from = get_code from 10 ++ frame_store (get_register from 10) k
copy_code (Saved r) from = bring from r

-- what is computed from one word, in register `a`, into register `d`
abbrev pub unary_code : (to from : Home) → ((d a : ℕ) → List Instr) → List Instr
unary_code to from compute = get_code from 10 ++ (compute (put_register to 10) (get_register from 10) ++ put_code to 10)

-- ---- two operands

abbrev pub less : Bool → RegisterOp
less true = Slt
less false = Sltu

abbrev pub divided : Bool → RegisterOp
divided true = Div
divided false = Divu

abbrev pub remaining : Bool → RegisterOp
remaining true = Rem
remaining false = Remu

abbrev pub shifted_right : Bool → RegisterOp
shifted_right true = Sra
shifted_right false = Srl

-- on registers `a` and `b`, into `d`, which may be one of them
abbrev pub word_instrs : Arith → (signed : Bool) → (d a b : ℕ) → List Instr
word_instrs arith.Add signed d a b = Register Add d a b ∷ []
word_instrs arith.Sub signed d a b = Register Sub d a b ∷ []
word_instrs arith.Mul signed d a b = Register Mul d a b ∷ []
word_instrs arith.Div signed d a b = Register (divided signed) d a b ∷ []
word_instrs arith.Rem signed d a b = Register (remaining signed) d a b ∷ []
word_instrs arith.And signed d a b = Register And d a b ∷ []
word_instrs arith.Or signed d a b = Register Or d a b ∷ []
word_instrs arith.Xor signed d a b = Register Xor d a b ∷ []
word_instrs arith.Shl signed d a b = Register Sll d a b ∷ []
word_instrs arith.Shr signed d a b = Register (shifted_right signed) d a b ∷ []
word_instrs arith.Lt signed d a b = Register (less signed) d a b ∷ []
word_instrs arith.Le signed d a b = Register (less signed) d b a ∷ Immediate Xori d d (pos 1) ∷ []
word_instrs arith.Eq signed d a b = Register Sub d a b ∷ Immediate Sltiu d d (pos 1) ∷ []
word_instrs arith.Ne signed d a b = Register Sub d a b ∷ Register Sltu d 0 d ∷ []

-- a division by the word in register `b` traps where that is 0
abbrev pub divisor_test : (b : ℕ) → List Instr
divisor_test b = Branch Bne b 0 (pos 16) ∷ trap_code trap.Divide

abbrev pub tested : Arith → (b : ℕ) → List Instr
tested arith.Div b = divisor_test b
tested arith.Rem b = divisor_test b
tested _ b = []

abbrev pub word_code : Arith → (signed : Bool) → (to left right : Home) → List Instr
word_code op signed to left right =
    get_code left 10 ++ (get_code right 11
    ++ (tested op (get_register right 11)
    ++ (word_instrs op signed (put_register to 10) (get_register left 10) (get_register right 11) ++ put_code to 10)))

-- ---- a constant of 12 bits on the right

abbrev pub shift_right_by : Bool → (d a amount : ℕ) → Instr
shift_right_by true d a amount = Shift Srai d a amount
shift_right_by false d a amount = Shift Srli d a amount

abbrev pub less_by : Bool → (d a word : ℕ) → Instr
less_by true d a word = Immediate Slti d a (low_part word)
less_by false d a word = Immediate Sltiu d a (low_part word)

-- as an immediate, where there is an instruction for it; -2,048 has no negative of 12 bits
abbrev pub immediate_instrs : Arith → (signed : Bool) → (d a word : ℕ) → Option (List Instr)
immediate_instrs arith.Add signed d a word = Some (Immediate Addi d a (low_part word) ∷ [])
immediate_instrs arith.Sub signed d a word = if word == 2 ^ 32 - 2 ^ 11 then None else Some (Immediate Addi d a (low_part (2 ^ 32 - word)) ∷ [])
immediate_instrs arith.And signed d a word = Some (Immediate Andi d a (low_part word) ∷ [])
immediate_instrs arith.Or signed d a word = Some (Immediate Ori d a (low_part word) ∷ [])
immediate_instrs arith.Xor signed d a word = Some (Immediate Xori d a (low_part word) ∷ [])
immediate_instrs arith.Shl signed d a word = Some (Shift Slli d a (word % 32) ∷ [])
immediate_instrs arith.Shr signed d a word = Some (shift_right_by signed d a (word % 32) ∷ [])
immediate_instrs arith.Lt signed d a word = Some (less_by signed d a word ∷ [])
immediate_instrs arith.Eq signed d a word = Some (Immediate Xori d a (low_part word) ∷ Immediate Sltiu d d (pos 1) ∷ [])
immediate_instrs arith.Ne signed d a word = Some (Immediate Xori d a (low_part word) ∷ Register Sltu d 0 d ∷ [])
immediate_instrs _ signed d a word = None

abbrev pub by_instrs : Option (List Instr) → Arith → (signed : Bool) → (d a word : ℕ) → List Instr
by_instrs (Some instrs) op signed d a word = instrs
by_instrs None op signed d a word = number_code 11 word ++ word_instrs op signed d a 11

-- the constant is not 0 where it divides
abbrev pub word_by_code : Arith → (signed : Bool) → (to left : Home) → (word : ℕ) → List Instr
word_by_code op signed to left word =
    unary_code to left (λ d a. by_instrs (immediate_instrs op signed d a word) op signed d a word)

-- ---- one operand

abbrev pub complement_code : (to from : Home) → List Instr
complement_code to from = unary_code to from (λ d a. Immediate Xori d a (negsuc 0) ∷ [])

abbrev pub is_zero_code : (to from : Home) → List Instr
is_zero_code to from = unary_code to from (λ d a. Immediate Sltiu d a (pos 1) ∷ [])

-- the low bytes of a word, of which a size of 4 or more keeps all
abbrev pub low_bytes : (size d a : ℕ) → List Instr
low_bytes size d a =
    if nat_lt size 2 then Immediate Andi d a (pos 255) ∷ []
    else (if nat_lt size 4 then Shift Slli d a 16 ∷ Shift Srli d d 16 ∷ [] else Immediate Addi d a (pos 0) ∷ [])

abbrev pub extract_instrs : (skip size d a : ℕ) → List Instr
extract_instrs skip size d a = Shift Srli d a (8 * skip) ∷ (if nat_lt size 4 then low_bytes size d d else [])

abbrev pub extract_code : (to from : Home) → (skip size : ℕ) → List Instr
extract_code to from skip size = unary_code to from (extract_instrs skip size)

-- ---- addresses

-- a constant more, by register 11 where it has more than 12 bits
abbrev pub offset_instrs : (bytes d a : ℕ) → List Instr
offset_instrs bytes d a =
    if high_part bytes == 0 then Immediate Addi d a (low_part bytes) ∷ [] else number_code 11 bytes ++ Register Add d a 11 ∷ []

abbrev pub offset_code : (to from : Home) → (bytes : ℕ) → List Instr
offset_code to from bytes = unary_code to from (offset_instrs bytes)

-- the bytes of so many elements, from register `a` into `d`; register 12 is used
abbrev pub scaled : (size d a : ℕ) → List Instr
scaled size d a =
    if size == 1 then Immediate Addi d a (pos 0) ∷ []
    else (if size == 2 then Shift Slli d a 1 ∷ []
    else (if size == 4 then Shift Slli d a 2 ∷ []
    else number_code 12 size ++ Register Mul d a 12 ∷ []))

abbrev pub moved_by : Bool → RegisterOp
moved_by true = Sub
moved_by false = Add

abbrev pub advance_code : (back : Bool) → (size : ℕ) → (to pointer count : Home) → List Instr
advance_code back size to pointer count =
    get_code pointer 10 ++ (get_code count 11
    ++ (scaled size 11 (get_register count 11)
    ++ (Register (moved_by back) (put_register to 10) (get_register pointer 10) 11 ∷ put_code to 10)))

abbrev pub between_code : (size : ℕ) → (to left right : Home) → List Instr
between_code size to left right =
    get_code left 10 ++ (get_code right 11
    ++ (Register Sub 10 (get_register left 10) (get_register right 11)
    ∷ (number_code 11 size ++ (Register Div (put_register to 10) 10 11 ∷ put_code to 10))))

-- ---- conversions

-- the word of an integer of a kind whose upper bits are those of its sign, or 0
abbrev pub extended : Kind → (d a : ℕ) → List Instr
extended kind.Byte d a = low_bytes 1 d a
extended kind.Sint d a = Shift Slli d a 16 ∷ Shift Srai d d 16 ∷ []
extended kind.Usint d a = low_bytes 2 d a
extended _ d a = Immediate Addi d a (pos 0) ∷ []

-- the low word: what is narrower is extended, and else it is cut off
abbrev pub low_word : (from into : Kind) → (d a : ℕ) → List Instr
low_word from into d a = if nat_le (width_of into) (width_of from) then low_bytes (width_of into / 8) d a else extended from d a

-- the high word, of a low word in register 10 that is extended
abbrev pub sign_word : (signed : Bool) → List Instr
sign_word true = Shift Srai 11 10 31 ∷ []
sign_word false = Immediate Addi 11 0 (pos 0) ∷ []

-- the high word of a pair that is converted to a pair stays
abbrev pub high_word : (from : Kind) → (of1 : Home) → List Instr
high_word from of1 = if width_of from == 64 then bring of1 11 else sign_word (is_signed from)

abbrev pub convert_code : (from into : Kind) → (to to1 of of1 : Home) → List Instr
convert_code from into to to1 of of1 =
    if width_of into == 64
    then bring of 10 ++ (low_word from into 10 10 ++ (high_word from of1 ++ (leave to 10 ++ leave to1 11)))
    else unary_code to of (low_word from into)
