-- What `encode` puts together is in the table, and nothing else is.
use Rattle.std.proofs.Common.{◌≡◌, ℕ, ◌+◌, ◌*◌, ◌/◌, ◌%◌, ◌^◌, ◌<◌, ◌==◌, Bool, true, false, if◌then◌else◌, ◌&&◌, List, [], ◌∷◌, Some, ℤ, refl, lit<, ◌∙◌, ap, subst, arith}
use Rattle.std.specs.List.{AllByRecursion}
use Rattle.std.proofs.lemmas.Bool.{eqb-true, and_parts}
use Rattle.std.proofs.lemmas.Option.{same_Some}
use Rattle.rv_isa.specs.Fields.{bits, opcode, rd, funct3, rs1, rs2, funct7, i_imm, s_imm, b_imm, u_imm, j_imm}
use Rattle.rv_isa.specs.Table.{Row, has, read_by, table, instruction_of, InRange, IsSigned, IsDistance, r_row, i_row, s_row, b_row, u_row, j_row, only_word}
use Rattle.rv_isa.specs.Parts.{HasParts, Names, pattern, r_parts, i_parts, s_parts, b_parts, u_parts, j_parts}
use Rattle.rv_isa.proofs.Immediates.{signed_at, pattern-signed, signed-pattern, pattern-even, i_read, s_read, b_read, u_read, j_read}
use Rattle.rv_isa.specs.declared.encoder.Parts.{Parts}
use Rattle.rv_isa.specs.declared.instr.Instr.{Instr}
use Rattle.rv_isa.specs.declared.instr.Instr.TheVariants.{Upper, Jal, Jalr, Branch, Load, Store, Immediate, Shift, Register, Fence, Ecall, Ebreak}
use Rattle.rv_isa.specs.declared.instr.UpperOp.TheVariants.{Lui, Auipc}
use Rattle.rv_isa.specs.declared.instr.BranchOp.TheVariants.{Beq, Bne, Blt, Bge, Bltu, Bgeu}
use Rattle.rv_isa.specs.declared.instr.LoadOp.TheVariants.{Lb, Lh, Lw, Lbu, Lhu}
use Rattle.rv_isa.specs.declared.instr.StoreOp.TheVariants.{Sb, Sh, Sw}
use Rattle.rv_isa.specs.declared.instr.ImmediateOp.TheVariants.{Addi, Slti, Sltiu, Xori, Ori, Andi}
use Rattle.rv_isa.specs.declared.instr.ShiftOp.TheVariants.{Slli, Srli, Srai}
use Rattle.rv_isa.specs.declared.instr.RegisterOp.TheVariants.{Add, Sub, Sll, Slt, Sltu, Xor, Srl, Sra, Or, And, Mul, Mulh, Mulhsu, Mulhu, Div, Divu, Rem, Remu}

-- the parts of an instruction's word
abbrev pub parts_of : Instr → Parts
parts_of (Upper Lui d imm) = u_parts 0x37 d imm
parts_of (Upper Auipc d imm) = u_parts 0x17 d imm
parts_of (Jal d imm) = j_parts 0x6f d (pattern 2097152 imm)
parts_of (Jalr d a imm) = i_parts 0x67 0 d a (pattern 4096 imm)
parts_of (Branch Beq a b imm) = b_parts 0x63 0 a b (pattern 8192 imm)
parts_of (Branch Bne a b imm) = b_parts 0x63 1 a b (pattern 8192 imm)
parts_of (Branch Blt a b imm) = b_parts 0x63 4 a b (pattern 8192 imm)
parts_of (Branch Bge a b imm) = b_parts 0x63 5 a b (pattern 8192 imm)
parts_of (Branch Bltu a b imm) = b_parts 0x63 6 a b (pattern 8192 imm)
parts_of (Branch Bgeu a b imm) = b_parts 0x63 7 a b (pattern 8192 imm)
parts_of (Load Lb d a imm) = i_parts 0x03 0 d a (pattern 4096 imm)
parts_of (Load Lh d a imm) = i_parts 0x03 1 d a (pattern 4096 imm)
parts_of (Load Lw d a imm) = i_parts 0x03 2 d a (pattern 4096 imm)
parts_of (Load Lbu d a imm) = i_parts 0x03 4 d a (pattern 4096 imm)
parts_of (Load Lhu d a imm) = i_parts 0x03 5 d a (pattern 4096 imm)
parts_of (Store Sb a b imm) = s_parts 0x23 0 a b (pattern 4096 imm)
parts_of (Store Sh a b imm) = s_parts 0x23 1 a b (pattern 4096 imm)
parts_of (Store Sw a b imm) = s_parts 0x23 2 a b (pattern 4096 imm)
parts_of (Immediate Addi d a imm) = i_parts 0x13 0 d a (pattern 4096 imm)
parts_of (Immediate Slti d a imm) = i_parts 0x13 2 d a (pattern 4096 imm)
parts_of (Immediate Sltiu d a imm) = i_parts 0x13 3 d a (pattern 4096 imm)
parts_of (Immediate Xori d a imm) = i_parts 0x13 4 d a (pattern 4096 imm)
parts_of (Immediate Ori d a imm) = i_parts 0x13 6 d a (pattern 4096 imm)
parts_of (Immediate Andi d a imm) = i_parts 0x13 7 d a (pattern 4096 imm)
parts_of (Shift Slli d a b) = r_parts 0x13 1 0x00 d a b
parts_of (Shift Srli d a b) = r_parts 0x13 5 0x00 d a b
parts_of (Shift Srai d a b) = r_parts 0x13 5 0x20 d a b
parts_of (Register Add d a b) = r_parts 0x33 0 0x00 d a b
parts_of (Register Sub d a b) = r_parts 0x33 0 0x20 d a b
parts_of (Register Sll d a b) = r_parts 0x33 1 0x00 d a b
parts_of (Register Slt d a b) = r_parts 0x33 2 0x00 d a b
parts_of (Register Sltu d a b) = r_parts 0x33 3 0x00 d a b
parts_of (Register Xor d a b) = r_parts 0x33 4 0x00 d a b
parts_of (Register Srl d a b) = r_parts 0x33 5 0x00 d a b
parts_of (Register Sra d a b) = r_parts 0x33 5 0x20 d a b
parts_of (Register Or d a b) = r_parts 0x33 6 0x00 d a b
parts_of (Register And d a b) = r_parts 0x33 7 0x00 d a b
parts_of (Register Mul d a b) = r_parts 0x33 0 0x01 d a b
parts_of (Register Mulh d a b) = r_parts 0x33 1 0x01 d a b
parts_of (Register Mulhsu d a b) = r_parts 0x33 2 0x01 d a b
parts_of (Register Mulhu d a b) = r_parts 0x33 3 0x01 d a b
parts_of (Register Div d a b) = r_parts 0x33 4 0x01 d a b
parts_of (Register Divu d a b) = r_parts 0x33 5 0x01 d a b
parts_of (Register Rem d a b) = r_parts 0x33 6 0x01 d a b
parts_of (Register Remu d a b) = r_parts 0x33 7 0x01 d a b
parts_of (Fence d a imm) = i_parts 0x0f 0 d a (pattern 4096 imm)
parts_of Ecall = r_parts 0x73 0 0 0 0 0
parts_of Ebreak = r_parts 0x73 0 0 0 0 1

-- a word of the row has the parts of its instruction
abbrev RowKept : Row → Type 0
RowKept row = (word : ℕ) → word < 2 ^ 32 → has row word ≡ true → HasParts word (parts_of (row.instruction word))

fixed_1 : (a x : ℕ) → ((a == x) && true) ≡ true → a ≡ x
fixed_1 a x h = eqb-true a x (and_parts _ _ h).0

fixed_2 : (a x b y : ℕ) → ((a == x) && ((b == y) && true)) ≡ true → (a ≡ x) × (b ≡ y)
fixed_2 a x b y h = let both = and_parts _ _ h in (eqb-true a x both.0, fixed_1 b y both.1)

fixed_3 : (a x b y c z : ℕ) → ((a == x) && ((b == y) && ((c == z) && true))) ≡ true → (a ≡ x) × (b ≡ y) × (c ≡ z)
fixed_3 a x b y c z h =
    let both = and_parts _ _ h in
    let rest = fixed_2 b y c z both.1 in
    (eqb-true a x both.0, rest.0, rest.1)

r_kept : (o f g : ℕ) (make : ℕ → ℕ → ℕ → Instr) → ((d a b : ℕ) → parts_of (make d a b) ≡ r_parts o f g d a b) → RowKept (r_row o f g make)
r_kept o f g make parts word fits h =
    let fixed = fixed_3 (opcode word) o (funct3 word) f (funct7 word) g h in
    rw parts (record { opcode = fixed.0; rd = refl; funct3 = fixed.1; rs1 = refl; rs2 = refl; funct7 = fixed.2 })

i_kept : (o f : ℕ) (make : ℕ → ℕ → ℤ → Instr) → ((d a : ℕ) (imm : ℤ) → parts_of (make d a imm) ≡ i_parts o f d a (pattern 4096 imm)) → RowKept (i_row o f make)
i_kept o f make parts word fits h =
    let fixed = fixed_2 (opcode word) o (funct3 word) f h in
    let imm : pattern 4096 (i_imm word) ≡ bits 31 20 word = pattern-signed 2048 _ (omega arith) in
    rw (parts, imm) (record { opcode = fixed.0; rd = refl; funct3 = fixed.1; rs1 = refl; rs2 = omega arith; funct7 = omega arith })

s_kept : (o f : ℕ) (make : ℕ → ℕ → ℤ → Instr) → ((a b : ℕ) (imm : ℤ) → parts_of (make a b imm) ≡ s_parts o f a b (pattern 4096 imm)) → RowKept (s_row o f make)
s_kept o f make parts word fits h =
    let fixed = fixed_2 (opcode word) o (funct3 word) f h in
    let imm : pattern 4096 (s_imm word) ≡ bits 31 25 word * 2 ^ 5 + bits 11 7 word = pattern-signed 2048 _ (omega arith) in
    rw (parts, imm) (record { opcode = fixed.0; rd = omega arith; funct3 = fixed.1; rs1 = refl; rs2 = refl; funct7 = omega arith })

b_kept : (o f : ℕ) (make : ℕ → ℕ → ℤ → Instr) → ((a b : ℕ) (imm : ℤ) → parts_of (make a b imm) ≡ b_parts o f a b (pattern 8192 imm)) → RowKept (b_row o f make)
b_kept o f make parts word fits h =
    let fixed = fixed_2 (opcode word) o (funct3 word) f h in
    let imm : pattern 8192 (b_imm word) ≡ bits 31 31 word * 2 ^ 12 + bits 7 7 word * 2 ^ 11 + bits 30 25 word * 2 ^ 5 + bits 11 8 word * 2 = pattern-signed 4096 _ (omega arith) in
    rw (parts, imm) (record { opcode = fixed.0; rd = omega arith; funct3 = fixed.1; rs1 = refl; rs2 = refl; funct7 = omega arith })

u_kept : (o : ℕ) (make : ℕ → ℕ → Instr) → ((d imm : ℕ) → parts_of (make d imm) ≡ u_parts o d imm) → RowKept (u_row o make)
u_kept o make parts word fits h =
    rw parts (record { opcode = fixed_1 (opcode word) o h; rd = refl; funct3 = omega arith; rs1 = omega arith; rs2 = omega arith; funct7 = omega arith })

j_kept : (o : ℕ) (make : ℕ → ℤ → Instr) → ((d : ℕ) (imm : ℤ) → parts_of (make d imm) ≡ j_parts o d (pattern 2097152 imm)) → RowKept (j_row o make)
j_kept o make parts word fits h =
    let imm : pattern 2097152 (j_imm word) ≡ bits 31 31 word * 2 ^ 20 + bits 19 12 word * 2 ^ 12 + bits 20 20 word * 2 ^ 11 + bits 30 21 word * 2 = pattern-signed 1048576 _ (omega arith) in
    rw (parts, imm) (record { opcode = fixed_1 (opcode word) o h; rd = refl; funct3 = omega arith; rs1 = omega arith; rs2 = omega arith; funct7 = omega arith })

ecall_kept : RowKept (only_word 0x00000073 Ecall)
ecall_kept word fits h =
    let all : bits 31 0 word ≡ 0x00000073 = fixed_1 _ _ h in
    record { opcode = omega arith; rd = omega arith; funct3 = omega arith; rs1 = omega arith; rs2 = omega arith; funct7 = omega arith }

ebreak_kept : RowKept (only_word 0x00100073 Ebreak)
ebreak_kept word fits h =
    let all : bits 31 0 word ≡ 0x00100073 = fixed_1 _ _ h in
    record { opcode = omega arith; rd = omega arith; funct3 = omega arith; rs1 = omega arith; rs2 = omega arith; funct7 = omega arith }

all_kept : AllByRecursion RowKept table
all_kept = (
  u_kept 0x37 (Upper Lui) (λ d imm. refl),
  (
    u_kept 0x17 (Upper Auipc) (λ d imm. refl),
    (
      j_kept 0x6f Jal (λ d imm. refl),
      (
        i_kept 0x67 0 Jalr (λ d a imm. refl),
        (
          b_kept 0x63 0 (Branch Beq) (λ a b imm. refl),
          (
            b_kept 0x63 1 (Branch Bne) (λ a b imm. refl),
            (
              b_kept 0x63 4 (Branch Blt) (λ a b imm. refl),
              (
                b_kept 0x63 5 (Branch Bge) (λ a b imm. refl),
                (
                  b_kept 0x63 6 (Branch Bltu) (λ a b imm. refl),
                  (
                    b_kept 0x63 7 (Branch Bgeu) (λ a b imm. refl),
                    (
                      i_kept 0x03 0 (Load Lb) (λ d a imm. refl),
                      (
                        i_kept 0x03 1 (Load Lh) (λ d a imm. refl),
                        (
                          i_kept 0x03 2 (Load Lw) (λ d a imm. refl),
                          (
                            i_kept 0x03 4 (Load Lbu) (λ d a imm. refl),
                            (
                              i_kept 0x03 5 (Load Lhu) (λ d a imm. refl),
                              (
                                s_kept 0x23 0 (Store Sb) (λ a b imm. refl),
                                (
                                  s_kept 0x23 1 (Store Sh) (λ a b imm. refl),
                                  (
                                    s_kept 0x23 2 (Store Sw) (λ a b imm. refl),
                                    (
                                      i_kept 0x13 0 (Immediate Addi) (λ d a imm. refl),
                                      (
                                        i_kept 0x13 2 (Immediate Slti) (λ d a imm. refl),
                                        (
                                          i_kept 0x13 3 (Immediate Sltiu) (λ d a imm. refl),
                                          (
                                            i_kept 0x13 4 (Immediate Xori) (λ d a imm. refl),
                                            (
                                              i_kept 0x13 6 (Immediate Ori) (λ d a imm. refl),
                                              (
                                                i_kept 0x13 7 (Immediate Andi) (λ d a imm. refl),
                                                (
                                                  r_kept 0x13 1 0x00 (Shift Slli) (λ d a b. refl),
                                                  (
                                                    r_kept 0x13 5 0x00 (Shift Srli) (λ d a b. refl),
                                                    (
                                                      r_kept 0x13 5 0x20 (Shift Srai) (λ d a b. refl),
                                                      (
                                                        r_kept 0x33 0 0x00 (Register Add) (λ d a b. refl),
                                                        (
                                                          r_kept 0x33 0 0x20 (Register Sub) (λ d a b. refl),
                                                          (
                                                            r_kept 0x33 1 0x00 (Register Sll) (λ d a b. refl),
                                                            (
                                                              r_kept 0x33 2 0x00 (Register Slt) (λ d a b. refl),
                                                              (
                                                                r_kept 0x33 3 0x00 (Register Sltu) (λ d a b. refl),
                                                                (
                                                                  r_kept 0x33 4 0x00 (Register Xor) (λ d a b. refl),
                                                                  (
                                                                    r_kept 0x33 5 0x00 (Register Srl) (λ d a b. refl),
                                                                    (
                                                                      r_kept 0x33 5 0x20 (Register Sra) (λ d a b. refl),
                                                                      (
                                                                        r_kept 0x33 6 0x00 (Register Or) (λ d a b. refl),
                                                                        (
                                                                          r_kept 0x33 7 0x00 (Register And) (λ d a b. refl),
                                                                          (
                                                                            r_kept 0x33 0 0x01 (Register Mul) (λ d a b. refl),
                                                                            (
                                                                              r_kept 0x33 1 0x01 (Register Mulh) (λ d a b. refl),
                                                                              (
                                                                                r_kept 0x33 2 0x01 (Register Mulhsu) (λ d a b. refl),
                                                                                (
                                                                                  r_kept 0x33 3 0x01 (Register Mulhu) (λ d a b. refl),
                                                                                  (
                                                                                    r_kept 0x33 4 0x01 (Register Div) (λ d a b. refl),
                                                                                    (
                                                                                      r_kept 0x33 5 0x01 (Register Divu) (λ d a b. refl),
                                                                                      (
                                                                                        r_kept 0x33 6 0x01 (Register Rem) (λ d a b. refl),
                                                                                        (
                                                                                          r_kept 0x33 7 0x01 (Register Remu) (λ d a b. refl),
                                                                                          (
                                                                                            i_kept 0x0f 0 Fence (λ d a imm. refl),
                                                                                            (
                                                                                              ecall_kept,
                                                                                              (ebreak_kept, tt),
                                                                                            ),
                                                                                          ),
                                                                                        ),
                                                                                      ),
                                                                                    ),
                                                                                  ),
                                                                                ),
                                                                              ),
                                                                            ),
                                                                          ),
                                                                        ),
                                                                      ),
                                                                    ),
                                                                  ),
                                                                ),
                                                              ),
                                                            ),
                                                          ),
                                                        ),
                                                      ),
                                                    ),
                                                  ),
                                                ),
                                              ),
                                            ),
                                          ),
                                        ),
                                      ),
                                    ),
                                  ),
                                ),
                              ),
                            ),
                          ),
                        ),
                      ),
                    ),
                  ),
                ),
              ),
            ),
          ),
        ),
      ),
    ),
  ),
)

read_kept : (rows : List Row) → AllByRecursion RowKept rows → (word : ℕ) (i : Instr) → word < 2 ^ 32 → read_by rows word ≡ Some i → HasParts word (parts_of i)
read_kept [] kept word i fits e = absurd (cc)
read_kept (row ∷ rows) kept word i fits e = on (has row word) refl (read_kept rows kept.1 word i fits) e where
  on : (b : Bool) → has row word ≡ b → (read_by rows word ≡ Some i → HasParts word (parts_of i))
      → (if b then Some (row.instruction word) else read_by rows word) ≡ Some i → HasParts word (parts_of i)
  on true h rest e = subst (λ j. HasParts word (parts_of j)) (same_Some _ _ e) (kept.0 word fits h)
  on false h rest e = rest e

-- only words with its parts are an instruction
pub only : (i : Instr) (word : ℕ) → word < 2 ^ 32 → instruction_of word ≡ Some i → HasParts word (parts_of i)
only i word fits e = read_kept table all_kept word i fits e

-- each word with its parts is the instruction

r_is : (o f g : ℕ) (make : ℕ → ℕ → ℕ → Instr)
    → ((word : ℕ) → opcode word ≡ o → funct3 word ≡ f → funct7 word ≡ g → instruction_of word ≡ Some (make (rd word) (rs1 word) (rs2 word)))
    → (d a b word : ℕ) → HasParts word (r_parts o f g d a b) → instruction_of word ≡ Some (make d a b)
r_is o f g make row d a b word h =
    let same : make (rd word) (rs1 word) (rs2 word) ≡ make d a b = cc (h.rd, h.rs1, h.rs2) in
    row word h.opcode h.funct3 h.funct7 ∙ ap Some same

i_is : (o f : ℕ) (make : ℕ → ℕ → ℤ → Instr)
    → ((word : ℕ) → opcode word ≡ o → funct3 word ≡ f → instruction_of word ≡ Some (make (rd word) (rs1 word) (i_imm word)))
    → (d a : ℕ) (imm : ℤ) → IsSigned 12 imm → (word : ℕ) → HasParts word (i_parts o f d a (pattern 4096 imm)) → instruction_of word ≡ Some (make d a imm)
i_is o f make row d a imm fits word h =
    let read : i_imm word ≡ imm = ap (signed_at 2048) (i_read word (pattern 4096 imm) h.rs2 h.funct7) ∙ signed-pattern 2048 imm (omega arith) fits.0 fits.1 in
    let same : make (rd word) (rs1 word) (i_imm word) ≡ make d a imm = cc (h.rd, h.rs1, read) in
    row word h.opcode h.funct3 ∙ ap Some same

s_is : (o f : ℕ) (make : ℕ → ℕ → ℤ → Instr)
    → ((word : ℕ) → opcode word ≡ o → funct3 word ≡ f → instruction_of word ≡ Some (make (rs1 word) (rs2 word) (s_imm word)))
    → (a b : ℕ) (imm : ℤ) → IsSigned 12 imm → (word : ℕ) → HasParts word (s_parts o f a b (pattern 4096 imm)) → instruction_of word ≡ Some (make a b imm)
s_is o f make row a b imm fits word h =
    let read : s_imm word ≡ imm = ap (signed_at 2048) (s_read word (pattern 4096 imm) h.rd h.funct7) ∙ signed-pattern 2048 imm (omega arith) fits.0 fits.1 in
    let same : make (rs1 word) (rs2 word) (s_imm word) ≡ make a b imm = cc (h.rs1, h.rs2, read) in
    row word h.opcode h.funct3 ∙ ap Some same

b_is : (o f : ℕ) (make : ℕ → ℕ → ℤ → Instr)
    → ((word : ℕ) → opcode word ≡ o → funct3 word ≡ f → instruction_of word ≡ Some (make (rs1 word) (rs2 word) (b_imm word)))
    → (a b : ℕ) (imm : ℤ) → IsDistance 13 imm → (word : ℕ) → HasParts word (b_parts o f a b (pattern 8192 imm)) → instruction_of word ≡ Some (make a b imm)
b_is o f make row a b imm fits word h =
    let even = pattern-even 4096 imm (omega arith) fits.0.0 fits.1 in
    let read : b_imm word ≡ imm = ap (signed_at 4096) (b_read word (pattern 8192 imm) even h.rd h.funct7) ∙ signed-pattern 4096 imm (omega arith) fits.0.0 fits.0.1 in
    let same : make (rs1 word) (rs2 word) (b_imm word) ≡ make a b imm = cc (h.rs1, h.rs2, read) in
    row word h.opcode h.funct3 ∙ ap Some same

u_is : (o : ℕ) (make : ℕ → ℕ → Instr)
    → ((word : ℕ) → opcode word ≡ o → instruction_of word ≡ Some (make (rd word) (u_imm word)))
    → (d imm word : ℕ) → HasParts word (u_parts o d imm) → instruction_of word ≡ Some (make d imm)
u_is o make row d imm word h =
    let read : u_imm word ≡ imm = u_read word imm h.funct3 h.rs1 h.rs2 h.funct7 in
    let same : make (rd word) (u_imm word) ≡ make d imm = cc (h.rd, read) in
    row word h.opcode ∙ ap Some same

j_is : (o : ℕ) (make : ℕ → ℤ → Instr)
    → ((word : ℕ) → opcode word ≡ o → instruction_of word ≡ Some (make (rd word) (j_imm word)))
    → (d : ℕ) (imm : ℤ) → IsDistance 21 imm → (word : ℕ) → HasParts word (j_parts o d (pattern 2097152 imm)) → instruction_of word ≡ Some (make d imm)
j_is o make row d imm fits word h =
    let even = pattern-even 1048576 imm (omega arith) fits.0.0 fits.1 in
    let read : j_imm word ≡ imm = ap (signed_at 1048576) (j_read word (pattern 2097152 imm) even h.funct3 h.rs1 h.rs2 h.funct7) ∙ signed-pattern 1048576 imm (omega arith) fits.0.0 fits.0.1 in
    let same : make (rd word) (j_imm word) ≡ make d imm = cc (h.rd, read) in
    row word h.opcode ∙ ap Some same

only_is : (value : ℕ) (word : ℕ) → value < 2 ^ 32 → word < 2 ^ 32 → opcode word ≡ value % 128 → rd word ≡ value / 128 % 32 → funct3 word ≡ value / 4096 % 8 → rs1 word ≡ value / 32768 % 32 → rs2 word ≡ value / 1048576 % 32 → funct7 word ≡ value / 33554432 → word ≡ value
only_is value word small fits a b c d e f = omega arith

is : (i : Instr) → InRange i → (word : ℕ) → word < 2 ^ 32 → HasParts word (parts_of i) → instruction_of word ≡ Some i
is (Upper Lui d imm) r word fits h = u_is 0x37 (Upper Lui) (λ word o. rw o refl) d imm word h
is (Upper Auipc d imm) r word fits h = u_is 0x17 (Upper Auipc) (λ word o. rw o refl) d imm word h
is (Jal d imm) r word fits h = j_is 0x6f Jal (λ word o. rw o refl) d imm r.1 word h
is (Jalr d a imm) r word fits h = i_is 0x67 0 Jalr (λ word o f. rw (o, f) refl) d a imm r.2 word h
is (Branch Beq a b imm) r word fits h = b_is 0x63 0 (Branch Beq) (λ word o f. rw (o, f) refl) a b imm r.2 word h
is (Branch Bne a b imm) r word fits h = b_is 0x63 1 (Branch Bne) (λ word o f. rw (o, f) refl) a b imm r.2 word h
is (Branch Blt a b imm) r word fits h = b_is 0x63 4 (Branch Blt) (λ word o f. rw (o, f) refl) a b imm r.2 word h
is (Branch Bge a b imm) r word fits h = b_is 0x63 5 (Branch Bge) (λ word o f. rw (o, f) refl) a b imm r.2 word h
is (Branch Bltu a b imm) r word fits h = b_is 0x63 6 (Branch Bltu) (λ word o f. rw (o, f) refl) a b imm r.2 word h
is (Branch Bgeu a b imm) r word fits h = b_is 0x63 7 (Branch Bgeu) (λ word o f. rw (o, f) refl) a b imm r.2 word h
is (Load Lb d a imm) r word fits h = i_is 0x03 0 (Load Lb) (λ word o f. rw (o, f) refl) d a imm r.2 word h
is (Load Lh d a imm) r word fits h = i_is 0x03 1 (Load Lh) (λ word o f. rw (o, f) refl) d a imm r.2 word h
is (Load Lw d a imm) r word fits h = i_is 0x03 2 (Load Lw) (λ word o f. rw (o, f) refl) d a imm r.2 word h
is (Load Lbu d a imm) r word fits h = i_is 0x03 4 (Load Lbu) (λ word o f. rw (o, f) refl) d a imm r.2 word h
is (Load Lhu d a imm) r word fits h = i_is 0x03 5 (Load Lhu) (λ word o f. rw (o, f) refl) d a imm r.2 word h
is (Store Sb a b imm) r word fits h = s_is 0x23 0 (Store Sb) (λ word o f. rw (o, f) refl) a b imm r.2 word h
is (Store Sh a b imm) r word fits h = s_is 0x23 1 (Store Sh) (λ word o f. rw (o, f) refl) a b imm r.2 word h
is (Store Sw a b imm) r word fits h = s_is 0x23 2 (Store Sw) (λ word o f. rw (o, f) refl) a b imm r.2 word h
is (Immediate Addi d a imm) r word fits h = i_is 0x13 0 (Immediate Addi) (λ word o f. rw (o, f) refl) d a imm r.2 word h
is (Immediate Slti d a imm) r word fits h = i_is 0x13 2 (Immediate Slti) (λ word o f. rw (o, f) refl) d a imm r.2 word h
is (Immediate Sltiu d a imm) r word fits h = i_is 0x13 3 (Immediate Sltiu) (λ word o f. rw (o, f) refl) d a imm r.2 word h
is (Immediate Xori d a imm) r word fits h = i_is 0x13 4 (Immediate Xori) (λ word o f. rw (o, f) refl) d a imm r.2 word h
is (Immediate Ori d a imm) r word fits h = i_is 0x13 6 (Immediate Ori) (λ word o f. rw (o, f) refl) d a imm r.2 word h
is (Immediate Andi d a imm) r word fits h = i_is 0x13 7 (Immediate Andi) (λ word o f. rw (o, f) refl) d a imm r.2 word h
is (Shift Slli d a b) r word fits h = r_is 0x13 1 0x00 (Shift Slli) (λ word o f g. rw (o, f, g) refl) d a b word h
is (Shift Srli d a b) r word fits h = r_is 0x13 5 0x00 (Shift Srli) (λ word o f g. rw (o, f, g) refl) d a b word h
is (Shift Srai d a b) r word fits h = r_is 0x13 5 0x20 (Shift Srai) (λ word o f g. rw (o, f, g) refl) d a b word h
is (Register Add d a b) r word fits h = r_is 0x33 0 0x00 (Register Add) (λ word o f g. rw (o, f, g) refl) d a b word h
is (Register Sub d a b) r word fits h = r_is 0x33 0 0x20 (Register Sub) (λ word o f g. rw (o, f, g) refl) d a b word h
is (Register Sll d a b) r word fits h = r_is 0x33 1 0x00 (Register Sll) (λ word o f g. rw (o, f, g) refl) d a b word h
is (Register Slt d a b) r word fits h = r_is 0x33 2 0x00 (Register Slt) (λ word o f g. rw (o, f, g) refl) d a b word h
is (Register Sltu d a b) r word fits h = r_is 0x33 3 0x00 (Register Sltu) (λ word o f g. rw (o, f, g) refl) d a b word h
is (Register Xor d a b) r word fits h = r_is 0x33 4 0x00 (Register Xor) (λ word o f g. rw (o, f, g) refl) d a b word h
is (Register Srl d a b) r word fits h = r_is 0x33 5 0x00 (Register Srl) (λ word o f g. rw (o, f, g) refl) d a b word h
is (Register Sra d a b) r word fits h = r_is 0x33 5 0x20 (Register Sra) (λ word o f g. rw (o, f, g) refl) d a b word h
is (Register Or d a b) r word fits h = r_is 0x33 6 0x00 (Register Or) (λ word o f g. rw (o, f, g) refl) d a b word h
is (Register And d a b) r word fits h = r_is 0x33 7 0x00 (Register And) (λ word o f g. rw (o, f, g) refl) d a b word h
is (Register Mul d a b) r word fits h = r_is 0x33 0 0x01 (Register Mul) (λ word o f g. rw (o, f, g) refl) d a b word h
is (Register Mulh d a b) r word fits h = r_is 0x33 1 0x01 (Register Mulh) (λ word o f g. rw (o, f, g) refl) d a b word h
is (Register Mulhsu d a b) r word fits h = r_is 0x33 2 0x01 (Register Mulhsu) (λ word o f g. rw (o, f, g) refl) d a b word h
is (Register Mulhu d a b) r word fits h = r_is 0x33 3 0x01 (Register Mulhu) (λ word o f g. rw (o, f, g) refl) d a b word h
is (Register Div d a b) r word fits h = r_is 0x33 4 0x01 (Register Div) (λ word o f g. rw (o, f, g) refl) d a b word h
is (Register Divu d a b) r word fits h = r_is 0x33 5 0x01 (Register Divu) (λ word o f g. rw (o, f, g) refl) d a b word h
is (Register Rem d a b) r word fits h = r_is 0x33 6 0x01 (Register Rem) (λ word o f g. rw (o, f, g) refl) d a b word h
is (Register Remu d a b) r word fits h = r_is 0x33 7 0x01 (Register Remu) (λ word o f g. rw (o, f, g) refl) d a b word h
is (Fence d a imm) r word fits h = i_is 0x0f 0 Fence (λ word o f. rw (o, f) refl) d a imm r.2 word h
is Ecall r word fits h = rw (only_is 0x00000073 word (lit< tt) fits h.opcode h.rd h.funct3 h.rs1 h.rs2 h.funct7) refl
is Ebreak r word fits h = rw (only_is 0x00100073 word (lit< tt) fits h.opcode h.rd h.funct3 h.rs1 h.rs2 h.funct7) refl

-- the parts of an instruction's word name it
pub named : (i : Instr) → InRange i → (parts : Parts) → parts ≡ parts_of i → Names parts i
named i range parts e = rw e (record { is = is i range; only = only i })
