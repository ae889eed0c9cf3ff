-- The instructions that zero slots, and that load, store and clear the units of a value.
use Rattle.std.specs.Prelude.{ℕ, zero, suc, ◌+◌, ◌*◌, ◌/◌, ◌%◌, ◌==◌, nat_le, nat_lt, if◌then◌else◌, pos, negsuc, List, [], ◌∷◌, ◌++◌}
use Rattle.al_ir.specs.declared.ir.Run.{Run}
use Rattle.rv_isa.specs.declared.instr.Instr.{Instr}
use Rattle.rv_isa.specs.declared.instr.Instr.TheVariants.{Upper, Load, Store, Branch, Immediate, Register}
use Rattle.rv_isa.specs.declared.instr.UpperOp.TheVariants.{Lui}
use Rattle.rv_isa.specs.declared.instr.BranchOp.TheVariants.{Bne}
use Rattle.rv_isa.specs.declared.instr.LoadOp.{LoadOp}
use Rattle.rv_isa.specs.declared.instr.LoadOp.TheVariants.{Lw, Lbu, Lhu}
use Rattle.rv_isa.specs.declared.instr.StoreOp.{StoreOp}
use Rattle.rv_isa.specs.declared.instr.StoreOp.TheVariants.{Sb, Sh, Sw}
use Rattle.rv_isa.specs.declared.instr.ImmediateOp.TheVariants.{Addi}
use Rattle.rv_isa.specs.declared.instr.RegisterOp.TheVariants.{Add}
use Rattle.rv_code.specs.declared.home.Home.{Home}
use Rattle.rv_code.specs.declared.home.Home.TheVariants.{Frame, Saved}
use Rattle.rv_code.specs.Homes.{low_part, high_part, frame_load, frame_store, get_code, get_register, put_code, put_register, bring}
use Rattle.rv_code.specs.Pieces.{number_code}
use Rattle.rv_form.specs.Words.{offset_instrs}

-- the address of a word of the frame
abbrev pub frame_address : (rd k : ℕ) → List Instr
frame_address rd k =
    if nat_lt k 512 then Immediate Addi rd 2 (pos (4 * k)) ∷ []
    else Upper Lui rd (high_part (4 * k)) ∷ Immediate Addi rd rd (low_part (4 * k)) ∷ Register Add rd rd 2 ∷ []

-- ---- accesses of a unit, in the shared region

abbrev pub load_op : (size : ℕ) → LoadOp
load_op size = if nat_lt size 2 then Lbu else (if nat_lt size 4 then Lhu else Lw)

abbrev pub store_op : (size : ℕ) → StoreOp
store_op size = if nat_lt size 2 then Sb else (if nat_lt size 4 then Sh else Sw)

-- so many bytes behind the address in register `a`: as an immediate, or in register `d`
abbrev pub reaching : (offset d a : ℕ) → List Instr
reaching offset d a = if high_part offset == 0 then [] else offset_instrs offset d a

abbrev pub load_code : (to at : Home) → (offset size : ℕ) → List Instr
load_code to at offset size = get_code at 10 ++ (loads (get_register at 10) ++ put_code to 10) where
  loads : ℕ → List Instr
  loads a =
      if high_part offset == 0 then Load (load_op size) (put_register to 10) a (low_part offset) ∷ []
      else offset_instrs offset 12 a ++ Load (load_op size) (put_register to 10) 12 (pos 0) ∷ []

abbrev pub store_code : (at : Home) → (offset size : ℕ) → (from : Home) → List Instr
store_code at offset size from = get_code at 10 ++ (get_code from 13 ++ stores (get_register at 10)) where
  stores : ℕ → List Instr
  stores a =
      if high_part offset == 0 then Store (store_op size) a (get_register from 13) (low_part offset) ∷ []
      else offset_instrs offset 12 a ++ Store (store_op size) 12 (get_register from 13) (pos 0) ∷ []

-- ---- words of 0

abbrev pub zero_word : Home → List Instr
zero_word (Frame k) = frame_store 0 k
zero_word (Saved r) = Immediate Addi r 0 (pos 0) ∷ []

abbrev pub zero_each : (home : ℕ → Home) → (from count : ℕ) → List Instr
zero_each home from zero = []
zero_each home from (suc n) = zero_word (home from) ++ zero_each home (from + 1) n

-- stores of 0 in so many words behind the address in register 8
abbrev pub zero_from : (offset count : ℕ) → List Instr
zero_from offset zero = []
zero_from offset (suc n) = Store Sw 8 0 (pos offset) ∷ zero_from (offset + 4) n

-- eight words in a round, of one or more rounds, and those that are left
abbrev pub zero_loop : (to count : ℕ) → List Instr
zero_loop to count =
    frame_address 8 to ++ (number_code 5 (32 * (count / 8)) ++ (Register Add 5 5 8
    ∷ (zero_from 0 8 ++ (Immediate Addi 8 8 (pos 32) ∷ Branch Bne 8 5 (negsuc 35) ∷ zero_from 0 (count % 8)))))

-- more than eight words live in the frame
abbrev pub zero_code : (home : ℕ → Home) → (to count : ℕ) → List Instr
zero_code home to count = if nat_le count 8 then zero_each home to count else zero_loop to count

-- ---- units of a value

-- what is done with the word of one unit: `size` its bytes, `a` the register with an address and `offset` bytes behind it, `k` the
-- word of the frame that has the unit's word
pub data Way : Type 0 where
  Loads : Way
  Stores : Way
  Clears : Way

abbrev pub unit_code : Way → (size a offset k : ℕ) → List Instr
unit_code Loads size a offset k = Load (load_op size) 11 a (pos offset) ∷ frame_store 11 k
unit_code Stores size a offset k = frame_load 11 k ++ Store (store_op size) a 11 (pos offset) ∷ []
unit_code Clears size a offset k = Store (store_op size) a 0 (pos offset) ∷ []

-- so many units of one size, one by one
abbrev pub units_code : Way → (size offset k count : ℕ) → List Instr
units_code way size offset k zero = []
units_code way size offset k (suc n) = unit_code way size 10 offset k ++ units_code way size (offset + size) (k + 1) n

-- the same in a loop: register 12 goes over the units, up to the address in register 13, and register 8 over words of the frame
abbrev pub round_code : Way → (size : ℕ) → List Instr
round_code Loads size =
    Load (load_op size) 11 12 (pos 0) ∷ Store Sw 8 11 (pos 0) ∷ Immediate Addi 12 12 (pos size) ∷ Immediate Addi 8 8 (pos 4)
    ∷ Branch Bne 12 13 (negsuc 15) ∷ []
round_code Stores size =
    Load Lw 11 8 (pos 0) ∷ Store (store_op size) 12 11 (pos 0) ∷ Immediate Addi 12 12 (pos size) ∷ Immediate Addi 8 8 (pos 4)
    ∷ Branch Bne 12 13 (negsuc 15) ∷ []
round_code Clears size =
    Store (store_op size) 12 0 (pos 0) ∷ Immediate Addi 12 12 (pos size) ∷ Branch Bne 12 13 (negsuc 7) ∷ []

abbrev pub loop_code : Way → Run → (k : ℕ) → List Instr
loop_code way r k =
    frame_address 8 k ++ (Immediate Addi 12 10 (pos r.at) ∷ Immediate Addi 13 10 (pos (r.at + r.count * r.size)) ∷ round_code way r.size)

-- up to four units of a size stand one by one
abbrev pub run_code : Way → Run → (k : ℕ) → List Instr
run_code way r k = if nat_le r.count 4 then units_code way r.size r.at k r.count else loop_code way r k

abbrev pub runs_code : Way → List Run → (k : ℕ) → List Instr
runs_code way [] k = []
runs_code way (r ∷ runs) k = run_code way r k ++ runs_code way runs (k + r.count)

-- all units of a value at an address, which comes into register 10; their words are those of the frame from slot `t` on
abbrev pub value_code : Way → (at : Home) → (offset : ℕ) → List Run → (t : ℕ) → List Instr
value_code way at offset runs t = bring at 10 ++ (offset_instrs offset 10 10 ++ runs_code way runs t)
