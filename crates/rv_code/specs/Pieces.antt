-- Pieces that templates of many operations have. Register 3 has the turns left, register 4 the private globals.
use Rattle.std.specs.Prelude.{ℕ, ◌+◌, ◌-◌, ◌*◌, ◌^◌, nat_le, nat_lt, if◌then◌else◌, pos, negsuc, List, [], ◌∷◌, ◌++◌}
use Rattle.al_base.specs.declared.trap.Trap.{Trap}
use Rattle.al_base.specs.Trap.{number_of}
use Rattle.rv_isa.specs.declared.addresses.TheConstants.{GLOBALS_START}
use Rattle.rv_isa.specs.declared.instr.Instr.{Instr}
use Rattle.rv_isa.specs.declared.instr.Instr.TheVariants.{Upper, Load, Store, Branch, Immediate, Register, Ecall}
use Rattle.rv_isa.specs.declared.instr.UpperOp.TheVariants.{Lui}
use Rattle.rv_isa.specs.declared.instr.LoadOp.TheVariants.{Lw}
use Rattle.rv_isa.specs.declared.instr.StoreOp.TheVariants.{Sw}
use Rattle.rv_isa.specs.declared.instr.BranchOp.TheVariants.{Bne}
use Rattle.rv_isa.specs.declared.instr.ImmediateOp.TheVariants.{Addi}
use Rattle.rv_isa.specs.declared.instr.RegisterOp.{RegisterOp}
use Rattle.rv_isa.specs.declared.instr.RegisterOp.TheVariants.{Add, Sub}
use Rattle.rv_code.specs.declared.home.Home.{Home}
use Rattle.rv_code.specs.Homes.{low_part, high_part, get_code, get_register, put_code, put_register, bring, leave}

-- a word into a register: one instruction where its upper bits are those of its sign in 12 bits
abbrev pub number_code : (rd n : ℕ) → List Instr
number_code rd n =
    if nat_lt n (2 ^ 11) then Immediate Addi rd 0 (pos n) ∷ []
    else (if nat_le (2 ^ 32 - 2 ^ 11) n then Immediate Addi rd 0 (negsuc (2 ^ 32 - 1 - n)) ∷ []
    else Upper Lui rd (high_part n) ∷ Immediate Addi rd rd (low_part n) ∷ [])

-- the runtime call of that number
abbrev pub call_code : (number : ℕ) → List Instr
call_code number = Immediate Addi 17 0 (pos number) ∷ Ecall ∷ []

abbrev pub trap_code : Trap → List Instr
trap_code trap = Immediate Addi 10 0 (pos (number_of trap)) ∷ call_code 3

-- a turn: one less is left, and at the last one a pause is asked
abbrev pub turn_code : List Instr
turn_code = Immediate Addi 3 3 (negsuc 0) ∷ Branch Bne 3 0 (pos 12) ∷ call_code 2

-- the frame goes up or down by so many words
abbrev pub up_code : ℕ → List Instr
up_code n = Upper Lui 5 (high_part (4 * n)) ∷ Immediate Addi 5 5 (low_part (4 * n)) ∷ Register Add 2 2 5 ∷ []

abbrev pub down_code : ℕ → List Instr
down_code n = Upper Lui 5 (high_part (4 * n)) ∷ Immediate Addi 5 5 (low_part (4 * n)) ∷ Register Sub 2 2 5 ∷ []

-- ---- words of the private globals

-- register 4 comes near to a far word, and goes back
abbrev pub by_globals : ℕ → Instr → List Instr
by_globals j i = Upper Lui 4 (high_part (GLOBALS_START + 4 * j)) ∷ i ∷ Upper Lui 4 (high_part GLOBALS_START) ∷ []

abbrev pub private_load : (rd j : ℕ) → List Instr
private_load rd j =
    if nat_lt j 512 then Load Lw rd 4 (pos (4 * j)) ∷ [] else by_globals j (Load Lw rd 4 (low_part (GLOBALS_START + 4 * j)))

abbrev pub private_store : (rs j : ℕ) → List Instr
private_store rs j =
    if nat_lt j 512 then Store Sw 4 rs (pos (4 * j)) ∷ [] else by_globals j (Store Sw 4 rs (low_part (GLOBALS_START + 4 * j)))

-- ---- templates of two operands

abbrev pub binary_code : RegisterOp → (to a b : Home) → List Instr
binary_code op to a b =
    get_code a 10 ++ (get_code b 11 ++ (Register op (put_register to 10) (get_register a 10) (get_register b 11) ∷ put_code to 10))

-- two pairs, a routine on registers 10 to 13, and the pair that it gives in 10 and 11
abbrev pub long_code : List Instr → (to to1 a a1 b b1 : Home) → List Instr
long_code routine to to1 a a1 b b1 =
    bring a 10 ++ (bring a1 11 ++ (bring b 12 ++ (bring b1 13 ++ (routine ++ (leave to 10 ++ leave to1 11)))))
