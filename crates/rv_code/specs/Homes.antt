-- Where the words of slots live, and the instructions that read and write them. Register 2 has the frame; registers 18 to 27
-- are for slots; a template computes in registers 5 to 8 and 10 to 17. These uses are this project's choice.
use Rattle.std.specs.Prelude.{◌≢◌, ℕ, ◌+◌, ◌*◌, ◌/◌, ◌%◌, ◌^◌, ◌<◌, ◌≤◌, nat_lt, if◌then◌else◌, ℤ, pos, List, [], ◌∷◌}
use Rattle.rv_isa.specs.Fields.{signed}
use Rattle.rv_isa.specs.declared.instr.Instr.{Instr}
use Rattle.rv_isa.specs.declared.instr.Instr.TheVariants.{Upper, Load, Store, Register, Immediate}
use Rattle.rv_isa.specs.declared.instr.UpperOp.TheVariants.{Lui}
use Rattle.rv_isa.specs.declared.instr.LoadOp.TheVariants.{Lw}
use Rattle.rv_isa.specs.declared.instr.StoreOp.TheVariants.{Sw}
use Rattle.rv_isa.specs.declared.instr.RegisterOp.TheVariants.{Add}
use Rattle.rv_isa.specs.declared.instr.ImmediateOp.TheVariants.{Addi}
use Rattle.rv_code.specs.declared.home.Home.{Home}
use Rattle.rv_code.specs.declared.home.Home.TheVariants.{Frame, Saved}

-- the word that lives there, in a frame that begins at word `sp` of the stack
abbrev pub value_at : Home → (sp : ℕ) → (registers stack : ℕ → ℕ) → ℕ
value_at (Frame k) sp registers stack = stack (sp + k)
value_at (Saved r) sp registers stack = registers r

-- the stack has 2^20 words
abbrev pub IsHome : (sp : ℕ) → Home → Type 0
IsHome sp (Frame k) = sp + k < 2 ^ 20
IsHome sp (Saved r) = (18 ≤ r) × (r < 28)

abbrev pub Apart : Home → Home → Type 0
Apart (Frame k) (Frame j) = k ≢ j
Apart (Saved r) (Saved s) = r ≢ s
Apart _ _ = Unit {0}

-- ---- numbers in two parts

-- LUI takes the upper 20 bits, rounded so that a signed immediate makes the rest
abbrev pub low_part : ℕ → ℤ
low_part n = signed 12 (n % 2 ^ 12)

abbrev pub high_part : ℕ → ℕ
high_part n = (n + 2 ^ 11) / 2 ^ 12 % 2 ^ 20

-- ---- words of the frame

-- an immediate reaches the first 512 words of the frame from register 2; for others register 8 comes near
abbrev pub coming_near : ℕ → Instr → List Instr
coming_near k i = Upper Lui 8 (high_part (4 * k)) ∷ Register Add 8 8 2 ∷ i ∷ []

abbrev pub frame_load : (rd k : ℕ) → List Instr
frame_load rd k =
    if nat_lt k 512 then Load Lw rd 2 (pos (4 * k)) ∷ [] else coming_near k (Load Lw rd 8 (low_part (4 * k)))

abbrev pub frame_store : (rs k : ℕ) → List Instr
frame_store rs k =
    if nat_lt k 512 then Store Sw 2 rs (pos (4 * k)) ∷ [] else coming_near k (Store Sw 8 rs (low_part (4 * k)))

-- ---- operands

-- reading a slot: the instructions, and the register that has its word then
abbrev pub get_code : Home → (scratch : ℕ) → List Instr
get_code (Frame k) scratch = frame_load scratch k
get_code (Saved r) scratch = []

abbrev pub get_register : Home → (scratch : ℕ) → ℕ
get_register (Frame k) scratch = scratch
get_register (Saved r) scratch = r

-- writing a slot: the register to compute into, and the instructions after that
abbrev pub put_register : Home → (scratch : ℕ) → ℕ
put_register (Frame k) scratch = scratch
put_register (Saved r) scratch = r

abbrev pub put_code : Home → (scratch : ℕ) → List Instr
put_code (Frame k) scratch = frame_store scratch k
put_code (Saved r) scratch = []

-- a slot's word in the very register that a call or a routine wants, and out of it
abbrev pub bring : Home → (rd : ℕ) → List Instr
bring (Frame k) rd = frame_load rd k
bring (Saved r) rd = Immediate Addi rd r (pos 0) ∷ []

abbrev pub leave : Home → (rs : ℕ) → List Instr
leave (Frame k) rs = frame_store rs k
leave (Saved r) rs = Immediate Addi r rs (pos 0) ∷ []
