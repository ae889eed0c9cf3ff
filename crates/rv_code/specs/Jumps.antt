-- Jumps and branches between words of the code, by how far the jumps of a function go.
use Rattle.std.specs.Prelude.{ℕ, ◌+◌, ◌*◌, ℤ, pos, ◌-ℤ◌, List, [], ◌∷◌}
use Rattle.rv_isa.specs.declared.addresses.TheConstants.{CODE_START}
use Rattle.rv_isa.specs.declared.instr.Instr.{Instr}
use Rattle.rv_isa.specs.declared.instr.Instr.TheVariants.{Upper, Jal, Jalr, Branch}
use Rattle.rv_isa.specs.declared.instr.UpperOp.TheVariants.{Lui}
use Rattle.rv_isa.specs.declared.instr.BranchOp.{BranchOp}
use Rattle.rv_isa.specs.declared.instr.BranchOp.TheVariants.{Beq, Bne, Blt, Bge, Bltu, Bgeu}
use Rattle.rv_code.specs.declared.reach.Reach.{Reach}
use Rattle.rv_code.specs.declared.reach.Reach.TheVariants.{Short, Middle, Long}
use Rattle.rv_code.specs.Homes.{low_part, high_part}

-- the address of a word of the code
abbrev pub place : ℕ → ℕ
place at = CODE_START + 4 * at

abbrev pub distance : (here there : ℕ) → ℤ
distance here there = pos (4 * there) -ℤ pos (4 * here)

-- to any word of the code, by register 5
abbrev pub go_code : (there : ℕ) → List Instr
go_code there = Upper Lui 5 (high_part (place there)) ∷ Jalr 0 5 (low_part (place there)) ∷ []

-- the same, with the place behind it in register 1
abbrev pub link_code : (there : ℕ) → List Instr
link_code there = Upper Lui 5 (high_part (place there)) ∷ Jalr 1 5 (low_part (place there)) ∷ []

abbrev pub jump_code : Reach → (here there : ℕ) → List Instr
jump_code Short here there = Jal 0 (distance here there) ∷ []
jump_code Middle here there = Jal 0 (distance here there) ∷ []
jump_code Long here there = go_code there

abbrev pub opposite : BranchOp → BranchOp
opposite Beq = Bne
opposite Bne = Beq
opposite Blt = Bge
opposite Bge = Blt
opposite Bltu = Bgeu
opposite Bgeu = Bltu

-- where a branch does not reach, its opposite goes over a jump
abbrev pub branch_code : Reach → BranchOp → (a b : ℕ) → (here there : ℕ) → List Instr
branch_code Short op a b here there = Branch op a b (distance here there) ∷ []
branch_code Middle op a b here there = Branch (opposite op) a b (pos 8) ∷ jump_code Middle (here + 1) there
branch_code Long op a b here there = Branch (opposite op) a b (pos 12) ∷ jump_code Long (here + 1) there
