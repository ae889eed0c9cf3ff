-- The functions of one type that are called through pointers, as a tree of comparisons. The value that is called stands in
-- register 10. Where it names a function of the type, register 6 gets the address of the function's first word, and register 7 the
-- greatest frame at which it finds room; else register 6 gets 0. It returns by register 1, so that each call traps in its own line.
use Rattle.std.specs.Prelude.{ℕ, zero, suc, ◌+◌, ◌^◌, nat_lt, nat_le, pos, List, [], ◌∷◌, ◌++◌, filter}
use Rattle.al_meaning.specs.Places.{function_address}
use Rattle.rv_isa.specs.declared.instr.Instr.{Instr}
use Rattle.rv_isa.specs.declared.instr.Instr.TheVariants.{Jalr, Branch, Immediate}
use Rattle.rv_isa.specs.declared.instr.BranchOp.TheVariants.{Bne, Bgeu}
use Rattle.rv_isa.specs.declared.instr.ImmediateOp.TheVariants.{Addi}
use Rattle.rv_code.specs.declared.reach.Reach.TheVariants.{Long}
use Rattle.rv_code.specs.Jumps.{place, branch_code}
use Rattle.rv_form.specs.Flow.{wide_number, last_frame}

-- no function, one, or those of numbers below that of a split, and the others
pub data Tree : Type 0 where
  Nothing : Tree
  Is : (function : ℕ) → Tree
  Split : (function : ℕ) → (below above : Tree) → Tree

-- a split without functions on one side is none
abbrev pub split : (function : ℕ) → (below above : Tree) → Tree
split f Nothing above = above
split f (Is g) Nothing = Is g
split f (Split g l r) Nothing = Split g l r
split f below above = Split f below above

-- the functions of numbers from one on, 2 ^ bits of them
abbrev pub tree_of : (bits from : ℕ) → List ℕ → Tree
tree_of bits from [] = Nothing
tree_of zero from (f ∷ fs) = Is f
tree_of (suc n) from (f ∷ fs) =
    split (from + 2 ^ n)
    (tree_of n from (filter (λ g. nat_lt g (from + 2 ^ n)) (f ∷ fs)))
    (tree_of n (from + 2 ^ n) (filter (λ g. nat_le (from + 2 ^ n) g) (f ∷ fs)))

-- a program has at most 2 ^ 16 functions
abbrev pub tree : List ℕ → Tree
tree functions = tree_of 16 0 functions

-- ---- its code, for functions whose first words are `entry`, and whose frames have `stack` words

abbrev pub tree_width : Tree → ℕ
tree_width Nothing = 2
tree_width (Is f) = 10
tree_width (Split f below above) = 5 + (tree_width below + tree_width above)

abbrev pub not_found : List Instr
not_found = Immediate Addi 6 0 (pos 0) ∷ Jalr 0 1 (pos 0) ∷ []

abbrev pub found_code : (entry stack : ℕ) → List Instr
found_code entry stack = wide_number 6 (place entry) ++ (wide_number 7 (last_frame 0 stack) ++ Jalr 0 1 (pos 0) ∷ [])

abbrev pub tree_code : (entry stack : ℕ → ℕ) → (at : ℕ) → Tree → List Instr
tree_code entry stack at Nothing = not_found
tree_code entry stack at (Is f) =
    wide_number 6 (function_address f) ++ (Branch Bne 10 6 (pos 24) ∷ (found_code (entry f) (stack f) ++ not_found))
tree_code entry stack at (Split f below above) =
    wide_number 6 (function_address f)
    ++ (branch_code Long Bgeu 10 6 (at + 2) (at + 5 + tree_width below)
    ++ (tree_code entry stack (at + 5) below ++ tree_code entry stack (at + 5 + tree_width below) above))
