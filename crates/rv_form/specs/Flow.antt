-- The instructions of jumps, calls and returns.
use Rattle.std.specs.Prelude.{ℕ, zero, suc, ◌+◌, ◌-◌, ◌*◌, Bool, true, false, pos, negsuc, List, [], ◌∷◌, ◌++◌, length}
use Rattle.al_base.specs.declared.arith.Op.{Op as Arith}
use Rattle.al_base.specs.declared.arith.Op.TheVariants as arith
use Rattle.al_base.specs.declared.trap.Trap.TheVariants as trap
use Rattle.rv_isa.specs.declared.addresses.TheConstants.{STACK_END}
use Rattle.rv_isa.specs.declared.instr.Instr.{Instr}
use Rattle.rv_isa.specs.declared.instr.Instr.TheVariants.{Upper, Jalr, Branch, Immediate, Register}
use Rattle.rv_isa.specs.declared.instr.UpperOp.TheVariants.{Lui}
use Rattle.rv_isa.specs.declared.instr.BranchOp.{BranchOp}
use Rattle.rv_isa.specs.declared.instr.BranchOp.TheVariants.{Beq, Bne, Blt, Bge, Bltu, Bgeu}
use Rattle.rv_isa.specs.declared.instr.ImmediateOp.TheVariants.{Addi}
use Rattle.rv_isa.specs.declared.instr.RegisterOp.TheVariants.{Sub}
use Rattle.rv_code.specs.declared.home.Home.{Home}
use Rattle.rv_code.specs.declared.home.Home.TheVariants.{Frame, Saved}
use Rattle.rv_code.specs.Homes.{low_part, high_part, frame_load, frame_store, get_code, get_register, bring}
use Rattle.rv_code.specs.declared.reach.Reach.{Reach}
use Rattle.rv_code.specs.declared.reach.Reach.TheVariants.{Short, Middle, Long}
use Rattle.rv_code.specs.Jumps.{distance, jump_code, branch_code, go_code, link_code}
use Rattle.rv_code.specs.Pieces.{call_code, trap_code, turn_code, up_code, down_code}

-- a number into a register, by two instructions whatever it is
abbrev pub wide_number : (rd n : ℕ) → List Instr
wide_number rd n = Upper Lui rd (high_part n) ∷ Immediate Addi rd rd (low_part n) ∷ []

-- ---- jumps

-- a branch on the word of a slot against 0
abbrev pub skip_code : Reach → BranchOp → Home → (at there : ℕ) → List Instr
skip_code reach op slot at there =
    get_code slot 10 ++ branch_code reach op (get_register slot 10) 0 (at + length (get_code slot 10)) there

-- a turn, and then there: where a branch reaches, the last turn alone goes further
abbrev pub turn_to : Reach → (at there : ℕ) → List Instr
turn_to Short at there =
    Immediate Addi 3 3 (negsuc 0) ∷ Branch Bne 3 0 (distance (at + 1) there) ∷ (call_code 2 ++ jump_code Short (at + 4) there)
turn_to Middle at there = turn_code ++ jump_code Middle (at + 4) there
turn_to Long at there = turn_code ++ jump_code Long (at + 4) there

abbrev pub not_less : Bool → BranchOp
not_less true = Bge
not_less false = Bgeu

abbrev pub is_less : Bool → BranchOp
is_less true = Blt
is_less false = Bltu

-- where a comparison of the words in registers `a` and `b` does not hold
abbrev pub unless_code : Reach → Arith → (signed : Bool) → (a b here there : ℕ) → List Instr
unless_code reach arith.Lt signed a b here there = branch_code reach (not_less signed) a b here there
unless_code reach arith.Le signed a b here there = branch_code reach (is_less signed) b a here there
unless_code reach arith.Eq signed a b here there = branch_code reach Bne a b here there
unless_code reach arith.Ne signed a b here there = branch_code reach Beq a b here there
unless_code reach _ signed a b here there = []

abbrev pub skip_unless_code : Reach → Arith → (signed : Bool) → (left right : Home) → (at there : ℕ) → List Instr
skip_unless_code reach op signed left right at there =
    get_code left 10 ++ (get_code right 11
    ++ unless_code reach op signed (get_register left 10) (get_register right 11) (at + length (get_code left 10) + length (get_code right 11)) there)

-- ---- functions

-- where a call comes that finds no room on the stack; it stands before the function's first word, and has the line of its name
abbrev pub no_room : List Instr
no_room = trap_code trap.Stack

-- so many words stand before a function's first word
abbrev pub no_room_words : ℕ
no_room_words = 3

-- The greatest frame of a task at which a function finds room, so many words above that frame and with so many of its own.
abbrev pub last_frame : (above words : ℕ) → ℕ
last_frame above words = STACK_END - 4 * (above + words)

abbrev pub stack_test : (above words entry : ℕ) → List Instr
stack_test above words entry =
    wide_number 5 (last_frame above words) ++ (Branch Bgeu 5 2 (pos 12) ∷ go_code (entry - no_room_words))

abbrev pub pass_word : Home → (k : ℕ) → List Instr
pass_word from k = get_code from 10 ++ frame_store (get_register from 10) k

-- so many words from slot `from` on, into those of the frame from word `to` on
abbrev pub pass : (home : ℕ → Home) → (from to count : ℕ) → List Instr
pass home from to zero = []
pass home from to (suc n) = pass_word (home from) to ++ pass home (from + 1) (to + 1) n

-- a call; `above` is the frame of the function at hand, and `words` that of the function that is called
abbrev pub invoke_code : (home : ℕ → Home) → (above words entry arguments count : ℕ) → List Instr
invoke_code home above words entry arguments count =
    turn_code ++ (stack_test above words entry
    ++ (pass home arguments above count ++ (up_code above ++ (link_code entry ++ down_code above))))

-- a call in the place of the function at hand, whose way back stands in word `back`
abbrev pub become_code : (home : ℕ → Home) → (back words entry arguments count : ℕ) → List Instr
become_code home back words entry arguments count =
    turn_code ++ (stack_test 0 words entry ++ (frame_load 1 back ++ (pass home arguments 0 count ++ go_code entry)))

-- A dispatcher has put the first word's address of the function that it found into register 6, or 0, and the greatest frame at
-- which that finds room into register 7.
abbrev pub found_test : List Instr
found_test = Branch Bne 6 0 (pos 16) ∷ trap_code trap.Call

abbrev pub found_stack_test : (above : ℕ) → List Instr
found_stack_test above =
    wide_number 5 (4 * above) ++ (Register Sub 7 7 5 ∷ Branch Bgeu 7 2 (pos 8) ∷ Jalr 0 6 (negsuc 11) ∷ [])

abbrev pub invoke_pointer_code : (home : ℕ → Home) → (above dispatcher pointer arguments count : ℕ) → List Instr
invoke_pointer_code home above dispatcher pointer arguments count =
    bring (home pointer) 10 ++ (link_code dispatcher
    ++ (found_test ++ (turn_code ++ (found_stack_test above
    ++ (pass home arguments above count ++ (up_code above ++ (Jalr 1 6 (pos 0) ∷ down_code above)))))))

-- a result's word whose home is a register goes to the frame, where the function that called finds it
abbrev pub show_word : Home → (k : ℕ) → List Instr
show_word (Frame _) k = []
show_word (Saved r) k = frame_store r k

abbrev pub show : (home : ℕ → Home) → (from count : ℕ) → List Instr
show home from zero = []
show home from (suc n) = show_word (home from) from ++ show home (from + 1) n

abbrev pub leave_code : (home : ℕ → Home) → (back words : ℕ) → List Instr
leave_code home back words = turn_code ++ (show home 0 words ++ (frame_load 1 back ++ Jalr 0 1 (pos 0) ∷ []))

-- an argument whose home is a register
abbrev pub take_word : Home → (k : ℕ) → List Instr
take_word (Frame _) k = []
take_word (Saved r) k = frame_load r k

abbrev pub take_arguments : (home : ℕ → Home) → (from count : ℕ) → List Instr
take_arguments home from zero = []
take_arguments home from (suc n) = take_word (home from) from ++ take_arguments home (from + 1) n

-- a function begins: where to return to stands in word `back`
abbrev pub prologue : (home : ℕ → Home) → (back arguments : ℕ) → List Instr
prologue home back arguments = frame_store 1 back ++ take_arguments home 0 arguments
