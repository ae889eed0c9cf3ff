-- The operations of statements that have no statement in them and are gone through from their start to their end.
use Rattle.std.specs.Prelude.{ℕ, ◌+◌, ◌==◌, Bool, false, not, ◌&&◌, if◌then◌else◌, List, [], ◌∷◌, ◌++◌, length, Option, Some, None, sum_by}
use Rattle.al_base.specs.declared.trap.Trap.TheVariants as trap
use Rattle.al_event.specs.declared.act.Block.TheVariants.{Heap, Frame as FrameBlock}
use Rattle.al_typed.specs.declared.ty.Ty.{Ty, out-Ty}
use Rattle.al_typed.specs.declared.ty.Ty.TheOpen.{Ty-F}
use Rattle.al_typed.specs.declared.expression.TExpr.{TExpr, Call'}
use Rattle.al_typed.specs.declared.expression.TPlace.{TPlace}
use Rattle.al_typed.specs.declared.statement.TInitializer.{TInitializer}
use Rattle.al_typed.specs.declared.statement.TStmt.{TStmt, Declare, Par, Return, Become, Alloc, Unalloc, Check, Proc, Task}
use Rattle.al_typed.specs.Typed.{type_of, place_type, row_types}
use Rattle.al_meaning.specs.Places.{function_at, locals_of, has_block}
use Rattle.al_meaning.specs.Evaluate.{round_of}
use Rattle.al_ir.specs.declared.ir.Operation.{Operation}
use Rattle.al_ir.specs.declared.op.Op.{Op}
use Rattle.al_ir.specs.declared.op.Op.TheVariants as op
use Rattle.al_lower_code.specs.Homes.{Spot, at_line, words, size, here, block_home}
use Rattle.al_lower_code.specs.Moving.{home_of, copies, save_code}
use Rattle.al_lower_code.specs.Operators.{skip_if_set}
use Rattle.al_lower_code.specs.Coded.{Coded, Placed, operand_slot, operand_code}
use Rattle.al_lower_code.specs.Values.{local_placed}
use Rattle.al_lower_code.specs.Actions.{arguments_code, assigns_one}
use Rattle.al_lower_code.specs.Expressions.{coded, placed, object, row}

-- ---- the function at hand

abbrev pub has_block_here : Spot → Bool
has_block_here s = has_block (locals_of (function_at s.program s.function))

abbrev pub around_count : Spot → ℕ
around_count s = length (round_of (function_at s.program s.function))

-- the shared block is given back, if there is one
abbrev pub frees_block : Spot → List Operation
frees_block s = if has_block_here s then here s (op.Free (block_home s.program s.function) FrameBlock) else []

-- ---- declarations

abbrev pub initializer_code : Spot → TInitializer → List Operation
initializer_code s i = assigns_one s (type_of i.value) (local_placed s i.local) (coded s i.value) s.turns

abbrev pub declare_code : Spot → List TInitializer → List Operation
declare_code s [] = []
declare_code s (i ∷ rest) = initializer_code s i ++ declare_code s rest

-- ---- calls that start something

abbrev pub words_of_types : Spot → List Ty → ℕ
words_of_types s types = sum_by (words s) types

-- the words of a call, from `to` on, and how many they are
abbrev pub start_code : Spot → TExpr → (to : ℕ) → List Operation
start_code s (Call' t function receiver _ arguments) to = arguments_code (object s receiver) (row s arguments) to
start_code s _ to = []

abbrev pub start_words : Spot → TExpr → ℕ
start_words s (Call' t function receiver _ arguments) = (object s receiver).words + words_of_types s (row_types arguments)
start_words s _ = 0

abbrev pub start_function : TExpr → ℕ
start_function (Call' t function receiver _ arguments) = function
start_function _ = 0

abbrev pub starts_code : Spot → ((function arguments words : ℕ) → Op) → List TExpr → List Operation
starts_code s how [] = []
starts_code s how (e ∷ es) = start_code s e s.turns ++ (here s (how (start_function e) s.turns (start_words s e)) ++ starts_code s how es)

-- the addresses of the blocks round the branches, one behind the other
abbrev pub par_code : Spot → List ℕ → List Operation
par_code s branches =
    let to = s.turns in
    let n = around_count s in
    copies s.line to 0 n ++ (here s (if has_block_here s then op.Copy (to + n) (block_home s.program s.function) else op.Constant (to + n) 0)
    ++ here s (op.Par branches to (n + 1) (to + n + 1)))

-- ---- returns

-- The value comes to stand in the first slots. One word goes there at once, where no block is to be given back first.
abbrev pub returns_value : Spot → (words : ℕ) → Coded → List Operation
returns_value s n c =
    if n == 1 && not (has_block_here s) then c.value 0 s.turns ++ here s (op.Leave 1)
    else c.value s.turns s.turns ++ (frees_block s ++ (copies s.line 0 s.turns n ++ here s (op.Leave n)))

abbrev pub return_code : Spot → Option TExpr → List Operation
return_code s None = frees_block s ++ here s (op.Leave 0)
return_code s (Some e) = returns_value s (words s (type_of e)) (coded s e)

abbrev pub become_code : Spot → TExpr → List Operation
become_code s call = start_code s call s.turns ++ (frees_block s ++ here s (op.Become (start_function call) s.turns))

-- ---- allocation

-- a new block or channel, whose word goes there
abbrev pub new_at : Spot → Ty-F Ty → (to : ℕ) → List Operation
new_at s (Ty-F.Pointer to_type) to = here s (op.Alloc to (size s to_type) Heap)
new_at s (Ty-F.Chan element capacity) to = here s (op.NewChan to capacity (words s element))
new_at s _ to = []

unfoldable pub new_code : Spot → Ty → (to : ℕ) → List Operation
new_code s t to = new_at s (out-Ty t) to

abbrev pub allocates : Spot → Ty → Placed → List Operation
allocates s t pl =
    let to = s.turns in
    pl.code false to ++ elim (home_of (pl.at false to)) [ Some home ↦ new_code s t home | None ↦ new_code s t (to + 1) ++ save_code s t (pl.at false to) (to + 1) ]

abbrev pub alloc_code : Spot → List TPlace → List Operation
alloc_code s [] = []
alloc_code s (place ∷ rest) = allocates s (place_type place) (placed s place) ++ alloc_code s rest

abbrev pub give_back_at : Ty-F Ty → (slot : ℕ) → Op
give_back_at (Ty-F.Chan element capacity) slot = op.FreeChan slot
give_back_at _ slot = op.Free slot Heap

unfoldable pub give_back : Ty → (slot : ℕ) → Op
give_back t slot = give_back_at (out-Ty t) slot

abbrev pub gives_back : Spot → Ty → Coded → List Operation
gives_back s t c = operand_code c s.turns ++ here s (give_back t (operand_slot c s.turns))

abbrev pub unalloc_code : Spot → List TExpr → List Operation
unalloc_code s [] = []
unalloc_code s (e ∷ es) = gives_back s (type_of e) (coded s e) ++ unalloc_code s es

-- of a value of so many words
abbrev pub checks : Spot → (words : ℕ) → Coded → List Operation
checks s n c = operand_code c s.turns ++ (skip_if_set s n (operand_slot c s.turns) s.turns 1 ++ here s (op.Trap trap.Check))

-- ---- statements

abbrev pub simple_code : Spot → TStmt → List Operation
simple_code s (Declare line initializers) = declare_code (at_line line s) initializers
simple_code s (Par line branches) = par_code (at_line line s) branches
simple_code s (Return line value) = return_code (at_line line s) value
simple_code s (Become line call) = become_code (at_line line s) call
simple_code s (Alloc line places) = alloc_code (at_line line s) places
simple_code s (Unalloc line values) = unalloc_code (at_line line s) values
simple_code s (Check line e) = checks (at_line line s) (words s (type_of e)) (coded (at_line line s) e)
simple_code s (Proc line calls) = starts_code (at_line line s) op.Proc calls
simple_code s (Task line calls) = starts_code (at_line line s) op.Task calls
simple_code s _ = []
