-- Worked runs of small programs of operations.
use Rattle.std.specs.Prelude.{◌≡◌, ℕ, true, false, List, [], ◌∷◌, map, Option, Some, None, option_map, refl, codes, pos}
use Rattle.std.specs.Fmt.{digits}
use Rattle.al_base.specs.declared.arith.Op.TheVariants as arith
use Rattle.al_base.specs.declared.arith.Kind.TheVariants as kind
use Rattle.al_base.specs.declared.over.Over.{Over}
use Rattle.al_base.specs.declared.over.Over.TheVariants.{Done, Stopped, Trapped}
use Rattle.al_base.specs.declared.trap.Trap.TheVariants as trap
use Rattle.al_event.specs.declared.act.Block.TheVariants as block
use Rattle.al_world.specs.World.{Shared, World}
use Rattle.al_world.specs.Scripts.{by_procs, output_of, over_of, line_in}
use Rattle.al_ir.specs.declared.ir.Function.{Function}
use Rattle.al_ir.specs.declared.ir.Operation.{Operation}
use Rattle.al_ir.specs.declared.ir.Run.{Run}
use Rattle.al_ir.specs.declared.ir.Ir.{Ir}
use Rattle.al_ir.specs.declared.op.Op.{Op}
use Rattle.al_ir.specs.declared.op.Op.TheVariants.{Constant, Copy, Zero, Result, Word, WordBy, Long, Convert, SkipIfZero, SkipUnless, Back, Turn, Invoke, InvokePointer, Become, Leave, Load, Store, LoadUnits, StoreUnits, ClearUnits, Alloc, Free, NewChan, Talk, Task, Par, PutByte, PutDecimal, PutLongDecimal, PutText, Print, Terminate}
use Rattle.al_ir.specs.Meaning.{tasks, run}

-- ---- short forms

abbrev code : List Op → List Operation
code ops = map (λ o. record { line = 1; op = o }) ops

abbrev function : ℕ → List Op → Function
function arguments ops = record { line = 7; arguments = arguments; stack = 64; slots = 16; code = code ops }

-- the functions that pointers name are all but the first
abbrev program : List (List Run) → List Function → Ir
program layouts functions = record { functions = functions; classes = (1 ∷ []) ∷ []; layouts = layouts; globals = []; privates = 0; main = 0 }

-- what all can see after entries of these procs
abbrev after : Ir → List ℕ → Option Shared
after ir procs = option_map (λ (w : World (tasks ir)). w.shared) (run ir 0x1000000 (by_procs procs))

abbrev over_after : Ir → List ℕ → Option (Option Over)
over_after ir procs = over_of (after ir procs)

abbrev output_after : Ir → List ℕ → Option (List ℕ)
output_after ir procs = output_of (after ir procs)

-- ---- calls, and a loop

-- the squares of 3, 2 and 1
abbrev squares : Ir
squares = program [] (
    function 0 (
    Constant 0 3
    ∷ SkipIfZero 0 7
    ∷ Copy 1 0
    ∷ Invoke 1 1
    ∷ Result 1 0
    ∷ PutDecimal true 1
    ∷ Print
    ∷ WordBy arith.Sub true 0 0 1
    ∷ Turn 1
    ∷ Leave 0
    ∷ [])
    ∷ function 1 (Word arith.Mul true 0 0 0 ∷ Leave 1 ∷ [])
    ∷ [])

writes_squares : output_after squares (0 ∷ 0 ∷ 0 ∷ 0 ∷ []) ≡ Some (codes "941")
unfolding digits
writes_squares = refl

ends : over_after squares (0 ∷ 0 ∷ 0 ∷ 0 ∷ []) ≡ Some (Some Done)
unfolding digits
ends = refl

-- the sum of the numbers below 10
abbrev total : Ir
total = program [] (
    function 0 (
    Zero 0 2
    ∷ Constant 2 10
    ∷ SkipUnless arith.Lt true 1 2 3
    ∷ Word arith.Add true 0 0 1
    ∷ WordBy arith.Add true 1 1 1
    ∷ Back 3
    ∷ PutDecimal true 0
    ∷ Print
    ∷ Leave 0
    ∷ [])
    ∷ [])

writes_a_total : output_after total (0 ∷ []) ≡ Some (codes "45")
unfolding digits
writes_a_total = refl

-- a constant of 12 bits is extended with its sign
abbrev below : Ir
below = program [] (function 0 (Constant 0 5 ∷ WordBy arith.Lt true 0 0 0xffffffff ∷ PutDecimal true 0 ∷ Print ∷ Leave 0 ∷ []) ∷ [])

five_is_not_below : output_after below (0 ∷ []) ≡ Some (codes "0")
unfolding digits
five_is_not_below = refl

-- words of 0 in the place of others
abbrev zeroes : Ir
zeroes = program [] (function 0 (Constant 2 7 ∷ Constant 4 8 ∷ Zero 1 3 ∷ PutDecimal true 2 ∷ PutDecimal true 4 ∷ Print ∷ Leave 0 ∷ []) ∷ [])

zeroes_three : output_after zeroes (0 ∷ []) ≡ Some (codes "08")
unfolding digits
zeroes_three = refl

-- a call in the place of the function at hand, which takes no more of the stack
abbrev becomes : Ir
becomes = program [] (
    function 0 (Constant 0 3 ∷ Invoke 1 0 ∷ Leave 0 ∷ [])
    ∷ function 1 (SkipIfZero 0 2 ∷ WordBy arith.Sub true 0 0 1 ∷ Become 1 0 ∷ Leave 0 ∷ [])
    ∷ [])

becomes_ends : over_after becomes (0 ∷ []) ≡ Some (Some Done)
becomes_ends = refl

-- ---- what a function gives

-- as many words as it says, and no more
abbrev gives_one : Ir
gives_one = program [] (
    function 0 (Invoke 1 0 ∷ Result 0 1 ∷ Leave 0 ∷ [])
    ∷ function 0 (Constant 0 5 ∷ Constant 1 6 ∷ Leave 1 ∷ [])
    ∷ [])

has_no_second : over_after gives_one (0 ∷ []) ≡ Some (Some (Trapped trap.Illegal 0 0))
has_no_second = refl

-- what it gave is lost with the next call
abbrev gives_late : Ir
gives_late = program [] (
    function 0 (Invoke 1 0 ∷ Invoke 2 0 ∷ Leave 0 ∷ [])
    ∷ function 0 (Constant 0 5 ∷ Leave 1 ∷ [])
    ∷ function 0 (Result 0 0 ∷ Leave 0 ∷ [])
    ∷ [])

is_lost : over_after gives_late (0 ∷ []) ≡ Some (Some (Trapped trap.Illegal 0 0))
is_lost = refl

-- a pointer to function 1, and one to none
abbrev points : ℕ → Ir
points value = program [] (
    function 0 (Constant 0 value ∷ Constant 1 6 ∷ InvokePointer 0 0 1 ∷ Result 1 0 ∷ PutDecimal true 1 ∷ Print ∷ Leave 0 ∷ [])
    ∷ function 1 (Word arith.Add true 0 0 0 ∷ Leave 1 ∷ [])
    ∷ [])

calls_by_pointer : output_after (points 0x8000004) (0 ∷ []) ≡ Some (codes "12")
unfolding digits
calls_by_pointer = refl

traps_without_function : over_after (points 0x8000000) (0 ∷ []) ≡ Some (Some (Trapped trap.Call 0 0))
traps_without_function = refl

-- ---- traps and long words

abbrev divides : Ir
divides = program [] (function 0 (Constant 0 7 ∷ Constant 1 0 ∷ Word arith.Div true 0 0 1 ∷ Leave 0 ∷ []) ∷ [])

traps : over_after divides (0 ∷ []) ≡ Some (Some (Trapped trap.Divide 0 0))
traps = refl

in_its_line : line_in (after divides (0 ∷ [])) ≡ Some 1
in_its_line = refl

-- the int -2 as a lint, times itself and its upper word
abbrev long : Ir
long = program [] (
    function 0 (
    Constant 0 0xfffffffe
    ∷ Convert kind.Int kind.Lint 2 0
    ∷ Long arith.Mul true 4 2 2
    ∷ PutLongDecimal true 2
    ∷ PutLongDecimal false 4
    ∷ Print
    ∷ Leave 0
    ∷ [])
    ∷ [])

multiplies : output_after long (0 ∷ []) ≡ Some (codes "-24")
unfolding digits
multiplies = refl

abbrev stopped : Ir
stopped = program [] (function 0 (Constant 0 3 ∷ Terminate 0 ∷ []) ∷ [])

stops_with_a_status : over_after stopped (0 ∷ []) ≡ Some (Some (Stopped (pos 3)))
stops_with_a_status = refl

-- ---- shared storage

-- a text of two bytes in a block
abbrev text : Ir
text = program [] (
    function 0 (
    Alloc 0 4 block.Heap
    ∷ Constant 1 104
    ∷ Store 0 0 1 1
    ∷ Constant 1 105
    ∷ Store 0 1 1 1
    ∷ PutText 0
    ∷ PutByte 10
    ∷ Print
    ∷ Leave 0
    ∷ [])
    ∷ [])

writes_text : output_after text (0 ∷ 0 ∷ 0 ∷ 0 ∷ 0 ∷ 0 ∷ 0 ∷ []) ≡ Some (codes "hi\n")
writes_text = refl

-- an int, two bytes and a sint, 4 bytes behind the start of a block; each word keeps the bytes of its unit
abbrev mixed : List Run
mixed = record { at = 0; size = 4; count = 1 } ∷ record { at = 4; size = 1; count = 2 } ∷ record { at = 6; size = 2; count = 1 } ∷ []

abbrev units : List Op → Ir
units between = program (mixed ∷ []) (
    function 0 (
    Alloc 0 12 block.Heap
    ∷ Constant 1 70000
    ∷ Constant 2 300
    ∷ Constant 3 2
    ∷ Constant 4 65537
    ∷ StoreUnits 0 4 0 1
    ∷ between)
    ∷ [])

abbrev shows_units : List Op
shows_units = LoadUnits 5 0 4 0 ∷ PutDecimal true 5 ∷ PutDecimal true 6 ∷ PutDecimal true 7 ∷ PutDecimal true 8 ∷ Print ∷ Leave 0 ∷ []

loads_what_was_stored : output_after (units shows_units) (0 ∷ 0 ∷ 0 ∷ 0 ∷ 0 ∷ 0 ∷ 0 ∷ 0 ∷ 0 ∷ 0 ∷ []) ≡ Some (codes "700004421")
unfolding digits
loads_what_was_stored = refl

clears_what_was_stored : output_after (units (ClearUnits 0 4 0 ∷ shows_units)) (0 ∷ 0 ∷ 0 ∷ 0 ∷ 0 ∷ 0 ∷ 0 ∷ 0 ∷ 0 ∷ 0 ∷ 0 ∷ 0 ∷ 0 ∷ 0 ∷ []) ≡ Some (codes "0000")
unfolding digits
clears_what_was_stored = refl

-- ---- tasks and procs

-- a task sends 42, and the one that started it receives and prints it
abbrev exchange : Ir
exchange = program [] (
    function 0 (
    NewChan 0 0 1
    ∷ Task 1 0 1
    ∷ Talk (record { chan = 0; words = 1; send = None } ∷ []) 4 1 2
    ∷ PutDecimal true 2
    ∷ Print
    ∷ Leave 0
    ∷ [])
    ∷ function 1 (Constant 1 42 ∷ Talk (record { chan = 0; words = 1; send = Some 1 } ∷ []) 4 2 3 ∷ Leave 0 ∷ [])
    ∷ [])

exchanges : output_after exchange (0 ∷ 0 ∷ 0 ∷ 0 ∷ 0 ∷ 0 ∷ 0 ∷ []) ≡ Some (codes "42")
unfolding digits
exchanges = refl

-- two procs store into a block of the one that waits for them
abbrev fill : ℕ → Op → List Op
fill offset value = value ∷ Store 0 offset 4 1 ∷ Leave 0 ∷ []

abbrev joined : Ir
joined = program [] (
    function 0 (
    Alloc 0 8 block.Frame
    ∷ Par (1 ∷ 2 ∷ []) 0 1 4
    ∷ Load 1 0 0 4
    ∷ Load 2 0 4 4
    ∷ Free 0 block.Frame
    ∷ Word arith.Add true 1 1 2
    ∷ PutDecimal true 1
    ∷ Print
    ∷ Leave 0
    ∷ [])
    ∷ function 1 (fill 0 (Constant 1 30))
    ∷ function 1 (fill 4 (Constant 1 4))
    ∷ [])

joins : output_after joined (0 ∷ 0 ∷ 1 ∷ 2 ∷ 1 ∷ 2 ∷ 0 ∷ 0 ∷ 0 ∷ 0 ∷ 0 ∷ []) ≡ Some (codes "34")
unfolding digits
joins = refl
