-- A private step of a task: one operation is done, or one unit or byte of it.
use Rattle.std.specs.Prelude.{ℕ, ◌+◌, ◌-◌, ◌*◌, ◌/◌, ◌%◌, ◌^◌, ◌==◌, nat_lt, Bool, true, false, if◌then◌else◌, List, [], ◌∷◌, ◌++◌, map, length, sum_by, decimal, replicate, Option, Some, None, option_map, option_and_then, slice_get, slice_index, slice_set}
use Rattle.std.specs.Int.{cast_signed, w32}
use Rattle.std.specs.Fmt.{digits, signed_decimal}
use Rattle.al_base.specs.Arith.{applied, wrapped, integer_of, width_of, value_of}
use Rattle.al_base.specs.declared.arith.Op.{Op as Arith}
use Rattle.al_base.specs.declared.arith.Op.TheVariants as arith
use Rattle.al_base.specs.declared.arith.Kind.{Kind}
use Rattle.al_base.specs.declared.arith.Kind.TheVariants as kind
use Rattle.al_base.specs.declared.trap.Trap.{Trap}
use Rattle.al_base.specs.declared.trap.Trap.TheVariants as trap
use Rattle.al_event.specs.declared.act.Act.{Act}
use Rattle.al_event.specs.declared.act.Act.TheVariants as act
use Rattle.al_event.specs.declared.act.Branch.{Branch as ActBranch}
use Rattle.al_world.specs.Turns.{Move, Moves, Turns, Asks}
use Rattle.al_typed.specs.declared.layout.Unit.{Unit as StorageUnit}
use Rattle.al_meaning.specs.Words.{bits_of, integer_words, sum, stepped_by, elements_between}
use Rattle.al_meaning.specs.Places.{function_address}
use Rattle.al_meaning.specs.Shown.{most_text}
use Rattle.al_meaning.specs.Calls.{most_slots}
use Rattle.al_ir.specs.declared.ir.Operation.{Operation}
use Rattle.al_ir.specs.declared.ir.Ir.{Ir}
use Rattle.al_ir.specs.declared.op.TalkBranch.{TalkBranch}
use Rattle.al_ir.specs.declared.op.Op.{Op}
use Rattle.al_ir.specs.declared.op.Op.TheVariants.{Constant, Copy, Zero, Result as Result_, Word as Word_, WordBy, Long, Complement, IsZero, IsLongSet, Convert, Extract, Offset, Advance, Between, GetPrivate, PutPrivate, Skip, SkipIfZero, SkipIfSet, SkipUnless, GoTo, Back, Turn, Invoke, InvokePointer, Become, Leave, Load, Store, LoadUnits, StoreUnits, ClearUnits, Alloc, Free, NewChan, FreeChan, CanRecv, CanSend, Talk, Proc, Task, Par, PutByte, PutCharacter, PutDecimal, PutLongDecimal, PutHex, PutLongHex, PutText, Print, Terminate, Trap as Trap_}
use Rattle.al_ir.specs.Units.{units_at}
use Rattle.al_ir.specs.Control.{Slots, no_slots, put, put_all, forget, first_slots, slots_from, words_at, Frame, Entering, Into, Nowhere, Word, Branch, Byte, Control, function_at, operation_at, line_of, stack_of, begun}

-- ---- where a step is made

-- the operation of number `pc` of a function and how many of its units are done, the slots, the frames below, the text composed
-- so far, what the function gave that returned last, and the private globals
pub record Here : Type 0 where
  pub ir : Ir
  pub line : ℕ
  pub function : ℕ
  pub pc : ℕ
  pub unit : ℕ
  pub slots : Slots
  pub below : List Frame
  pub text : List ℕ
  pub last : Slots
  pub privates : List ℕ

abbrev pub Next : Type 0
Next = Move Control (List ℕ)

-- the frame at hand, at the operation of that number
abbrev pub frame_at : ℕ → Here → Frame
frame_at pc h = record { function = h.function; pc = pc; slots = h.slots }

abbrev pub control_at : ℕ → Into → Here → Control
control_at pc into h = record { entering = None; into = into; unit = 0; text = h.text; last = h.last; frames = frame_at pc h ∷ h.below }

-- goes on with the operation of that number, or with the next one
abbrev pub goes_to : ℕ → Here → Next
goes_to pc h = Moves (control_at pc Nowhere h) h.privates

abbrev pub moves : Here → Next
moves h = goes_to (h.pc + 1) h

abbrev pub sets : ℕ → ℕ → Here → Next
sets t w h = moves (record h { slots = put t w h.slots })

abbrev pub sets_all : ℕ → List ℕ → Here → Next
sets_all t ws h = moves (record h { slots = put_all t ws h.slots })

-- an action, whose answer goes there
abbrev pub asks : Act → Into → Here → Next
asks a into h = Asks a h.line (control_at (h.pc + 1) into h) h.privates

abbrev pub traps : Trap → Here → Next
traps t h = asks (act.Trap t) Nowhere h

-- what no operations that were made from a program come to
abbrev pub lost : Here → Next
lost h = traps trap.Illegal h

-- a word or words that are there
abbrev pub known : {A : Type 0} → Here → Option A → (A → Next) → Next
known h (Some a) k = k a
known h None k = lost h

abbrev pub with_slot : Here → ℕ → (ℕ → Next) → Next
with_slot h t k = known h (h.slots t) k

abbrev pub with_words : Here → (t n : ℕ) → (List ℕ → Next) → Next
with_words h t n k = known h (words_at h.slots t n) k

-- ---- words

abbrev pub word_kind : Bool → Kind
word_kind true = kind.Int
word_kind false = kind.Uint

abbrev pub long_kind : Bool → Kind
long_kind true = kind.Lint
long_kind false = kind.Ulint

abbrev pub pair : ℕ → ℕ → ℕ
pair low high = bits_of (low ∷ high ∷ [])

abbrev pub with_pair : Here → ℕ → (ℕ → Next) → Next
with_pair h t k = with_slot h t (λ low. with_slot h (t + 1) (λ high. k (pair low high)))

-- what an operation on pairs gives: a word where it compares
abbrev pub long_words : Arith → ℕ → List ℕ
long_words arith.Lt n = n ∷ []
long_words arith.Le n = n ∷ []
long_words arith.Eq n = n ∷ []
long_words arith.Ne n = n ∷ []
long_words _ n = n % 2 ^ 32 ∷ n / 2 ^ 32 ∷ []

abbrev pub or_divides : Here → Option ℕ → (ℕ → Next) → Next
or_divides h (Some n) k = k n
or_divides h None k = traps trap.Divide h

-- how many words an integer of a kind has
abbrev pub kind_words : Kind → ℕ
kind_words k = if width_of k == 64 then 2 else 1

abbrev pub converted_words : (from into : Kind) → List ℕ → List ℕ
converted_words from into ws = integer_words into (wrapped (width_of into) (integer_of from (bits_of ws)))

abbrev pub one_if : Bool → ℕ
one_if true = 1
one_if false = 0

abbrev pub zero_if : Bool → ℕ
zero_if true = 0
zero_if false = 1

-- ---- jumps

-- forward alone
abbrev pub forward : ℕ → Here → Next
forward to h = if nat_lt h.pc to then goes_to to h else lost h

abbrev pub skips_if : Bool → ℕ → Here → Next
skips_if true count h = goes_to (h.pc + 1 + count) h
skips_if false count h = moves h

-- a turn, and then the operation of that number
abbrev pub turns_to : ℕ → Here → Next
turns_to pc h = Turns h.line (control_at pc Nowhere h) h.privates

-- ---- functions

-- A function is to begin above these frames. What an older function gave is lost.
abbrev pub to_enter : ℕ → Slots → List Frame → Here → Next
to_enter function arguments frames h =
    Turns h.line (record { entering = Some (record { function = function; arguments = arguments }); into = Nowhere; unit = 0; text = h.text; last = no_slots; frames = frames }) h.privates

-- a call, with the arguments from a slot on
abbrev pub invokes : ℕ → ℕ → Here → Next
invokes function t h = to_enter function (slots_from t h.slots) (frame_at (h.pc + 1) h ∷ h.below) h

-- the function of these whose name has this value
abbrev pub named_in : ℕ → List ℕ → Option ℕ
named_in value [] = None
named_in value (f ∷ fs) = if function_address f == value then Some f else named_in value fs

abbrev pub class_of : Ir → ℕ → List ℕ
class_of ir class = elim (slice_get ir.classes class) [ Some fs ↦ fs | None ↦ [] ]

abbrev pub invokes_found : Option ℕ → ℕ → Here → Next
invokes_found (Some f) t h = invokes f t h
invokes_found None t h = traps trap.Call h

-- ---- units

-- what is done with the unit that is next; behind the last one the operation is done
abbrev pub with_unit : Here → Option StorageUnit → (StorageUnit → Next) → Next
with_unit h (Some u) k = k u
with_unit h None k = moves h

-- an action on the unit at hand; the operation goes on with the next one
abbrev pub asks_unit : Act → Into → Here → Next
asks_unit a into h = Asks a h.line (record (control_at h.pc into h) { unit = h.unit + 1 }) h.privates

abbrev pub next_unit : Here → ℕ → Option StorageUnit
next_unit h layout = slice_get (units_at h.ir layout) h.unit

-- where a unit of a value stands
abbrev pub unit_place : (at offset : ℕ) → StorageUnit → ℕ
unit_place at offset u = sum (sum at offset) u.at

-- a word that keeps the bytes of its unit is stored there
abbrev pub stores_unit : ℕ → StorageUnit → ℕ → Here → Next
stores_unit at u w h = asks_unit (act.Store at u.size (w % 256 ^ u.size)) Nowhere h

-- ---- talks

abbrev pub sent_at : Slots → ℕ → Option ℕ → Option (Option (List ℕ))
sent_at slots words None = Some None
sent_at slots words (Some t) = option_map Some (words_at slots t words)

abbrev pub branch_of : Slots → TalkBranch → Option ActBranch
branch_of slots b = option_and_then (λ c. option_map (λ sent. record { chan = c; words = b.words; send = sent }) (sent_at slots b.words b.send)) (slots b.chan)

abbrev pub branches_of : Slots → List TalkBranch → Option (List ActBranch)
branches_of slots [] = Some []
branches_of slots (b ∷ bs) = option_and_then (λ c. option_map (λ cs. c ∷ cs) (branches_of slots bs)) (branch_of slots b)

abbrev pub forgetting : (t n : ℕ) → Here → Here
forgetting t n h = record h { slots = forget t n h.slots }

-- ---- text

-- the first byte past the most traps
abbrev pub composes : List ℕ → Here → Next
composes bytes h =
    if nat_lt most_text (length h.text + length bytes) then traps trap.Print h else moves (record h { text = h.text ++ bytes })

abbrev pub decimal_of : Bool → (width n : ℕ) → List ℕ
decimal_of true width n = signed_decimal (value_of true width n)
decimal_of false width n = decimal n

-- Where the text has a byte too much it traps; else the next byte is loaded, and the operation is done again.
abbrev pub scans : ℕ → ℕ → Here → Next
scans t at h =
    if nat_lt most_text (length h.text) then traps trap.Print h
    else Asks (act.Load at 1) h.line (control_at h.pc (Byte t at) h) h.privates

-- ---- one operation

abbrev pub step_op : Op → Here → Next
step_op (Constant to w) h = sets to w h
step_op (Copy to from) h = with_slot h from (λ w. sets to w h)
step_op (Zero to count) h = sets_all to (replicate count 0) h
step_op (Result_ to word) h = known h (h.last word) (λ w. sets to w h)
step_op (Word_ op signed to left right) h =
    with_slot h left (λ x. with_slot h right (λ y. or_divides h (applied op (word_kind signed) x y) (λ z. sets to z h)))
step_op (WordBy op signed to left w) h =
    with_slot h left (λ x. or_divides h (applied op (word_kind signed) x w) (λ z. sets to z h))
step_op (Long op signed to left right) h =
    with_pair h left (λ x. with_pair h right (λ y. or_divides h (applied op (long_kind signed) x y) (λ z. sets_all to (long_words op z) h)))
step_op (Complement to from) h = with_slot h from (λ w. sets to (2 ^ 32 - 1 - w) h)
step_op (IsZero to from) h = with_slot h from (λ w. sets to (one_if (w == 0)) h)
step_op (IsLongSet to from) h = with_pair h from (λ n. sets to (zero_if (n == 0)) h)
step_op (Convert from into to of) h = with_words h of (kind_words from) (λ ws. sets_all to (converted_words from into ws) h)
step_op (Extract to from skip size) h = with_slot h from (λ w. sets to (w / 256 ^ skip % 256 ^ size) h)
step_op (Offset to from bytes) h = with_slot h from (λ w. sets to (sum w bytes) h)
step_op (Advance back size to pointer count) h = with_slot h pointer (λ x. with_slot h count (λ n. sets to (stepped_by back size x n) h))
step_op (Between size to left right) h = with_slot h left (λ x. with_slot h right (λ y. sets to (elements_between size x y) h))
step_op (GetPrivate to place) h = sets to (slice_index h.privates place) h
step_op (PutPrivate place from) h = with_slot h from (λ w. moves (record h { privates = slice_set h.privates place w }))
step_op (Skip count) h = goes_to (h.pc + 1 + count) h
step_op (SkipIfZero slot count) h = with_slot h slot (λ w. skips_if (w == 0) count h)
step_op (SkipIfSet slot count) h = with_slot h slot (λ w. if w == 0 then moves h else goes_to (h.pc + 1 + count) h)
step_op (SkipUnless op signed left right count) h =
    with_slot h left (λ x. with_slot h right (λ y. or_divides h (applied op (word_kind signed) x y) (λ z. skips_if (z == 0) count h)))
step_op (GoTo to) h = forward to h
step_op (Back count) h = turns_to (h.pc - count) h
step_op (Turn to) h = turns_to to h
step_op (Invoke function arguments) h = invokes function arguments h
step_op (InvokePointer class pointer arguments) h = with_slot h pointer (λ v. invokes_found (named_in v (class_of h.ir class)) arguments h)
step_op (Become function arguments) h = to_enter function (slots_from arguments h.slots) h.below h
step_op (Leave words) h =
    Turns h.line (record { entering = None; into = Nowhere; unit = 0; text = h.text; last = first_slots words h.slots; frames = h.below }) h.privates
step_op (Load to at offset size) h = with_slot h at (λ a. asks (act.Load (sum a offset) size) (Word to) h)
step_op (Store at offset size from) h = with_slot h at (λ a. with_slot h from (λ w. asks (act.Store (sum a offset) size (w % 256 ^ size)) Nowhere h))
step_op (LoadUnits to at offset layout) h =
    with_slot h at (λ a. with_unit h (next_unit h layout) (λ u. asks_unit (act.Load (unit_place a offset u) u.size) (Word (to + h.unit)) h))
step_op (StoreUnits at offset layout from) h =
    with_slot h at (λ a. with_unit h (next_unit h layout) (λ u. with_slot h (from + h.unit) (λ w. stores_unit (unit_place a offset u) u w h)))
step_op (ClearUnits at offset layout) h =
    with_slot h at (λ a. with_unit h (next_unit h layout) (λ u. stores_unit (unit_place a offset u) u 0 h))
step_op (Alloc to bytes kind) h = asks (act.Alloc bytes kind) (Word to) h
step_op (Free at kind) h = with_slot h at (λ a. asks (act.Free a kind) Nowhere h)
step_op (NewChan to capacity words) h = asks (act.NewChan capacity words) (Word to) h
step_op (FreeChan chan) h = with_slot h chan (λ c. asks (act.FreeChan c) Nowhere h)
step_op (CanRecv to chan) h = with_slot h chan (λ c. asks (act.CanRecv c) (Word to) h)
step_op (CanSend to chan) h = with_slot h chan (λ c. asks (act.CanSend c) (Word to) h)
step_op (Talk branches records to got) h =
    known h (branches_of h.slots branches) (λ bs. asks (act.Talk bs) (Branch to got) (forgetting records (4 * length branches) h))
step_op (Proc function arguments words) h =
    with_words h arguments words (λ ws. asks (act.Proc (record { code = function; words = ws })) Nowhere h)
step_op (Task function arguments words) h =
    with_words h arguments words (λ ws. asks (act.Task (record { code = function; words = ws })) Nowhere h)
step_op (Par functions arguments words records) h =
    with_words h arguments words (λ ws. asks (act.Par (map (λ f. record { code = f; words = ws }) functions)) Nowhere (forgetting records (3 * length functions) h))
step_op (PutByte byte) h = composes (byte ∷ []) h
step_op (PutCharacter from) h = with_slot h from (λ w. composes (w % 256 ∷ []) h)
step_op (PutDecimal signed from) h = with_slot h from (λ w. composes (decimal_of signed 32 w) h)
step_op (PutLongDecimal signed from) h = with_pair h from (λ n. composes (decimal_of signed 64 n) h)
step_op (PutHex from) h = with_slot h from (λ w. composes (digits 16 false w) h)
step_op (PutLongHex from) h = with_pair h from (λ n. composes (digits 16 false n) h)
step_op (PutText at) h = with_slot h at (λ a. scans at a h)
step_op Print h = asks (act.Print h.text) Nowhere (record h { text = [] })
step_op (Terminate status) h = with_slot h status (λ w. asks (act.Terminate (cast_signed w32 w)) Nowhere h)
step_op (Trap_ t) h = traps t h

-- ---- one step of a task

abbrev pub here_at : Ir → Control → Frame → List Frame → (line : ℕ) → List ℕ → Here
here_at ir c f below line privates = record {
  ir = ir;
  line = line;
  function = f.function;
  pc = f.pc;
  unit = c.unit;
  slots = f.slots;
  below = below;
  text = c.text;
  last = c.last;
  privates = privates;
}

abbrev pub step_at : Ir → Control → Frame → List Frame → Option Operation → List ℕ → Next
step_at ir c f below (Some o) privates = step_op o.op (here_at ir c f below o.line privates)
step_at ir c f below None privates = Asks (act.Trap trap.Illegal) 0 c privates

-- a task without frames has ended
abbrev pub step_frames : Ir → Control → List Frame → List ℕ → Next
step_frames ir c [] privates = Asks act.End 0 c privates
step_frames ir c (f ∷ below) privates = step_at ir c f below (operation_at ir f.function f.pc) privates

abbrev pub frame_stack : Ir → Frame → ℕ
frame_stack ir f = stack_of (function_at ir f.function)

-- a function begins above the frames, or the task traps in the line of its name
abbrev pub enters : Ir → Control → Entering → List ℕ → Next
enters ir c e privates =
    if nat_lt most_slots (sum_by (frame_stack ir) c.frames + stack_of (function_at ir e.function))
    then Asks (act.Trap trap.Stack) (line_of (function_at ir e.function)) c privates
    else Moves (record c { entering = None; frames = begun ir e.function e.arguments ∷ c.frames }) privates

abbrev pub step_entering : Ir → Control → Option Entering → List ℕ → Next
step_entering ir c (Some e) privates = enters ir c e privates
step_entering ir c None privates = step_frames ir c c.frames privates

abbrev pub private_step : Ir → Control → List ℕ → Next
private_step ir c privates = step_entering ir c c.entering privates
