-- The operations of expressions that change variables, store, call, communicate or print, from those of their parts.
use Rattle.std.specs.Prelude.{ℕ, ◌+◌, ◌==◌, Bool, true, false, not, ◌&&◌, if◌then◌else◌, List, [], ◌∷◌, ◌++◌, Option, Some, None, unwrap_or}
use Rattle.al_base.specs.Arith.{width_of}
use Rattle.al_base.specs.declared.arith.Kind.{Kind}
use Rattle.al_typed.specs.declared.ty.Ty.{Ty}
use Rattle.al_typed.specs.declared.expression.Change.{Change}
use Rattle.al_typed.specs.declared.expression.Change.TheVariants as change
use Rattle.al_typed.specs.declared.expression.StepOp.{StepOp}
use Rattle.al_typed.specs.declared.expression.StepOp.TheVariants as step
use Rattle.al_typed.specs.declared.expression.Passed.{Passed}
use Rattle.al_typed.specs.declared.expression.Passed.TheVariants as passed
use Rattle.al_typed.specs.declared.expression.PrintPiece.{PrintPiece}
use Rattle.al_typed.specs.declared.expression.PrintPiece.TheVariants as print
use Rattle.al_meaning.specs.Shown.{kind_of}
use Rattle.al_meaning.specs.Here.{pointee}
use Rattle.al_meaning.specs.Evaluate.{goes_back}
use Rattle.al_ir.specs.declared.ir.Operation.{Operation}
use Rattle.al_ir.specs.declared.op.TalkBranch.{TalkBranch}
use Rattle.al_ir.specs.declared.op.Op.TheVariants.{Convert, Offset, Advance, Invoke, InvokePointer, CanRecv, CanSend, Talk, PutByte, PutCharacter, PutDecimal, PutLongDecimal, PutHex, PutLongHex, PutText, Print, Terminate}
use Rattle.al_lower_code.specs.Homes.{Spot, words, size, units, here}
use Rattle.al_lower_code.specs.Moving.{Where, home_of, address_code, copies, moves, zeros, results, trims, read_code, save_code, clear_code}
use Rattle.al_lower_code.specs.Operators.{is_long, operator, operator_by, step_bytes, step_code}
use Rattle.al_lower_code.specs.Coded.{Coded, Placed, Row, Given, Aimed, operand_slot, operand_code, first_slot, plain, valued}
use Rattle.al_lower_code.specs.Values.{constant_right, pair_code, member_value}

-- ---- targets

abbrev pub single_aimed : Spot → Ty → Placed → Aimed
single_aimed s t pl = record { single = Some pl; count = 1; code = λ to. pl.code true to; save = λ to from. save_code s t (pl.at true to) from }

abbrev pub no_aimed : Aimed
no_aimed = record { single = None; count = 0; code = λ to. []; save = λ to from. [] }

-- one more before the targets of a tuple, for a part of so many words
abbrev pub aimed_with : (words : ℕ) → Aimed → Aimed → Aimed
aimed_with n a rest = record {
  single = None;
  count = a.count + rest.count;
  code = λ to. a.code to ++ rest.code (to + a.count);
  save = λ to from. a.save to from ++ rest.save (to + a.count) (from + n);
}

-- ---- changes

-- An expression of a type that does this and then stands somewhere. Its value is copied only where it is wanted.
abbrev pub changing : Spot → Ty → (does : (to : ℕ) → List Operation) → (slot : (to : ℕ) → ℕ) → Coded
changing s t does slot =
    record (valued s t false (λ dest to. does to ++ moves s.line dest (slot to) (words s t))) { effect = does }

-- The place is found, then the value, which goes there: straight into a variable's slots.
abbrev pub assigns_one : Spot → Ty → Placed → Coded → (to : ℕ) → List Operation
assigns_one s t pl c to =
    let lasting = not c.keeps in
    pl.code lasting to ++ elim (home_of (pl.at lasting to)) [ Some home ↦ c.value home (to + 1) | None ↦ operand_code c (to + 1) ++ save_code s t (pl.at lasting to) (operand_slot c (to + 1)) ]

abbrev pub assigned_slot : Placed → Coded → (to : ℕ) → ℕ
assigned_slot pl c to = unwrap_or (home_of (pl.at (not c.keeps) to)) (operand_slot c (to + 1))

-- places first, one slot each, then the value, and then its parts into them
abbrev pub assigns_parts : Aimed → Coded → (to : ℕ) → List Operation
assigns_parts target c to =
    target.code to ++ (c.value (to + target.count) (to + target.count) ++ target.save to (to + target.count))

abbrev pub assign_coded : Spot → Ty → Aimed → Coded → Coded
assign_coded s t target c = elim target.single [ Some pl ↦ changing s t (assigns_one s t pl c) (assigned_slot pl c) | None ↦ changing s t (assigns_parts target c) (λ to. to + target.count) ]

-- ---- `op=`

-- the operator works on the type of the place as it is
abbrev pub is_direct : Ty → Change → Bool
is_direct t (change.Apply op k) = width_of (kind_of t) == width_of k
is_direct t (change.Move back) = true

-- the slots of the variable that is changed where it stands
abbrev pub changed_home : Ty → Change → Where → Option ℕ
changed_home t how at = if is_direct t how then home_of at else None

-- the old value as one of the operator's type, and the new one as one of the place's, where they stand
abbrev pub before_change : Spot → Ty → Change → (at : ℕ) → List Operation
before_change s t (change.Apply op k) at = if is_direct t (change.Apply op k) then [] else here s (Convert (kind_of t) k at at)
before_change s t (change.Move back) at = []

abbrev pub behind_change : Spot → Ty → Change → (at : ℕ) → List Operation
behind_change s t (change.Apply op k) at = if is_direct t (change.Apply op k) then [] else here s (Convert k (kind_of t) at at)
behind_change s t (change.Move back) at = []

-- the right side, and the operator
abbrev pub change_code : Spot → Ty → Change → Coded → (new old to : ℕ) → List Operation
change_code s t (change.Apply op k) c new old to = elim (constant_right op k c) [ Some bits ↦ here s (operator_by op k new old bits) | None ↦ operand_code c to ++ here s (operator op k new old (operand_slot c to)) ]
change_code s t (change.Move back) c new old to = elim c.known [ Some n ↦ here s (Offset new old (step_bytes back (size s (pointee t)) n)) | None ↦ operand_code c to ++ here s (Advance back (size s (pointee t)) new old (operand_slot c to)) ]

-- a variable is read where it stands, unless the right side may change it
abbrev pub updates_home : Spot → Ty → Change → Coded → (home to : ℕ) → List Operation
updates_home s t how c home to =
    if c.keeps then change_code s t how c home home (to + 3)
    else copies s.line (to + 1) home (words s t) ++ change_code s t how c home (to + 1) (to + 3)

-- any other place is read, and stored to
abbrev pub updates_place : Spot → Ty → Change → Coded → Where → (to : ℕ) → List Operation
updates_place s t how c at to =
    read_code s t at (to + 1) ++ (before_change s t how (to + 1) ++ (change_code s t how c (to + 1) (to + 1) (to + 3)
    ++ (behind_change s t how (to + 1) ++ save_code s t at (to + 1))))

abbrev pub updates : Spot → Ty → Placed → Change → Coded → (to : ℕ) → List Operation
updates s t pl how c to =
    let at = pl.at (not c.keeps) to in
    pl.code (not c.keeps) to ++ elim (changed_home t how at) [ Some home ↦ updates_home s t how c home to | None ↦ updates_place s t how c at to ]

abbrev pub updated_slot : Ty → Placed → Change → Coded → (to : ℕ) → ℕ
updated_slot t pl how c to = unwrap_or (changed_home t how (pl.at (not c.keeps) to)) (to + 1)

abbrev pub update_coded : Spot → Ty → Placed → Change → Coded → Coded
update_coded s t pl how c = changing s t (updates s t pl how c) (updated_slot t pl how c)

-- ---- `++`, `--`, zerox

abbrev pub gives_old : StepOp → Bool
gives_old step.PreIncrement = false
gives_old step.PreDecrement = false
gives_old step.PostIncrement = true
gives_old step.PostDecrement = true

-- in a variable's slots; and in storage, where the new value stands in the slots of the old one, or behind them
abbrev pub steps_home : Spot → Ty → StepOp → (home to : ℕ) → List Operation
steps_home s t op home to = step_code s (goes_back op) t home home to

abbrev pub steps_place : Spot → Ty → StepOp → Placed → (new to : ℕ) → List Operation
steps_place s t op pl new to =
    let at = pl.at false to in
    pl.code false to ++ (read_code s t at (to + 1) ++ (step_code s (goes_back op) t new (to + 1) (to + 1 + words s t) ++ save_code s t at new))

abbrev pub steps_variable : Spot → Ty → StepOp → (home : ℕ) → Coded
steps_variable s t op home =
    let n = words s t in
    if gives_old op
    then record (valued s t false (λ dest to. copies s.line to home n ++ (steps_home s t op home (to + n) ++ moves s.line dest to n))) { effect = steps_home s t op home }
    else changing s t (steps_home s t op home) (λ to. home)

abbrev pub stepped_coded : Spot → Ty → StepOp → Placed → Coded
stepped_coded s t op pl =
    let n = words s t in
    elim (home_of (pl.at false 0)) [ Some home ↦ steps_variable s t op home | None ↦ changing s t (λ to. steps_place s t op pl (if gives_old op then to + 1 + n else to + 1) to) (λ to. to + 1) ]

abbrev pub clears_place : Spot → Ty → Placed → (to : ℕ) → List Operation
clears_place s t pl to =
    let at = pl.at false to in
    pl.code false to ++ (read_code s t at (to + 1) ++ clear_code s t at (to + 1 + words s t))

abbrev pub clears_variable : Spot → Ty → (home : ℕ) → Coded
clears_variable s t home =
    let n = words s t in
    record (valued s t false (λ dest to. copies s.line to home n ++ (zeros s.line home n ++ moves s.line dest to n))) { effect = λ to. zeros s.line home n }

abbrev pub zerox_coded : Spot → Ty → Placed → Coded
zerox_coded s t pl = elim (home_of (pl.at false 0)) [ Some home ↦ clears_variable s t home | None ↦ changing s t (clears_place s t pl) (λ to. to + 1) ]

-- ---- calls

abbrev pub no_object : Given
no_object = record { words = 0; keeps = true; code = λ to. [] }

-- an object at a place: its address, or its value, which is of that type, is passed
abbrev pub object_at : Spot → Passed → Ty → Placed → Given
object_at s passed.Address t pl = record { words = 1; keeps = pl.keeps; code = λ to. pl.code false to ++ address_code s (pl.at false to) to }
object_at s passed.Value t pl =
    let n = words s t in
    record { words = n; keeps = pl.keeps; code = λ to. pl.code false (to + n) ++ read_code s t (pl.at false (to + n)) to }
object_at s passed.Nothing t pl = record { words = 0; keeps = pl.keeps; code = λ to. pl.code false to }

-- an object that is a member of a value
abbrev pub object_in : Spot → Passed → (whole part : Ty) → (path : List ℕ) → Coded → Given
object_in s passed.Value whole part path c = record { words = words s part; keeps = c.keeps; code = λ to. member_value s whole part path c to to }
object_in s how whole part path c = record { words = 0; keeps = c.keeps; code = c.effect }

-- the words of a call, one behind the other
abbrev pub arguments_code : Given → Row → (to : ℕ) → List Operation
arguments_code object arguments to = object.code to ++ arguments.values (to + object.words)

-- a void function leaves nothing
abbrev pub calling : Spot → Ty → (keeps : Bool) → (does : (to : ℕ) → List Operation) → Coded
calling s t keeps does =
    record (valued s t keeps (λ dest to. does to ++ results s.line dest 0 (words s t))) { effect = does }

abbrev pub call_coded : Spot → Ty → (function : ℕ) → Given → Row → Coded
call_coded s t function object arguments =
    calling s t (object.keeps && arguments.keeps) (λ to. arguments_code object arguments to ++ here s (Invoke function to))

abbrev pub call_pointer_coded : Spot → Ty → (class : ℕ) → Coded → Row → Coded
call_pointer_coded s t class pointer arguments =
    calling s t (pointer.keeps && arguments.keeps) (λ to. pointer.value to to ++ (arguments.values (to + 1) ++ here s (InvokePointer class to (to + 1))))

-- ---- print, terminate

abbrev pub put_decimal : Spot → Bool → Kind → (at : ℕ) → List Operation
put_decimal s signed k at = if is_long k then here s (PutLongDecimal signed at) else here s (PutDecimal signed at)

abbrev pub put_hex : Spot → Kind → (at : ℕ) → List Operation
put_hex s k at = if is_long k then here s (PutLongHex at) else here s (PutHex at)

-- the pieces of a format, whose arguments have these types and stand from `at` on
abbrev pub pieces_code : Spot → List PrintPiece → List Ty → (at : ℕ) → List Operation
pieces_code s [] ts at = here s Print
pieces_code s (print.Byte b ∷ rest) ts at = here s (PutByte b) ++ pieces_code s rest ts at
pieces_code s (print.Percent ∷ rest) ts at = here s (PutByte 37) ++ pieces_code s rest ts at
pieces_code s (print.Text ∷ rest) (t ∷ ts) at = here s (PutText at) ++ pieces_code s rest ts (at + words s t)
pieces_code s (print.Signed ∷ rest) (t ∷ ts) at = put_decimal s true (kind_of t) at ++ pieces_code s rest ts (at + words s t)
pieces_code s (print.Unsigned ∷ rest) (t ∷ ts) at = put_decimal s false (kind_of t) at ++ pieces_code s rest ts (at + words s t)
pieces_code s (print.Hexadecimal ∷ rest) (t ∷ ts) at = put_hex s (kind_of t) at ++ pieces_code s rest ts (at + words s t)
pieces_code s (print.Character ∷ rest) (t ∷ ts) at = here s (PutCharacter at) ++ pieces_code s rest ts (at + words s t)
pieces_code s (_ ∷ rest) [] at = []

abbrev pub print_coded : Spot → Ty → List PrintPiece → List Ty → Row → Coded
print_coded s t format ts arguments = valued s t arguments.keeps (λ dest to. arguments.values to ++ pieces_code s format ts to)

abbrev pub terminate_coded : Spot → Ty → Coded → Coded
terminate_coded s t c = valued s t c.keeps (λ dest to. operand_code c to ++ here s (Terminate (operand_slot c to)))

-- ---- channels

abbrev pub receives_from : (chan words : ℕ) → TalkBranch
receives_from chan n = record { chan = chan; words = n; send = None }

abbrev pub sends_to : (chan words from : ℕ) → TalkBranch
sends_to chan n from = record { chan = chan; words = n; send = Some from }

-- The channel, the branch that went, four slots for the record, and what was received, which then keeps the bytes of its units.
abbrev pub receive_coded : Spot → Ty → Coded → Coded
receive_coded s t chan =
    valued s t chan.keeps (λ dest to. operand_code chan to ++ (here s (Talk (receives_from (operand_slot chan to) (words s t) ∷ []) (to + 2) (to + 1) (to + 6)) ++ (trims s.line (to + 6) (units s t) ++ moves s.line dest (to + 6) (words s t))))

-- the channel, the value, the branch, and the record
abbrev pub send_coded : Spot → Ty → (value_type : Ty) → (chan c : Coded) → Coded
send_coded s t v chan c =
    valued s t (chan.keeps && c.keeps) (λ dest to. let branch = to + 1 + words s v in pair_code 1 chan c to ++ here s (Talk (sends_to (first_slot chan c to) (words s v) (operand_slot c (to + 1)) ∷ []) (branch + 1) branch branch))

abbrev pub can_receive_coded : Spot → Ty → Coded → Coded
can_receive_coded s t chan = plain s t None chan.keeps true (λ dest to. operand_code chan to ++ here s (CanRecv dest (operand_slot chan to)))

abbrev pub can_send_coded : Spot → Ty → Coded → Coded
can_send_coded s t chan = plain s t None chan.keeps true (λ dest to. operand_code chan to ++ here s (CanSend dest (operand_slot chan to)))
