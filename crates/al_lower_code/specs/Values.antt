-- The operations of expressions that only compute, and of places, from those of their parts.
use Rattle.std.specs.Prelude.{ℕ, ◌+◌, ◌-◌, ◌*◌, ◌%◌, ◌^◌, Bool, true, false, not, ◌&&◌, if◌then◌else◌, List, [], ◌∷◌, ◌++◌, length, Option, Some, None, slice_get, slice_index}
use Rattle.al_base.specs.Arith.{is_signed}
use Rattle.al_base.specs.declared.arith.Kind.{Kind}
use Rattle.al_base.specs.declared.arith.Op.TheVariants as arith
use Rattle.al_typed.specs.declared.ty.Ty.{Ty, Integer, Tuple'}
use Rattle.al_typed.specs.declared.expression.UnaryOp.{UnaryOp}
use Rattle.al_typed.specs.declared.expression.UnaryOp.TheVariants as unary
use Rattle.al_typed.specs.declared.expression.BinaryOp.{BinaryOp}
use Rattle.al_typed.specs.declared.expression.Logic.{Logic}
use Rattle.al_typed.specs.declared.expression.Logic.TheVariants as logic
use Rattle.al_typed.specs.declared.expression.Movement.{Movement}
use Rattle.al_typed.specs.declared.expression.Movement.TheVariants as movement
use Rattle.al_typed.specs.Layout.{member}
use Rattle.al_meaning.specs.Words.{integer_words, member_units}
use Rattle.al_meaning.specs.Shown.{kind_of}
use Rattle.al_meaning.specs.Places.{function_at, locals_of, global_place, private_place}
use Rattle.al_meaning.specs.Here.{pointee}
use Rattle.al_meaning.specs.Evaluate.{is_shared_local, is_private_global, round_of}
use Rattle.al_ir.specs.declared.ir.Operation.{Operation}
use Rattle.al_ir.specs.declared.op.Op.TheVariants.{Constant, Copy, Complement, Convert, Offset, Advance, Between, Skip, SkipUnless}
use Rattle.al_lower_code.specs.Homes.{Spot, words, size, units, operation, here, local_home, block_home, offset_in}
use Rattle.al_lower_code.specs.Moving.{Where, Stored, Slotted, Kept, moved_by, home_of, address_code, settles, settled, constants, moves, read_code, extracts}
use Rattle.al_lower_code.specs.Operators.{arith_of, is_swapped, compares, is_long, arithmetic, operator, operator_by, takes_constant, skip_if_set, truth_code, negation_code, keeps_bits, all_stay, convert_parts, step_bytes}
use Rattle.al_lower_code.specs.Coded.{Coded, Placed, Row, operand_slot, operand_code, first_slot, first_code, plain, valued}

-- ---- places

abbrev pub placed_always : Where → Placed
placed_always at = record { keeps = true; code = λ lasting to. []; at = λ lasting to. at }

abbrev pub local_placed : Spot → ℕ → Placed
local_placed s number =
    if is_shared_local (slice_get (locals_of (function_at s.program s.function)) number)
    then placed_always (Stored (block_home s.program s.function) (offset_in s.program s.function number))
    else placed_always (Slotted (local_home s.program s.function number))

-- the address of the block round it is what the branch was given
abbrev pub outer_placed : Spot → (around number : ℕ) → Placed
outer_placed s around number =
    placed_always (Stored around (offset_in s.program (slice_index (round_of (function_at s.program s.function)) around) number))

abbrev pub global_placed : Spot → ℕ → Placed
global_placed s number =
    if is_private_global (slice_get s.program.globals number) then placed_always (Kept (private_place s.program number))
    else record { keeps = true; code = λ lasting to. here s (Constant to (global_place s.program number)); at = λ lasting to. Stored to 0 }

-- where a pointer leads, so many bytes further on
abbrev pub pointed_placed : (offset : ℕ) → Coded → Placed
pointed_placed offset c = record { keeps = c.keeps; code = c.pointer; at = λ lasting to. moved_by offset (c.leads lasting to) }

abbrev pub member_placed : (offset : ℕ) → Placed → Placed
member_placed offset pl = record { keeps = pl.keeps; code = pl.code; at = λ lasting to. moved_by offset (pl.at lasting to) }

-- an element of so many bytes: the base stays while the index is found
abbrev pub element_by : Spot → (size : ℕ) → (base index : Coded) → Placed
element_by s size base index =
    let lasting = not index.keeps in
    record {
      keeps = base.keeps && index.keeps;
      code = λ _ to.
          base.pointer lasting to ++ (settles s (base.leads lasting to) to ++ (operand_code index (to + 1)
          ++ here s (Advance false size to (settled (base.leads lasting to) to) (operand_slot index (to + 1)))));
      at = λ _ to. Stored to 0;
    }

abbrev pub element_placed : Spot → (size : ℕ) → (base index : Coded) → Placed
element_placed s size base index =
    elim index.known [ Some n ↦ pointed_placed (n * size % 2 ^ 32) base | None ↦ element_by s size base index ]

-- ---- values and addresses of places

abbrev pub load_coded : Spot → Ty → Placed → Coded
load_coded s t pl =
    let n = words s t in
    plain s t (home_of (pl.at false 0)) pl.keeps false (λ dest to. pl.code false (to + n) ++ read_code s t (pl.at false (to + n)) dest)

-- an array as a value, and `&`
abbrev pub address_coded : Spot → Ty → Placed → Coded
address_coded s t pl =
    record (valued s t pl.keeps (λ dest to. pl.code false to ++ address_code s (pl.at false to) dest)) { pointer = pl.code; leads = pl.at }

abbrev pub iterator_coded : Spot → Ty → ℕ → Coded
iterator_coded s t number = plain s t (Some (s.turns + number)) true false (λ dest to. here s (Copy dest (s.turns + number)))

-- ---- operators on one value

-- a constant of the type, less the value
abbrev pub less_than_constant : Spot → Ty → Kind → (bits : ℕ) → Coded → Coded
less_than_constant s t k bits c =
    let n = words s t in
    valued s t c.keeps (λ dest to. operand_code c to ++ (constants s.line (to + n) (integer_words k bits) ++ here s (arithmetic k arith.Sub dest (to + n) (operand_slot c to))))

abbrev pub complement_coded : Spot → Ty → Kind → Coded → Coded
complement_coded s t k c =
    if is_long k then less_than_constant s t k (2 ^ 64 - 1) c
    else valued s t c.keeps (λ dest to. operand_code c to ++ here s (Complement dest (operand_slot c to)))

abbrev pub unary_coded : Spot → Ty → UnaryOp → Coded → Coded
unary_coded s t unary.Plus c = c
unary_coded s t unary.Minus c = less_than_constant s t (kind_of t) 0 c
unary_coded s t unary.Complement c = complement_coded s t (kind_of t) c

-- of a value of so many words
abbrev pub negation_coded : Spot → Ty → (words : ℕ) → Coded → Coded
negation_coded s t n c =
    record (plain s t None c.keeps true (λ dest to. operand_code c to ++ negation_code s n dest (operand_slot c to) to)) { unless = λ to count. operand_code c to ++ skip_if_set s n (operand_slot c to) to count }

-- ---- operators on two values

-- two values, the first of so many words
abbrev pub pair_code : (words : ℕ) → (left right : Coded) → (to : ℕ) → List Operation
pair_code n left right to = first_code left right to ++ operand_code right (to + n)

abbrev pub constant_right : BinaryOp → Kind → Coded → Option ℕ
constant_right op k right = elim right.known [ Some n ↦ if takes_constant op k n then Some n else None | None ↦ None ]

abbrev pub binary_value : Spot → BinaryOp → Kind → (words : ℕ) → (left right : Coded) → (dest to : ℕ) → List Operation
binary_value s op k n left right dest to = elim (constant_right op k right) [ Some bits ↦ operand_code left to ++ here s (operator_by op k dest (operand_slot left to) bits) | None ↦ pair_code n left right to ++ here s (operator op k dest (first_slot left right to) (operand_slot right (to + n))) ]

-- a comparison of words, and a jump where it does not hold
abbrev pub skip_unless : Spot → BinaryOp → Kind → (left right count : ℕ) → List Operation
skip_unless s op k left right count =
    if is_swapped op then here s (SkipUnless (arith_of op) (is_signed k) right left count) else here s (SkipUnless (arith_of op) (is_signed k) left right count)

abbrev pub binary_coded : Spot → Ty → BinaryOp → Kind → (words : ℕ) → (left right : Coded) → Coded
binary_coded s t op k n left right =
    let c = plain s t None (left.keeps && right.keeps) (compares op) (binary_value s op k n left right) in
    if compares op && not (is_long k)
    then record c { unless = λ to count. pair_code n left right to ++ skip_unless s op k (first_slot left right to) (operand_slot right (to + n)) count }
    else c

-- 0 or 1 for a value of so many words
abbrev pub truth_of : Spot → (words : ℕ) → Coded → (dest to : ℕ) → List Operation
truth_of s n c dest to = if c.is_truth then c.value dest to else operand_code c to ++ truth_code s n dest (operand_slot c to)

abbrev pub and_coded : Spot → Ty → (words : ℕ) → (left right : Coded) → Coded
and_coded s t n left right =
    record (plain s t None (left.keeps && right.keeps) true (λ dest to.
    let b = truth_of s n right dest to in
    left.unless to (length b + 1) ++ (b ++ operation s.line (Skip 1) ∷ operation s.line (Constant dest 0) ∷ [])))
    { unless = λ to count. let b = right.unless to count in left.unless to (length b + count) ++ b }

abbrev pub or_coded : Spot → Ty → (words : ℕ) → (left right : Coded) → Coded
or_coded s t n left right =
    record (plain s t None (left.keeps && right.keeps) true (λ dest to.
    let b = truth_of s n right dest to in
    left.unless to 2 ++ operation s.line (Constant dest 1) ∷ operation s.line (Skip (length b)) ∷ b))
    { unless = λ to count. let b = right.unless to count in left.unless to 1 ++ operation s.line (Skip (length b)) ∷ b }

-- the right side has so many words
abbrev pub logical_coded : Spot → Ty → Logic → (words : ℕ) → (left right : Coded) → Coded
logical_coded s t logic.And n left right = and_coded s t n left right
logical_coded s t logic.Or n left right = or_coded s t n left right

-- ---- pointers

abbrev pub advance_coded : Spot → Ty → (back : Bool) → (size : ℕ) → (pointer count : Coded) → Coded
advance_coded s t back size pointer count =
    valued s t (pointer.keeps && count.keeps) (λ dest to. elim count.known [ Some n ↦ operand_code pointer to ++ here s (Offset dest (operand_slot pointer to) (step_bytes back size n)) | None ↦ pair_code 1 pointer count to ++ here s (Advance back size dest (first_slot pointer count to) (operand_slot count (to + 1))) ])

-- the count is found first
abbrev pub count_first_coded : Spot → Ty → (size : ℕ) → (pointer count : Coded) → Coded
count_first_coded s t size pointer count =
    valued s t (pointer.keeps && count.keeps) (λ dest to. elim count.known [ Some n ↦ operand_code pointer to ++ here s (Offset dest (operand_slot pointer to) (step_bytes false size n)) | None ↦ pair_code 1 count pointer to ++ here s (Advance false size dest (operand_slot pointer (to + 1)) (first_slot count pointer to)) ])

abbrev pub movement_coded : Spot → Ty → Movement → (pointer count : Coded) → Coded
movement_coded s t movement.Forward pointer count = advance_coded s t false (size s (pointee t)) pointer count
movement_coded s t movement.CountFirst pointer count = count_first_coded s t (size s (pointee t)) pointer count
movement_coded s t movement.Back pointer count = advance_coded s t true (size s (pointee t)) pointer count

abbrev pub difference_coded : Spot → Ty → (size : ℕ) → (left right : Coded) → Coded
difference_coded s t size left right =
    valued s t (left.keeps && right.keeps) (λ dest to. pair_code 1 left right to ++ here s (Between size dest (first_slot left right to) (operand_slot right (to + 1))))

-- ---- conversions, tuples, members, sequences

-- a value of one type as one of another
abbrev pub converted_coded : Spot → (from into : Ty) → Coded → Coded
converted_coded s (Integer k) (Integer j) c =
    if keeps_bits k j then c else valued s (Integer j) c.keeps (λ dest to. operand_code c to ++ here s (Convert k j dest (operand_slot c to)))
converted_coded s (Tuple' m from) (Tuple' n into) c =
    if all_stay from into then c
    else valued s (Tuple' n into) c.keeps (λ dest to. let w = words s (Tuple' n into) in c.value (to + w) (to + w) ++ convert_parts s from into dest (to + w))
converted_coded s from into c = c

abbrev pub tuple_coded : Spot → Ty → Row → Coded
tuple_coded s t parts = valued s t parts.keeps (λ dest to. parts.values to ++ moves s.line dest to (words s t))

-- the member of a value of a type: the whole comes to stand behind the part
abbrev pub member_value : Spot → (whole part : Ty) → (path : List ℕ) → Coded → (dest to : ℕ) → List Operation
member_value s whole part path c dest to =
    let m = words s part in
    let rows = s.program.aggregates in
    c.value (to + m) (to + m) ++ extracts s.line dest (to + m) (units s whole) (member_units rows (member rows path whole))

abbrev pub member_coded : Spot → (whole part : Ty) → (path : List ℕ) → Coded → Coded
member_coded s whole part path c = valued s part c.keeps (member_value s whole part path c)

abbrev pub sequence_coded : Spot → Ty → Row → Coded → Coded
sequence_coded s t first last =
    record (valued s t (first.keeps && last.keeps) (λ dest to. first.effects to ++ last.value dest to)) { effect = λ to. first.effects to ++ last.effect to }

-- ---- rows

abbrev pub no_row : Row
no_row = record { keeps = true; values = λ to. []; effects = λ to. [] }

-- one more before them, of so many words
abbrev pub row_with : (words : ℕ) → Coded → Row → Row
row_with n c rest = record {
  keeps = c.keeps && rest.keeps;
  values = λ to. c.value to to ++ rest.values (to + n);
  effects = λ to. c.effect to ++ rest.effects to;
}
