-- The operations of an expression are in one line if those of its parts are: form by form.
use Rattle.std.proofs.Common.{ℕ, ◌+◌, ◌-◌, ◌*◌, ◌%◌, ◌^◌, Bool, true, false, if◌then◌else◌, List, [], ◌∷◌, ◌++◌, length, Option, Some, None}
use Rattle.std.specs.Prelude.{◌==◌, ◌&&◌, not, slice_get}
use Rattle.al_base.specs.declared.arith.Kind.{Kind}
use Rattle.al_typed.specs.declared.ty.Ty.{Ty, Integer, Tuple'}
use Rattle.al_typed.specs.declared.expression.UnaryOp.{UnaryOp}
use Rattle.al_typed.specs.declared.expression.UnaryOp.TheVariants as unary
use Rattle.al_typed.specs.declared.expression.BinaryOp.{BinaryOp}
use Rattle.al_typed.specs.declared.expression.Logic.{Logic}
use Rattle.al_typed.specs.declared.expression.Logic.TheVariants as logic
use Rattle.al_typed.specs.declared.expression.Movement.{Movement}
use Rattle.al_typed.specs.declared.expression.Movement.TheVariants as movement
use Rattle.al_typed.specs.Layout.{member}
use Rattle.al_meaning.specs.Words.{integer_words, member_units}
use Rattle.al_meaning.specs.Shown.{kind_of}
use Rattle.al_meaning.specs.Here.{pointee}
use Rattle.al_meaning.specs.Places.{function_at, global_place, locals_of, private_place}
use Rattle.al_meaning.specs.Evaluate.{is_private_global, is_shared_local}
use Rattle.al_ir.specs.declared.ir.Operation.{Operation}
use Rattle.al_ir.specs.declared.op.Op.TheVariants as op
use Rattle.al_lower_code.specs.Homes.{Spot, block_home, local_home, offset_in, operation, size, units, words}
use Rattle.al_lower_code.specs.Moving.{Stored, Slotted, Kept, address_code, constants, home_of, read_code, settles}
use Rattle.al_lower_code.specs.Operators.{all_stay, compares, convert_parts, is_long, is_swapped, keeps_bits, operator, operator_by, skip_if_zero, step_bytes}
use Rattle.al_lower_code.specs.Coded.{Aimed, Coded, Given, Placed, Row, constant_coded, first_code, first_slot, folded, operand_code, operand_slot, plain, valued}
use Rattle.al_lower_code.specs.Values.{address_coded, advance_coded, and_coded, binary_coded, binary_value, complement_coded, constant_right, converted_coded, count_first_coded, difference_coded, element_by, element_placed, global_placed, iterator_coded, less_than_constant, load_coded, local_placed, logical_coded, member_coded, member_value, movement_coded, negation_coded, no_row, or_coded, outer_placed, pair_code, placed_always, pointed_placed, row_with, sequence_coded, skip_unless, truth_of, tuple_coded, unary_coded}
use Rattle.al_lower_bounds.proofs.Pieces.{address_at, AreAt, chosen, constants_at, convert_parts_at, either, extracts_at, joined, more, moves_at, negation_at, none, one, read_at, settles_at, skip_if_set_at, skip_if_zero_at, truth_at}

module _ (s : Spot) where
  pub record InLine (c : Coded) : Type 0 where
    pub value : (dest to : ℕ) → AreAt s.line (c.value dest to)
    pub effect : (to : ℕ) → AreAt s.line (c.effect to)
    pub unless : (to count : ℕ) → AreAt s.line (c.unless to count)
    pub pointer : (lasting : Bool) (to : ℕ) → AreAt s.line (c.pointer lasting to)

  abbrev pub IsPlaced : Placed → Type 0
  IsPlaced pl = (lasting : Bool) (to : ℕ) → AreAt s.line (pl.code lasting to)

  pub record IsRow (r : Row) : Type 0 where
    pub values : (to : ℕ) → AreAt s.line (r.values to)
    pub effects : (to : ℕ) → AreAt s.line (r.effects to)

  abbrev pub IsGiven : Given → Type 0
  IsGiven g = (to : ℕ) → AreAt s.line (g.code to)

  abbrev pub IsSingle : Option Placed → Type 0
  IsSingle (Some pl) = IsPlaced pl
  IsSingle None = Unit {0}

  pub record IsAimed (a : Aimed) : Type 0 where
    pub single : IsSingle a.single
    pub code : (to : ℕ) → AreAt s.line (a.code to)
    pub save : (to from : ℕ) → AreAt s.line (a.save to from)

  -- ---- operands

  pub operand_at : (c : Coded) → InLine c → (to : ℕ) → AreAt s.line (operand_code c to)
  operand_at c h to = either c.stands (λ home. []) (c.value to to) (λ home. none) (h.value to to)

  first_at : (c next : Coded) → InLine c → (to : ℕ) → AreAt s.line (first_code c next to)
  first_at c next h to = chosen next.keeps (operand_at c h to) (h.value to to)

  pub pair_at : (n : ℕ) (left right : Coded) → InLine left → InLine right → (to : ℕ) → AreAt s.line (pair_code n left right to)
  pair_at n left right l r to = joined (first_code left right to) (first_at left right l to) (operand_at right r (to + n))

  -- ---- common forms

  pub plain_at : (t : Ty) (stands : Option ℕ) (keeps is_truth : Bool) (value : (dest to : ℕ) → List Operation) → ((dest to : ℕ) → AreAt s.line (value dest to)) → InLine (plain s t stands keeps is_truth value)
  plain_at t stands keeps is_truth value h = record {
    value = h;
    effect = λ to. either stands (λ home. []) (value to to) (λ home. none) (h to to);
    unless = λ to count. either stands (λ home. skip_if_zero s (words s t) home to count) (value to to ++ skip_if_zero s (words s t) to to count) (λ home. skip_if_zero_at s (words s t) home to count) (joined (value to to) (h to to) (skip_if_zero_at s (words s t) to to count));
    pointer = λ lasting to. chosen lasting (h to to) (either stands (λ home. []) (value to to) (λ home. none) (h to to));
  }

  pub constant_at : (t : Ty) (bits : ℕ) → InLine (constant_coded s t bits)
  constant_at t bits =
      let value : (dest to : ℕ) → List Operation = λ dest to. constants s.line dest (integer_words (kind_of t) bits) in
      let p = plain_at t None true false value (λ dest to. constants_at s.line dest (integer_words (kind_of t) bits)) in
      record { value = p.value; effect = λ to. none; unless = λ to count. chosen (bits == 0) one none; pointer = p.pointer }

  pub folded_at : (t : Ty) (o : Option ℕ) (c : Coded) → InLine c → InLine (folded s t o c)
  folded_at t (Some bits) c h = constant_at t bits
  folded_at t None c h = h

  -- ---- places

  pub local_at : (number : ℕ) → IsPlaced (local_placed s number)
  local_at number lasting to = on (is_shared_local (slice_get (locals_of (function_at s.program s.function)) number))
    where
      on : (b : Bool) → AreAt s.line ((if b then placed_always (Stored (block_home s.program s.function) (offset_in s.program s.function number)) else placed_always (Slotted (local_home s.program s.function number))).code lasting to)
      on true = none
      on false = none

  pub outer_at : (around number : ℕ) → IsPlaced (outer_placed s around number)
  outer_at around number lasting to = none

  pub global_at : (number : ℕ) → IsPlaced (global_placed s number)
  global_at number lasting to = on (is_private_global (slice_get s.program.globals number))
    where
      on : (b : Bool) → AreAt s.line ((if b then placed_always (Kept (private_place s.program number)) else record { keeps = true; code = λ lasting to. operation s.line (op.Constant to (global_place s.program number)) ∷ []; at = λ lasting to. Stored to 0 }).code lasting to)
      on true = none
      on false = one

  pub pointed_at : (offset : ℕ) (c : Coded) → InLine c → IsPlaced (pointed_placed offset c)
  pointed_at offset c h lasting to = h.pointer lasting to

  element_by_at : (size : ℕ) (base index : Coded) → InLine base → InLine index → IsPlaced (element_by s size base index)
  element_by_at size base index b i lasting to =
      let last = not index.keeps in
      joined (base.pointer last to) (b.pointer last to)
      (joined (settles s (base.leads last to) to) (settles_at s (base.leads last to) to)
      (joined (operand_code index (to + 1)) (operand_at index i (to + 1)) one))

  pub element_at : (size : ℕ) (base index : Coded) → InLine base → InLine index → IsPlaced (element_placed s size base index)
  element_at size base index b i = on index.known
    where
      on : (o : Option ℕ) → IsPlaced (elim o [ Some n ↦ pointed_placed (n * size % 2 ^ 32) base | None ↦ element_by s size base index ])
      on (Some n) = pointed_at (n * size % 2 ^ 32) base b
      on None = element_by_at size base index b i

  -- ---- values and addresses of places

  pub load_at : (t : Ty) (pl : Placed) → IsPlaced pl → InLine (load_coded s t pl)
  load_at t pl h =
      let n = words s t in
      plain_at t (home_of (pl.at false 0)) pl.keeps false (λ dest to. pl.code false (to + n) ++ read_code s t (pl.at false (to + n)) dest)
      (λ dest to. joined (pl.code false (to + n)) (h false (to + n)) (read_at s t (pl.at false (to + n)) dest))

  pub of_address_at : (t : Ty) (pl : Placed) → IsPlaced pl → InLine (address_coded s t pl)
  of_address_at t pl h =
      let p = plain_at t None pl.keeps false (λ dest to. pl.code false to ++ address_code s (pl.at false to) dest)
      (λ dest to. joined (pl.code false to) (h false to) (address_at s (pl.at false to) dest)) in
      record { value = p.value; effect = p.effect; unless = p.unless; pointer = h }

  pub iterator_at : (t : Ty) (number : ℕ) → InLine (iterator_coded s t number)
  iterator_at t number = plain_at t (Some (s.turns + number)) true false (λ dest to. operation s.line (op.Copy dest (s.turns + number)) ∷ []) (λ dest to. one)

  -- ---- operators

  less_at : (t : Ty) (k : Kind) (bits : ℕ) (c : Coded) → InLine c → InLine (less_than_constant s t k bits c)
  less_at t k bits c h =
      let n = words s t in
      plain_at t None c.keeps false _
      (λ dest to. joined (operand_code c to) (operand_at c h to) (joined (constants s.line (to + n) (integer_words k bits)) (constants_at s.line (to + n) (integer_words k bits)) one))

  complement_at : (t : Ty) (k : Kind) (c : Coded) → InLine c → InLine (complement_coded s t k c)
  complement_at t k c h = on (is_long k)
    where
      on : (b : Bool) → InLine (if b then less_than_constant s t k (2 ^ 64 - 1) c else valued s t c.keeps (λ dest to. operand_code c to ++ operation s.line (op.Complement dest (operand_slot c to)) ∷ []))
      on true = less_at t k (2 ^ 64 - 1) c h
      on false = plain_at t None c.keeps false _ (λ dest to. joined (operand_code c to) (operand_at c h to) one)

  pub unary_at : (t : Ty) (how : UnaryOp) (c : Coded) → InLine c → InLine (unary_coded s t how c)
  unary_at t unary.Plus c h = h
  unary_at t unary.Minus c h = less_at t (kind_of t) 0 c h
  unary_at t unary.Complement c h = complement_at t (kind_of t) c h

  pub not_at : (t : Ty) (n : ℕ) (c : Coded) → InLine c → InLine (negation_coded s t n c)
  not_at t n c h =
      let p = plain_at t None c.keeps true _ (λ dest to. joined (operand_code c to) (operand_at c h to) (negation_at s n dest (operand_slot c to) to)) in
      record { value = p.value; effect = p.effect; unless = λ to count. joined (operand_code c to) (operand_at c h to) (skip_if_set_at s n (operand_slot c to) to count); pointer = p.pointer }

  binary_value_at : (how : BinaryOp) (k : Kind) (n : ℕ) (left right : Coded) → InLine left → InLine right → (dest to : ℕ) → AreAt s.line (binary_value s how k n left right dest to)
  binary_value_at how k n left right l r dest to =
      either (constant_right how k right) (λ bits. operand_code left to ++ operation s.line (operator_by how k dest (operand_slot left to) bits) ∷ []) (pair_code n left right to ++ operation s.line (operator how k dest (first_slot left right to) (operand_slot right (to + n))) ∷ [])
      (λ bits. joined (operand_code left to) (operand_at left l to) one) (joined (pair_code n left right to) (pair_at n left right l r to) one)

  pub binary_at : (t : Ty) (how : BinaryOp) (k : Kind) (n : ℕ) (left right : Coded) → InLine left → InLine right → InLine (binary_coded s t how k n left right)
  binary_at t how k n left right l r = on (compares how && not (is_long k))
    where
      on : (b : Bool) → InLine (if b then record (plain s t None (left.keeps && right.keeps) (compares how) (binary_value s how k n left right)) { unless = λ to count. pair_code n left right to ++ skip_unless s how k (first_slot left right to) (operand_slot right (to + n)) count } else plain s t None (left.keeps && right.keeps) (compares how) (binary_value s how k n left right))
      on true = record {
        value = binary_value_at how k n left right l r;
        effect = λ to. binary_value_at how k n left right l r to to;
        unless = λ to count. joined (pair_code n left right to) (pair_at n left right l r to) (chosen (is_swapped how) one one);
        pointer = λ lasting to. chosen lasting (binary_value_at how k n left right l r to to) (binary_value_at how k n left right l r to to);
      }
      on false = plain_at t None (left.keeps && right.keeps) (compares how) (binary_value s how k n left right) (binary_value_at how k n left right l r)

  truth_of_at : (n : ℕ) (c : Coded) → InLine c → (dest to : ℕ) → AreAt s.line (truth_of s n c dest to)
  truth_of_at n c h dest to = chosen c.is_truth (h.value dest to) (joined (operand_code c to) (operand_at c h to) (truth_at s n dest (operand_slot c to)))

  and_at : (t : Ty) (n : ℕ) (left right : Coded) → InLine left → InLine right → InLine (and_coded s t n left right)
  and_at t n left right l r =
      let p = plain_at t None (left.keeps && right.keeps) true _ (λ dest to. joined (left.unless to (length (truth_of s n right dest to) + 1)) (l.unless to (length (truth_of s n right dest to) + 1)) (joined (truth_of s n right dest to) (truth_of_at n right r dest to) (more one))) in
      record { value = p.value; effect = p.effect; unless = λ to count. joined (left.unless to (length (right.unless to count) + count)) (l.unless to (length (right.unless to count) + count)) (r.unless to count); pointer = p.pointer }

  or_at : (t : Ty) (n : ℕ) (left right : Coded) → InLine left → InLine right → InLine (or_coded s t n left right)
  or_at t n left right l r =
      let p = plain_at t None (left.keeps && right.keeps) true _ (λ dest to. joined (left.unless to 2) (l.unless to 2) (more (more (truth_of_at n right r dest to)))) in
      record { value = p.value; effect = p.effect; unless = λ to count. joined (left.unless to 1) (l.unless to 1) (more (r.unless to count)); pointer = p.pointer }

  pub logical_at : (t : Ty) (how : Logic) (n : ℕ) (left right : Coded) → InLine left → InLine right → InLine (logical_coded s t how n left right)
  logical_at t logic.And n left right l r = and_at t n left right l r
  logical_at t logic.Or n left right l r = or_at t n left right l r

  -- ---- pointers

  advance_at : (t : Ty) (back : Bool) (size : ℕ) (pointer count : Coded) → InLine pointer → InLine count → InLine (advance_coded s t back size pointer count)
  advance_at t back size pointer count p c =
      plain_at t None (pointer.keeps && count.keeps) false _
      (λ dest to. either count.known (λ n. operand_code pointer to ++ operation s.line (op.Offset dest (operand_slot pointer to) (step_bytes back size n)) ∷ []) (pair_code 1 pointer count to ++ operation s.line (op.Advance back size dest (first_slot pointer count to) (operand_slot count (to + 1))) ∷ [])
      (λ n. joined (operand_code pointer to) (operand_at pointer p to) one) (joined (pair_code 1 pointer count to) (pair_at 1 pointer count p c to) one))

  count_first_at : (t : Ty) (size : ℕ) (pointer count : Coded) → InLine pointer → InLine count → InLine (count_first_coded s t size pointer count)
  count_first_at t size pointer count p c =
      plain_at t None (pointer.keeps && count.keeps) false _
      (λ dest to. either count.known (λ n. operand_code pointer to ++ operation s.line (op.Offset dest (operand_slot pointer to) (step_bytes false size n)) ∷ []) (pair_code 1 count pointer to ++ operation s.line (op.Advance false size dest (operand_slot pointer (to + 1)) (first_slot count pointer to)) ∷ [])
      (λ n. joined (operand_code pointer to) (operand_at pointer p to) one) (joined (pair_code 1 count pointer to) (pair_at 1 count pointer c p to) one))

  pub movement_at : (t : Ty) (how : Movement) (pointer count : Coded) → InLine pointer → InLine count → InLine (movement_coded s t how pointer count)
  movement_at t movement.Forward pointer count p c = advance_at t false (size s (pointee t)) pointer count p c
  movement_at t movement.CountFirst pointer count p c = count_first_at t (size s (pointee t)) pointer count p c
  movement_at t movement.Back pointer count p c = advance_at t true (size s (pointee t)) pointer count p c

  pub difference_at : (t : Ty) (size : ℕ) (left right : Coded) → InLine left → InLine right → InLine (difference_coded s t size left right)
  difference_at t size left right l r = plain_at t None (left.keeps && right.keeps) false _ (λ dest to. joined (pair_code 1 left right to) (pair_at 1 left right l r to) one)

  -- ---- conversions, tuples, members, sequences

  pub converted_at : (from into : Ty) (c : Coded) → InLine c → InLine (converted_coded s from into c)
  converted_at (Integer k) (Integer j) c h = on (keeps_bits k j)
    where
      on : (b : Bool) → InLine (if b then c else valued s (Integer j) c.keeps (λ dest to. operand_code c to ++ operation s.line (op.Convert k j dest (operand_slot c to)) ∷ []))
      on true = h
      on false = plain_at (Integer j) None c.keeps false _ (λ dest to. joined (operand_code c to) (operand_at c h to) one)
  converted_at (Tuple' m from) (Tuple' n into) c h = on (all_stay from into)
    where
      on : (b : Bool) → InLine (if b then c else valued s (Tuple' n into) c.keeps (λ dest to. let w = words s (Tuple' n into) in c.value (to + w) (to + w) ++ convert_parts s from into dest (to + w)))
      on true = h
      on false = plain_at (Tuple' n into) None c.keeps false _ (λ dest to. joined (c.value (to + words s (Tuple' n into)) (to + words s (Tuple' n into))) (h.value (to + words s (Tuple' n into)) (to + words s (Tuple' n into))) (convert_parts_at s from into dest (to + words s (Tuple' n into))))
  converted_at from into c h = h

  pub tuple_at : (t : Ty) (parts : Row) → IsRow parts → InLine (tuple_coded s t parts)
  tuple_at t parts h = plain_at t None parts.keeps false _ (λ dest to. joined (parts.values to) (h.values to) (moves_at s.line dest to (words s t)))

  pub member_value_at : (whole part : Ty) (path : List ℕ) (c : Coded) → InLine c → (dest to : ℕ) → AreAt s.line (member_value s whole part path c dest to)
  member_value_at whole part path c h dest to =
      let m = words s part in
      joined (c.value (to + m) (to + m)) (h.value (to + m) (to + m)) (extracts_at s.line dest (to + m) (units s whole) (member_units s.program.aggregates (member s.program.aggregates path whole)))

  pub member_at : (whole part : Ty) (path : List ℕ) (c : Coded) → InLine c → InLine (member_coded s whole part path c)
  member_at whole part path c h = plain_at part None c.keeps false (member_value s whole part path c) (member_value_at whole part path c h)

  pub sequence_at : (t : Ty) (first : Row) (last : Coded) → IsRow first → InLine last → InLine (sequence_coded s t first last)
  sequence_at t first last f l =
      let p = plain_at t None (first.keeps && last.keeps) false _ (λ dest to. joined (first.effects to) (f.effects to) (l.value dest to)) in
      record { value = p.value; effect = λ to. joined (first.effects to) (f.effects to) (l.effect to); unless = p.unless; pointer = p.pointer }

  pub no_row_at : IsRow no_row
  no_row_at = record { values = λ to. none; effects = λ to. none }

  pub row_with_at : (n : ℕ) (c : Coded) (rest : Row) → InLine c → IsRow rest → IsRow (row_with n c rest)
  row_with_at n c rest h r = record {
    values = λ to. joined (c.value to to) (h.value to to) (r.values (to + n));
    effects = λ to. joined (c.effect to) (h.effect to) (r.effects to);
  }
