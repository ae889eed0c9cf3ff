-- The operations of operators and conversions, by what they do to their parts.
use Rattle.std.proofs.Common.{◌≡◌, ℕ, ◌+◌, Bool, true, false, not, ◌&&◌, if◌then◌else◌, List, ◌++◌, Option, Some, None, refl, sym, ap, ◌∙◌}
use Rattle.std.proofs.lemmas.Bool.{true≢false}
use Rattle.al_base.specs.declared.arith.Kind.{Kind}
use Rattle.al_typed.specs.declared.ty.Ty.{Ty, Integer, Tuple'}
use Rattle.al_typed.specs.declared.expression.BinaryOp.{BinaryOp}
use Rattle.al_typed.specs.declared.expression.Movement.{Movement}
use Rattle.al_typed.specs.declared.expression.Movement.TheVariants as movement
use Rattle.al_typed.specs.declared.expression.Logic.{Logic}
use Rattle.al_typed.specs.declared.expression.Logic.TheVariants as logic
use Rattle.al_meaning.specs.Here.{pointee}
use Rattle.al_ir.specs.declared.ir.Operation.{Operation}
use Rattle.al_ir.specs.declared.op.Op.TheVariants.{Advance, Offset}
use Rattle.al_lower_code.specs.Homes.{Spot, size, here}
use Rattle.al_lower_code.specs.Operators.{is_long, compares, keeps_bits, stays, all_stay, step_bytes}
use Rattle.al_lower_code.specs.Coded.{Coded, operand_code, operand_slot, first_slot}
use Rattle.al_lower_code.specs.Values.{binary_value, binary_coded, logical_coded, movement_coded, pair_code, converted_coded}
use Rattle.al_lower_forms.specs.Same.{is_back}
use Rattle.al_lower_expr.specs.Computed.{compare_unless, logical_value, logical_unless, changed_value}

-- what is found either way
pub either_way : (b : Bool) (ops : List Operation) → (if b then ops else ops) ≡ ops
either_way true ops = refl
either_way false ops = refl

first_of_two : {A : Type 0} (field : Coded → A) (b : Bool) (x y : Coded) (a : A) → b ≡ true → field x ≡ a → field (if b then x else y) ≡ a
first_of_two field true x y a h q = q
first_of_two field false x y a h q = absurd (true≢false (sym h))

other_of : {A : Type 0} (field : Coded → A) (b : Bool) (x y : Coded) (a : A) → b ≡ false → field y ≡ a → field (if b then x else y) ≡ a
other_of field true x y a h q = absurd (true≢false h)
other_of field false x y a h q = q

each_way : {A : Type 0} (field other : Coded → A) (b : Bool) (x y : Coded) → field x ≡ other x → field y ≡ other y → field (if b then x else y) ≡ other (if b then x else y)
each_way field other true x y p q = p
each_way field other false x y p q = q

-- ---- operators

value_of_either : (b : Bool) (x y : Coded) (dest to : ℕ) (code : List Operation) → x.value dest to ≡ code → y.value dest to ≡ code → (if b then x else y).value dest to ≡ code
value_of_either true x y dest to code p q = p
value_of_either false x y dest to code p q = q

pub binary_values : (s : Spot) (t : Ty) (op : BinaryOp) (k : Kind) (n : ℕ) (l r : Coded) (dest to : ℕ) → (binary_coded s t op k n l r).value dest to ≡ binary_value s op k n l r dest to
binary_values s t op k n l r dest to = value_of_either (compares op && not (is_long k)) _ _ dest to _ refl refl

pub binary_compares : (s : Spot) (t : Ty) (op : BinaryOp) (k : Kind) (n : ℕ) (l r : Coded) (to count : ℕ) → (compares op && not (is_long k)) ≡ true
    → (binary_coded s t op k n l r).unless to count ≡ compare_unless s op k n l r to count
binary_compares s t op k n l r to count h = first_of_two (λ (x : Coded). x.unless to count) (compares op && not (is_long k)) _ _ _ h refl

pub logical_values : (s : Spot) (t : Ty) (op : Logic) (n : ℕ) (l r : Coded) (dest to : ℕ) → (logical_coded s t op n l r).value dest to ≡ logical_value s op n l r dest to
logical_values s t logic.And n l r dest to = refl
logical_values s t logic.Or n l r dest to = refl

pub logical_decides : (s : Spot) (t : Ty) (op : Logic) (n : ℕ) (l r : Coded) (to count : ℕ) → (logical_coded s t op n l r).unless to count ≡ logical_unless s op l r to count
logical_decides s t logic.And n l r to count = refl
logical_decides s t logic.Or n l r to count = refl

-- ---- conversions that change bits

pub converted_changes : (s : Spot) (from into : Ty) (c : Coded) (dest to : ℕ) → stays from into ≡ false → (converted_coded s from into c).value dest to ≡ changed_value s from into c dest to
converted_changes s (Integer k) (Integer j) c dest to h = other_of (λ (x : Coded). x.value dest to) (keeps_bits k j) c _ _ h refl
converted_changes s (Integer k) _ c dest to h = absurd (true≢false h)
converted_changes s (Tuple' l ts) (Tuple' m us) c dest to h = other_of (λ (x : Coded). x.value dest to) (all_stay ts us) c _ _ h refl
converted_changes s (Tuple' l ts) _ c dest to h = absurd (true≢false h)
converted_changes s _ _ c dest to h = absurd (true≢false h)

-- ---- pointers that move

-- by a count that is known
pub moves_known : (s : Spot) (t : Ty) (how : Movement) (p c : Coded) (dest to n : ℕ) → c.known ≡ Some n
    → operand_code p to ++ here s (Offset dest (operand_slot p to) (step_bytes (is_back how) (size s (pointee t)) n)) ≡ (movement_coded s t how p c).value dest to
moves_known s t movement.Forward p c dest to n h = sym (ap (λ (k : Option ℕ). elim k as (λ (_ : Option ℕ). List Operation) [ Some n ↦ operand_code p to ++ here s (Offset dest (operand_slot p to) (step_bytes false (size s (pointee t)) n)) | None ↦ pair_code 1 p c to ++ here s (Advance false (size s (pointee t)) dest (first_slot p c to) (operand_slot c (to + 1))) ]) h)
moves_known s t movement.CountFirst p c dest to n h = sym (ap (λ (k : Option ℕ). elim k as (λ (_ : Option ℕ). List Operation) [ Some n ↦ operand_code p to ++ here s (Offset dest (operand_slot p to) (step_bytes false (size s (pointee t)) n)) | None ↦ pair_code 1 c p to ++ here s (Advance false (size s (pointee t)) dest (operand_slot p (to + 1)) (first_slot c p to)) ]) h)
moves_known s t movement.Back p c dest to n h = sym (ap (λ (k : Option ℕ). elim k as (λ (_ : Option ℕ). List Operation) [ Some n ↦ operand_code p to ++ here s (Offset dest (operand_slot p to) (step_bytes true (size s (pointee t)) n)) | None ↦ pair_code 1 p c to ++ here s (Advance true (size s (pointee t)) dest (first_slot p c to) (operand_slot c (to + 1))) ]) h)

-- the operations of both, where it is not
abbrev pub moves_code : Spot → Ty → Movement → (pointer count : Coded) → (dest to : ℕ) → List Operation
moves_code s t movement.Forward p c dest to = pair_code 1 p c to ++ here s (Advance false (size s (pointee t)) dest (first_slot p c to) (operand_slot c (to + 1)))
moves_code s t movement.CountFirst p c dest to = pair_code 1 c p to ++ here s (Advance false (size s (pointee t)) dest (operand_slot p (to + 1)) (first_slot c p to))
moves_code s t movement.Back p c dest to = pair_code 1 p c to ++ here s (Advance true (size s (pointee t)) dest (first_slot p c to) (operand_slot c (to + 1)))

pub moves_unknown : (s : Spot) (t : Ty) (how : Movement) (p c : Coded) (dest to : ℕ) → c.known ≡ None → moves_code s t how p c dest to ≡ (movement_coded s t how p c).value dest to
moves_unknown s t movement.Forward p c dest to h = sym (ap (λ (k : Option ℕ). elim k as (λ (_ : Option ℕ). List Operation) [ Some n ↦ operand_code p to ++ here s (Offset dest (operand_slot p to) (step_bytes false (size s (pointee t)) n)) | None ↦ pair_code 1 p c to ++ here s (Advance false (size s (pointee t)) dest (first_slot p c to) (operand_slot c (to + 1))) ]) h)
moves_unknown s t movement.CountFirst p c dest to h = sym (ap (λ (k : Option ℕ). elim k as (λ (_ : Option ℕ). List Operation) [ Some n ↦ operand_code p to ++ here s (Offset dest (operand_slot p to) (step_bytes false (size s (pointee t)) n)) | None ↦ pair_code 1 c p to ++ here s (Advance false (size s (pointee t)) dest (operand_slot p (to + 1)) (first_slot c p to)) ]) h)
moves_unknown s t movement.Back p c dest to h = sym (ap (λ (k : Option ℕ). elim k as (λ (_ : Option ℕ). List Operation) [ Some n ↦ operand_code p to ++ here s (Offset dest (operand_slot p to) (step_bytes true (size s (pointee t)) n)) | None ↦ pair_code 1 p c to ++ here s (Advance true (size s (pointee t)) dest (first_slot p c to) (operand_slot c (to + 1))) ]) h)

-- ---- the same by what was found

pub known_by : (s : Spot) (t : Ty) (how : Movement) (p c : Coded) (dest to n bytes : ℕ) (back : Bool) → back ≡ is_back how → bytes ≡ size s (pointee t) → c.known ≡ Some n
    → operand_code p to ++ here s (Offset dest (operand_slot p to) (step_bytes back bytes n)) ≡ (movement_coded s t how p c).value dest to
known_by s t how p c dest to n bytes back b w h = rw (b, w) (moves_known s t how p c dest to n h)

pub unknown_by : (s : Spot) (t : Ty) (how arm : Movement) (p c : Coded) (dest to : ℕ) → how ≡ arm → c.known ≡ None
    → moves_code s t arm p c dest to ≡ (movement_coded s t how p c).value dest to
unknown_by s t how arm p c dest to is h = ap (λ (m : Movement). moves_code s t m p c dest to) (sym is) ∙ moves_unknown s t how p c dest to h

pub forward_by : (s : Spot) (t : Ty) (how : Movement) (p c : Coded) (dest to bytes : ℕ) → bytes ≡ size s (pointee t) → how ≡ movement.Forward → c.known ≡ None
    → pair_code 1 p c to ++ here s (Advance false bytes dest (first_slot p c to) (operand_slot c (to + 1))) ≡ (movement_coded s t how p c).value dest to
forward_by s t how p c dest to bytes w is h = rw w (unknown_by s t how movement.Forward p c dest to is h)

pub counted_by : (s : Spot) (t : Ty) (how : Movement) (p c : Coded) (dest to bytes : ℕ) → bytes ≡ size s (pointee t) → how ≡ movement.CountFirst → c.known ≡ None
    → pair_code 1 c p to ++ here s (Advance false bytes dest (operand_slot p (to + 1)) (first_slot c p to)) ≡ (movement_coded s t how p c).value dest to
counted_by s t how p c dest to bytes w is h = rw w (unknown_by s t how movement.CountFirst p c dest to is h)

pub back_by : (s : Spot) (t : Ty) (how : Movement) (p c : Coded) (dest to bytes : ℕ) → bytes ≡ size s (pointee t) → how ≡ movement.Back → c.known ≡ None
    → pair_code 1 p c to ++ here s (Advance true bytes dest (first_slot p c to) (operand_slot c (to + 1))) ≡ (movement_coded s t how p c).value dest to
back_by s t how p c dest to bytes w is h = rw w (unknown_by s t how movement.Back p c dest to is h)
