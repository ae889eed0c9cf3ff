-- Operations that move, store and compute are in the line that they are made in.
use Rattle.std.proofs.Common.{◌≡◌, ℕ, zero, suc, ◌+◌, Bool, true, false, if◌then◌else◌, List, [], ◌∷◌, ◌++◌, Option, Some, None, refl}
use Rattle.std.specs.Prelude.{◌==◌}
use Rattle.std.specs.List.{AllByRecursion}
use Rattle.al_base.specs.Arith.{width_of}
use Rattle.al_base.specs.declared.arith.Kind.{Kind}
use Rattle.al_typed.specs.declared.layout.Unit.{Unit as StorageUnit}
use Rattle.al_typed.specs.declared.ty.Ty.{Ty, out-Ty, Integer, Tuple', Row_of-Ty, more_of-Ty}
use Rattle.al_typed.specs.declared.ty.Ty.TheOpen.{Ty-F}
use Rattle.al_ir.specs.declared.ir.Operation.{Operation}
use Rattle.al_ir.specs.declared.op.Op.{Op}
use Rattle.al_ir.specs.declared.op.Op.TheVariants.{Extract}
use Rattle.al_lower_code.specs.Homes.{Spot, operation, units, words}
use Rattle.al_lower_code.specs.Moving.{Stored, Slotted, Kept, Where, address_code, clear_by, clear_code, constants, copies, extracts, gets, layout_number, load_by, loads, moves, puts, puts_same, read_code, results, save_code, settles, store_by, stores, stores_same, trims, zeros}
use Rattle.al_lower_code.specs.Operators.{convert_code, convert_parts, is_long, negation_code, skip_if_set, skip_if_zero, step_at, step_code, step_integer, truth_code}

-- all operations are in that line
pub record AreAt (line : ℕ) (ops : List Operation) : Type 0 where
  pub each : AllByRecursion (λ (o : Operation). o.line ≡ line) ops

pub none : {line : ℕ} → AreAt line []
none = record { each = tt }

pub more : {line : ℕ} {o : Op} {ops : List Operation} → AreAt line ops → AreAt line (operation line o ∷ ops)
more h = record { each = (refl, h.each) }

pub one : {line : ℕ} {o : Op} → AreAt line (operation line o ∷ [])
one = record { each = (refl, tt) }

all_both : (line : ℕ) (xs ys : List Operation) → AllByRecursion (λ (o : Operation). o.line ≡ line) xs → AllByRecursion (λ (o : Operation). o.line ≡ line) ys → AllByRecursion (λ (o : Operation). o.line ≡ line) (xs ++ ys)
all_both line [] ys h k = k
all_both line (x ∷ xs) ys h k = (h.0, all_both line xs ys h.1 k)

pub joined : {line : ℕ} (xs : List Operation) {ys : List Operation} → AreAt line xs → AreAt line ys → AreAt line (xs ++ ys)
joined {line} xs {ys} h k = record { each = all_both line xs ys h.each k.each }

pub chosen : {line : ℕ} (b : Bool) {xs ys : List Operation} → AreAt line xs → AreAt line ys → AreAt line (if b then xs else ys)
chosen true h k = h
chosen false h k = k

pub either : {A : Type 0} {line : ℕ} (o : Option A) (f : A → List Operation) (ops : List Operation) → ((a : A) → AreAt line (f a)) → AreAt line ops → AreAt line (elim o [ Some a ↦ f a | None ↦ ops ])
either (Some a) f ops h k = h a
either None f ops h k = k

-- ---- several words

pub constants_at : (line to : ℕ) (ws : List ℕ) → AreAt line (constants line to ws)
constants_at line to [] = none
constants_at line to (w ∷ ws) = (more (constants_at line (to + 1) ws))

pub copies_at : (line to from n : ℕ) → AreAt line (copies line to from n)
copies_at line to from zero = none
copies_at line to from (suc n) = (more (copies_at line (to + 1) (from + 1) n))

pub moves_at : (line to from n : ℕ) → AreAt line (moves line to from n)
moves_at line to from n = chosen (to == from) none (copies_at line to from n)

pub zeros_at : (line to n : ℕ) → AreAt line (zeros line to n)
zeros_at line to n = chosen (n == 0) none one

pub results_at : (line to word n : ℕ) → AreAt line (results line to word n)
results_at line to word zero = none
results_at line to word (suc n) = (more (results_at line (to + 1) (word + 1) n))

pub trims_at : (line at : ℕ) (us : List StorageUnit) → AreAt line (trims line at us)
trims_at line at [] = none
trims_at line at (u ∷ us) = on (u.size == 4) (trims_at line (at + 1) us)
  where
    on : (b : Bool) → AreAt line (trims line (at + 1) us) → AreAt line ((if b then [] else operation line (Extract at at 0 u.size) ∷ []) ++ trims line (at + 1) us)
    on true h = h
    on false h = (more h)

gets_at : (line to place n : ℕ) → AreAt line (gets line to place n)
gets_at line to place zero = none
gets_at line to place (suc n) = (more (gets_at line (to + 1) (place + 1) n))

puts_at : (line place from n : ℕ) → AreAt line (puts line place from n)
puts_at line place from zero = none
puts_at line place from (suc n) = (more (puts_at line (place + 1) (from + 1) n))

puts_same_at : (line place from n : ℕ) → AreAt line (puts_same line place from n)
puts_same_at line place from zero = none
puts_same_at line place from (suc n) = (more (puts_same_at line (place + 1) from n))

loads_at : (line to slot offset : ℕ) (us : List StorageUnit) → AreAt line (loads line to slot offset us)
loads_at line to slot offset [] = none
loads_at line to slot offset (u ∷ us) = (more (loads_at line (to + 1) slot offset us))

stores_at : (line slot offset from : ℕ) (us : List StorageUnit) → AreAt line (stores line slot offset from us)
stores_at line slot offset from [] = none
stores_at line slot offset from (u ∷ us) = (more (stores_at line slot offset (from + 1) us))

stores_same_at : (line slot offset from : ℕ) (us : List StorageUnit) → AreAt line (stores_same line slot offset from us)
stores_same_at line slot offset from [] = none
stores_same_at line slot offset from (u ∷ us) = (more (stores_same_at line slot offset from us))

pub extracts_at : (line to from : ℕ) (whole part : List StorageUnit) → AreAt line (extracts line to from whole part)
extracts_at line to from whole [] = none
extracts_at line to from whole (u ∷ us) = (more (extracts_at line (to + 1) from whole us))

-- ---- places

module _ (s : Spot) where
  pub address_at : (w : Where) (to : ℕ) → AreAt s.line (address_code s w to)
  address_at (Stored slot offset) to = one
  address_at (Slotted home) to = none
  address_at (Kept place) to = none

  pub settles_at : (w : Where) (to : ℕ) → AreAt s.line (settles s w to)
  settles_at (Stored slot offset) to = chosen (offset == 0) none one
  settles_at (Slotted home) to = none
  settles_at (Kept place) to = none

  load_by_at : (o : Option ℕ) (t : Ty) (to slot offset : ℕ) → AreAt s.line (load_by s o t to slot offset)
  load_by_at (Some layout) t to slot offset = one
  load_by_at None t to slot offset = loads_at s.line to slot offset (units s t)

  pub store_by_at : (o : Option ℕ) (t : Ty) (slot offset from : ℕ) → AreAt s.line (store_by s o t slot offset from)
  store_by_at (Some layout) t slot offset from = one
  store_by_at None t slot offset from = stores_at s.line slot offset from (units s t)

  clear_by_at : (o : Option ℕ) (t : Ty) (slot offset free : ℕ) → AreAt s.line (clear_by s o t slot offset free)
  clear_by_at (Some layout) t slot offset free = one
  clear_by_at None t slot offset free = (more (stores_same_at s.line slot offset free (units s t)))

  pub read_at : (t : Ty) (w : Where) (to : ℕ) → AreAt s.line (read_code s t w to)
  read_at t (Stored slot offset) to = load_by_at (layout_number s t) t to slot offset
  read_at t (Slotted home) to = moves_at s.line to home (words s t)
  read_at t (Kept place) to = gets_at s.line to place (words s t)

  pub save_at : (t : Ty) (w : Where) (from : ℕ) → AreAt s.line (save_code s t w from)
  save_at t (Stored slot offset) from = store_by_at (layout_number s t) t slot offset from
  save_at t (Slotted home) from = moves_at s.line home from (words s t)
  save_at t (Kept place) from = puts_at s.line place from (words s t)

  pub clear_at : (t : Ty) (w : Where) (free : ℕ) → AreAt s.line (clear_code s t w free)
  clear_at t (Stored slot offset) free = clear_by_at (layout_number s t) t slot offset free
  clear_at t (Slotted home) free = zeros_at s.line home (words s t)
  clear_at t (Kept place) free = (more (puts_same_at s.line place free (words s t)))

  -- ---- conditions, conversions, steps

  pub skip_if_zero_at : (n at free count : ℕ) → AreAt s.line (skip_if_zero s n at free count)
  skip_if_zero_at n at free count = chosen (n == 2) (more one) one

  pub skip_if_set_at : (n at free count : ℕ) → AreAt s.line (skip_if_set s n at free count)
  skip_if_set_at n at free count = chosen (n == 2) (more one) one

  pub truth_at : (n to at : ℕ) → AreAt s.line (truth_code s n to at)
  truth_at n to at = chosen (n == 2) one (more one)

  pub negation_at : (n to at free : ℕ) → AreAt s.line (negation_code s n to at free)
  negation_at n to at free = chosen (n == 2) (more one) one

  mutual
    pub convert_at : (from into : Ty) (to at : ℕ) → AreAt s.line (convert_code s from into to at)
    convert_at (Integer k) (Integer j) to at = one
    convert_at (Tuple' m from) (Tuple' n into) to at = convert_parts_at from into to at
    convert_at from into to at = copies_at s.line to at (words s from)

    pub convert_parts_at : {m n : _} (from : Row_of-Ty m) (into : Row_of-Ty n) (to at : ℕ) → AreAt s.line (convert_parts s from into to at)
    convert_parts_at (more_of-Ty from rest) (more_of-Ty into others) to at =
        joined (convert_code s from into to at) (convert_at from into to at) (convert_parts_at rest others (to + words s into) (at + words s from))
    convert_parts_at from into to at = none

  step_integer_at : (back : Bool) (k : Kind) (to from free : ℕ) → AreAt s.line (step_integer s back k to from free)
  step_integer_at back k to from free =
      chosen (is_long k) (more (more one))
      (chosen (width_of k == 32) one (more one))

  step_in_at : (back : Bool) (t : Ty-F Ty) (to from free : ℕ) → AreAt s.line (step_at s back t to from free)
  step_in_at back (Ty-F.Integer k) to from free = step_integer_at back k to from free
  step_in_at back (Ty-F.Pointer t) to from free = one
  step_in_at back _ to from free = none

  pub steps_at : (back : Bool) (t : Ty) (to from free : ℕ) → AreAt s.line (step_code s back t to from free)
  unfolding step_code
  steps_at back t to from free = step_in_at back (out-Ty t) to from free
