-- No unit of a value has more than 4 bytes.
use Rattle.std.proofs.Common.{ℕ, zero, suc, ◌*◌, ◌/◌, ◌≤◌, max, Bool, true, false, List, [], ◌∷◌, ◌++◌, map, Option, Some, None, arith}
use Rattle.std.specs.Prelude.{slice_get, unwrap_or, fold}
use Rattle.std.specs.List.{AllByRecursion, flat_map, range_with_len}
use Rattle.al_base.specs.declared.arith.Kind.{Kind}
use Rattle.al_base.specs.declared.arith.Kind.TheVariants.{Byte, Sint, Usint, Int, Uint, Lint, Ulint}
use Rattle.al_typed.specs.declared.layout.Unit.{Unit}
use Rattle.al_typed.specs.declared.program.Aggregate.{Aggregate}
use Rattle.al_typed.specs.declared.ty.Ty.{Ty, Void, Integer, Pointer', Array', Chan', Tuple', Aggregate as Aggregate_, Function', Row_of-Ty, end_of-Ty, more_of-Ty}
use Rattle.al_typed.specs.TyFold.{fold_ty, fold_types}
use Rattle.al_typed.specs.Types.{bytes_of}
use Rattle.al_typed.specs.Layout.{Layout, Run, Extent, rounded, layout, layout_of, layout_step, layouts_after, aggregate_layout, body_layout, members_layout, nothing, of_bytes, repeated, in_order, over_each_other, followed, widened, begun, moved, unit_at, units_of}

-- each unit has so few bytes that its value is a word
abbrev pub AreUnits : List Unit → Type 0
AreUnits units = AllByRecursion (λ (u : Unit). u.size ≤ 4) units

-- neither the alignment nor a unit has more
abbrev pub IsSplit : Layout → Type 0
IsSplit l = (l.align ≤ 4) × AreUnits l.units

one : 1 ≤ 4
one = omega arith

two : 2 ≤ 4
two = omega arith

four : 4 ≤ 4
four = omega arith

larger : (a b : ℕ) → a ≤ 4 → b ≤ 4 → max a b ≤ 4
larger a b x y = omega (arith, x, y)

pub each_append : {A : Type 0} (P : A → Type 0) (xs ys : List A) → AllByRecursion P xs → AllByRecursion P ys → AllByRecursion P (xs ++ ys)
each_append P [] ys h k = k
each_append P (x ∷ xs) ys h k = (h.0, each_append P xs ys h.1 k)

integer_split : (kind : Kind) → IsSplit (of_bytes (bytes_of kind))
integer_split Byte = (one, (one, tt))
integer_split Sint = (two, (two, tt))
integer_split Usint = (two, (two, tt))
integer_split Int = (four, (four, tt))
integer_split Uint = (four, (four, tt))
integer_split Lint = (four, (four, (four, tt)))
integer_split Ulint = (four, (four, (four, tt)))

moved_split : (by : ℕ) (units : List Unit) → AreUnits units → AreUnits (moved by units)
moved_split by [] h = tt
moved_split by (u ∷ units) h = (h.0, moved_split by units h.1)

repeated_units : (l : Layout) → AreUnits l.units → (is : List ℕ) → AreUnits (flat_map (λ i. moved (i * l.size) l.units) is)
repeated_units l h [] = tt
repeated_units l h (i ∷ is) =
    each_append (λ (u : Unit). u.size ≤ 4) (moved (i * l.size) l.units) (flat_map (λ i. moved (i * l.size) l.units) is) (moved_split (i * l.size) l.units h) (repeated_units l h is)

repeated_split : (count : ℕ) (l : Layout) → IsSplit l → IsSplit (repeated count l)
unfolding repeated
repeated_split count l h = (h.0, repeated_units l h.1 (range_with_len 0 count))

run_split : (ls : List Layout) (run : Run) → run.align ≤ 4 → AreUnits run.units → AllByRecursion IsSplit ls
    → ((fold followed run ls).align ≤ 4) × AreUnits (fold followed run ls).units
unfolding followed
run_split [] run a u h = (a, u)
run_split (l ∷ ls) run a u h =
    run_split ls (followed run l) (larger run.align l.align a h.0.0)
    (each_append (λ (u : Unit). u.size ≤ 4) run.units (moved (rounded run.at l.align) l.units) u (moved_split (rounded run.at l.align) l.units h.0.1)) h.1

in_order_split : (ls : List Layout) → AllByRecursion IsSplit ls → IsSplit (in_order ls)
unfolding in_order
in_order_split [] h = (one, tt)
in_order_split (l ∷ ls) h = run_split (l ∷ ls) begun one tt h

extent_split : (ls : List Layout) (e : Extent) → e.align ≤ 4 → AllByRecursion IsSplit ls → (fold widened e ls).align ≤ 4
extent_split [] e a h = a
extent_split (l ∷ ls) e a h = extent_split ls (widened e l) (larger e.align l.align a h.0.0) h.1

piled_units : (align : ℕ) → align ≤ 4 → (is : List ℕ) → AreUnits (map (λ i. unit_at (i * align) align) is)
piled_units align a [] = tt
piled_units align a (i ∷ is) = (a, piled_units align a is)

over_split : (ls : List Layout) → AllByRecursion IsSplit ls → IsSplit (over_each_other ls)
unfolding over_each_other
over_split ls h =
    let e : Extent = fold widened (record { size = 0; align = 1 }) ls in
    let a : e.align ≤ 4 = extent_split ls (record { size = 0; align = 1 }) one h in
    (a, piled_units e.align a (range_with_len 0 (rounded e.size e.align / e.align)))

known_split : (ls : List Layout) (k : ℕ) → AllByRecursion IsSplit ls → IsSplit (unwrap_or (slice_get ls k) nothing)
known_split [] k h = (one, tt)
known_split (l ∷ ls) zero h = h.0
known_split (l ∷ ls) (suc k) h = known_split ls k h.1

mutual
  fold_split : (known : List Layout) (t : Ty) → AllByRecursion IsSplit known → IsSplit (fold_ty (layout_step known) t)
  fold_split known Void h = (one, tt)
  fold_split known (Integer kind) h = integer_split kind
  fold_split known (Pointer' _ (more_of-Ty to end_of-Ty)) h = (four, (four, tt))
  fold_split known (Array' _ (more_of-Ty element end_of-Ty) count) h = repeated_split count (fold_ty (layout_step known) element) (fold_split known element h)
  fold_split known (Chan' _ (more_of-Ty element end_of-Ty) capacity) h = (four, (four, tt))
  fold_split known (Tuple' _ parts) h = in_order_split (fold_types (layout_step known) parts) (fold_all_split known parts h)
  fold_split known (Aggregate_ number) h = known_split known number h
  fold_split known (Function' _ (more_of-Ty returns end_of-Ty) _ parameters) h = (one, tt)

  fold_all_split : (known : List Layout) {m : _} (row : Row_of-Ty m) → AllByRecursion IsSplit known → AllByRecursion IsSplit (fold_types (layout_step known) row)
  fold_all_split known end_of-Ty h = tt
  fold_all_split known (more_of-Ty t rest) h = (fold_split known t h, fold_all_split known rest h)

layout_of_split : (known : List Layout) (t : Ty) → AllByRecursion IsSplit known → IsSplit (layout_of known t)
unfolding layout_of
layout_of_split known t h = fold_split known t h

layouts_of_split : (known : List Layout) (ts : List Ty) → AllByRecursion IsSplit known → AllByRecursion IsSplit (map (layout_of known) ts)
layouts_of_split known [] h = tt
layouts_of_split known (t ∷ ts) h = (layout_of_split known t h, layouts_of_split known ts h)

members_split : (is_union : Bool) (ls : List Layout) → AllByRecursion IsSplit ls → IsSplit (members_layout is_union ls)
members_split true ls h = over_split ls h
members_split false ls h = in_order_split ls h

body_split : (known : List Layout) (is_union : Bool) (members : Option (List Ty)) → AllByRecursion IsSplit known → IsSplit (body_layout known is_union members)
body_split known is_union None h = (one, tt)
body_split known is_union (Some ms) h = members_split is_union (map (layout_of known) ms) (layouts_of_split known ms h)

aggregate_split : (known : List Layout) (a : Aggregate) → AllByRecursion IsSplit known → IsSplit (aggregate_layout known a)
unfolding aggregate_layout
aggregate_split known a h = body_split known a.is_union a.members h

known_after_split : (known : List Layout) (rows : List Aggregate) → AllByRecursion IsSplit known → AllByRecursion IsSplit (layouts_after known rows)
unfolding layouts_after
known_after_split known [] h = h
known_after_split known (a ∷ rest) h =
    known_after_split (known ++ aggregate_layout known a ∷ []) rest
    (each_append IsSplit known (aggregate_layout known a ∷ []) h (aggregate_split known a h, tt))

pub units_are : (rows : List Aggregate) (t : Ty) → AreUnits (units_of rows t)
unfolding layout
units_are rows t = (layout_of_split (layouts_after [] rows) t (known_after_split [] rows tt)).1
