-- Units lie in their values.
use Rattle.std.proofs.Common.{◌≡◌, ℕ, zero, suc, ◌+◌, ◌*◌, ◌/◌, ◌≤◌, Bool, true, false, List, [], ◌∷◌, ◌++◌, map, Option, Some, None, refl, sym, subst, arith}
use Rattle.std.specs.Prelude.{slice_get, unwrap_or, fold}
use Rattle.std.specs.List.{AllByRecursion, flat_map, range_with_len}
use Rattle.al_base.specs.declared.arith.Kind.{Kind}
use Rattle.al_base.specs.declared.arith.Kind.TheVariants.{Byte, Sint, Usint, Int, Uint, Lint, Ulint}
use Rattle.al_typed.specs.declared.layout.Unit.{Unit}
use Rattle.al_typed.specs.declared.program.Aggregate.{Aggregate}
use Rattle.al_typed.specs.declared.ty.Ty.{Ty, Void, Integer, Pointer', Array', Chan', Tuple', Aggregate as Aggregate_, Function', Row_of-Ty, end_of-Ty, more_of-Ty}
use Rattle.al_typed.specs.TyFold.{fold_ty, fold_types}
use Rattle.al_typed.specs.Types.{bytes_of}
use Rattle.al_typed.specs.Layout.{Layout, Run, Extent, rounded, layout, layout_of, layout_step, layouts_after, aggregate_layout, body_layout, members_layout, nothing, of_bytes, repeated, in_order, over_each_other, followed, widened, begun, moved, unit_at, units_of, size_of}
use Rattle.al_typed.proofs.CappedLemmas.{rounded_above}
use Rattle.al_typed.proofs.Fitting.{AllFit, layout_of_fits, layouts_of_fit, layouts_after_fit, aggregate_fits, AllFit-append}
use Rattle.al_typed.proofs.Placing.{in_order-end}
use Rattle.al_fits.proofs.Going.{each_append}

-- before so many bytes
abbrev pub UpTo : ℕ → List Unit → Type 0
UpTo n units = AllByRecursion (λ (u : Unit). u.at + u.size ≤ n) units

abbrev Lie : Layout → Type 0
Lie l = UpTo l.size l.units

up_more : (n m : ℕ) (units : List Unit) → n ≤ m → UpTo n units → UpTo m units
up_more n m [] le h = tt
up_more n m (u ∷ units) le h = (omega (arith, h.0), up_more n m units le h.1)

moved_up : (by n : ℕ) (units : List Unit) → UpTo n units → UpTo (by + n) (moved by units)
moved_up by n [] h = tt
moved_up by n (u ∷ units) h = (omega (arith, h.0), moved_up by n units h.1)

integer_lie : (kind : Kind) → Lie (of_bytes (bytes_of kind))
integer_lie Byte = (omega arith, tt)
integer_lie Sint = (omega arith, tt)
integer_lie Usint = (omega arith, tt)
integer_lie Int = (omega arith, tt)
integer_lie Uint = (omega arith, tt)
integer_lie Lint = (omega arith, (omega arith, tt))
integer_lie Ulint = (omega arith, (omega arith, tt))

one_further : (a k size : ℕ) → a * size + size ≤ (a + suc k) * size
one_further a k size = grind arith

further_on : (a k size : ℕ) → (a + 1 + k) * size ≤ (a + suc k) * size
further_on a k size = let same : a + 1 + k ≡ a + suc k = omega arith in subst (λ n. (a + 1 + k) * size ≤ n * size) same (omega arith)

elements_lie : (l : Layout) → Lie l → (a k : ℕ) → UpTo ((a + k) * l.size) (flat_map (λ i. moved (i * l.size) l.units) (range_with_len a k))
elements_lie l h a zero = tt
elements_lie l h a (suc k) =
    each_append (λ (u : Unit). u.at + u.size ≤ (a + suc k) * l.size) (moved (a * l.size) l.units) (flat_map (λ i. moved (i * l.size) l.units) (range_with_len (a + 1) k))
    (up_more (a * l.size + l.size) ((a + suc k) * l.size) (moved (a * l.size) l.units) (one_further a k l.size) (moved_up (a * l.size) l.size l.units h))
    (up_more ((a + 1 + k) * l.size) ((a + suc k) * l.size) (flat_map (λ i. moved (i * l.size) l.units) (range_with_len (a + 1) k)) (further_on a k l.size) (elements_lie l h (a + 1) k))

repeated_lie : (count : ℕ) (l : Layout) → Lie l → Lie (repeated count l)
unfolding repeated
repeated_lie count l h = subst (λ n. UpTo (n * l.size) (flat_map (λ i. moved (i * l.size) l.units) (range_with_len 0 count))) (omega arith) (elements_lie l h 0 count)

run_lie : (ls : List Layout) (run : Run) → UpTo run.at run.units → AllFit ls → AllByRecursion Lie ls → UpTo (fold followed run ls).at (fold followed run ls).units
unfolding followed
run_lie [] run u f h = u
run_lie (l ∷ ls) run u f h =
    let above = rounded_above run.at l.align f.0.low in
    run_lie ls (followed run l)
    (each_append (λ (x : Unit). x.at + x.size ≤ rounded run.at l.align + l.size) run.units (moved (rounded run.at l.align) l.units)
    (up_more run.at (rounded run.at l.align + l.size) run.units (omega arith) u) (moved_up (rounded run.at l.align) l.size l.units h.0))
    f.1 h.1

in_order_units : (l : Layout) (ls : List Layout) → (in_order (l ∷ ls)).units ≡ (fold followed begun (l ∷ ls)).units
unfolding in_order
in_order_units l ls = refl

none_lie : Lie (in_order [])
unfolding in_order
none_lie = tt

in_order_lie : (ls : List Layout) → AllFit ls → AllByRecursion Lie ls → Lie (in_order ls)
in_order_lie [] f h = none_lie
in_order_lie (l ∷ ls) f h =
    subst (λ units. UpTo (in_order (l ∷ ls)).size units) (sym (in_order_units l ls))
    (up_more (fold followed begun (l ∷ ls)).at (in_order (l ∷ ls)).size (fold followed begun (l ∷ ls)).units (in_order-end (l ∷ ls)) (run_lie (l ∷ ls) begun tt f h))

one_piled : (a k align size : ℕ) → a + suc k ≤ size / align → a * align + align ≤ size
one_piled a k align size le = grind arith

piled_lie : (align size : ℕ) → (a k : ℕ) → a + k ≤ size / align → UpTo size (map (λ i. unit_at (i * align) align) (range_with_len a k))
piled_lie align size a zero le = tt
piled_lie align size a (suc k) le = (one_piled a k align size le, piled_lie align size (a + 1) k (omega arith))

over_lie : (ls : List Layout) → Lie (over_each_other ls)
unfolding over_each_other
over_lie ls =
    let e : Extent = fold widened (record { size = 0; align = 1 }) ls in
    piled_lie e.align (rounded e.size e.align) 0 (rounded e.size e.align / e.align) (omega arith)

known_lie : (ls : List Layout) (k : ℕ) → AllByRecursion Lie ls → Lie (unwrap_or (slice_get ls k) nothing)
known_lie [] k h = tt
known_lie (l ∷ ls) zero h = h.0
known_lie (l ∷ ls) (suc k) h = known_lie ls k h.1

mutual
  unfolding layout_of

  fold_lie : (known : List Layout) (t : Ty) → AllFit known → AllByRecursion Lie known → Lie (fold_ty (layout_step known) t)
  fold_lie known Void f h = tt
  fold_lie known (Integer kind) f h = integer_lie kind
  fold_lie known (Pointer' _ (more_of-Ty to end_of-Ty)) f h = (omega arith, tt)
  fold_lie known (Array' _ (more_of-Ty element end_of-Ty) count) f h = repeated_lie count (fold_ty (layout_step known) element) (fold_lie known element f h)
  fold_lie known (Chan' _ (more_of-Ty element end_of-Ty) capacity) f h = (omega arith, tt)
  fold_lie known (Tuple' _ parts) f h = let both = fold_all_lie known parts f h in in_order_lie (fold_types (layout_step known) parts) both.0 both.1
  fold_lie known (Aggregate_ number) f h = known_lie known number h
  fold_lie known (Function' _ (more_of-Ty returns end_of-Ty) _ parameters) f h = tt

  fold_all_lie : (known : List Layout) {m : _} (row : Row_of-Ty m) → AllFit known → AllByRecursion Lie known
      → AllFit (fold_types (layout_step known) row) × AllByRecursion Lie (fold_types (layout_step known) row)
  fold_all_lie known end_of-Ty f h = (tt, tt)
  fold_all_lie known (more_of-Ty t rest) f h =
      let both = fold_all_lie known rest f h in
      ((layout_of_fits known t f, both.0), (fold_lie known t f h, both.1))

layout_of_lie : (known : List Layout) (t : Ty) → AllFit known → AllByRecursion Lie known → Lie (layout_of known t)
unfolding layout_of
layout_of_lie known t f h = fold_lie known t f h

layouts_of_lie : (known : List Layout) (ts : List Ty) → AllFit known → AllByRecursion Lie known → AllByRecursion Lie (map (layout_of known) ts)
layouts_of_lie known [] f h = tt
layouts_of_lie known (t ∷ ts) f h = (layout_of_lie known t f h, layouts_of_lie known ts f h)

members_lie : (is_union : Bool) (ls : List Layout) → AllFit ls → AllByRecursion Lie ls → Lie (members_layout is_union ls)
members_lie true ls f h = over_lie ls
members_lie false ls f h = in_order_lie ls f h

body_lie : (known : List Layout) (is_union : Bool) (members : Option (List Ty)) → AllFit known → AllByRecursion Lie known → Lie (body_layout known is_union members)
body_lie known is_union None f h = tt
body_lie known is_union (Some ms) f h = members_lie is_union (map (layout_of known) ms) (layouts_of_fit known ms f) (layouts_of_lie known ms f h)

aggregate_lie : (known : List Layout) (a : Aggregate) → AllFit known → AllByRecursion Lie known → Lie (aggregate_layout known a)
unfolding aggregate_layout
aggregate_lie known a f h = body_lie known a.is_union a.members f h

known_after_lie : (known : List Layout) (rows : List Aggregate) → AllFit known → AllByRecursion Lie known → AllByRecursion Lie (layouts_after known rows)
unfolding layouts_after
known_after_lie known [] f h = h
known_after_lie known (a ∷ rest) f h =
    known_after_lie (known ++ aggregate_layout known a ∷ []) rest (AllFit-append known (aggregate_layout known a ∷ []) f (aggregate_fits known a f, tt))
    (each_append Lie known (aggregate_layout known a ∷ []) h (aggregate_lie known a f h, tt))

pub units_within : (rows : List Aggregate) (t : Ty) → UpTo (size_of rows t) (units_of rows t)
unfolding layout
units_within rows t = layout_of_lie (layouts_after [] rows) t (layouts_after_fit [] rows tt) (known_after_lie [] rows tt tt)
