-- What holds of every layout: its alignment is 1 to 4, and it has no more units than bytes.
use Rattle.std.proofs.Common.{◌≡◌, ℕ, ◌+◌, ◌*◌, ◌/◌, ◌≤◌, zero, suc, List, [], ◌∷◌, ◌++◌, map, length, length-append, Option, Some, None, arith, sym, subst}
use Rattle.std.specs.Prelude.{slice_get, unwrap_or, fold, Bool, true, false, ⊤}
use Rattle.std.proofs.Math.Nat.{mul-le-mul_left}
use Rattle.std.proofs.lemmas.List.FromFn.{length-map-range_with_len}
use Rattle.al_base.specs.declared.arith.Kind.{Kind}
use Rattle.al_base.specs.declared.arith.Kind.TheVariants.{Byte, Sint, Usint, Int, Uint, Lint, Ulint}
use Rattle.al_typed.specs.declared.layout.Unit.{Unit}
use Rattle.al_typed.specs.declared.program.Aggregate.{Aggregate}
use Rattle.al_typed.specs.declared.ty.Ty.{Ty, Void, Integer, Pointer', Array', Chan', Tuple', Aggregate as Aggregate_, Function', Row_of-Ty, end_of-Ty, more_of-Ty}
use Rattle.al_typed.specs.TyFold.{fold_ty, fold_types}
use Rattle.al_typed.specs.Types.{bytes_of}
use Rattle.al_typed.specs.Layout.{Layout, Run, Extent, rounded, layout, layout_of, layout_step, layouts_after, aggregate_layout, body_layout, members_layout, nothing, of_bytes, repeated, in_order, over_each_other, followed, widened, piled, begun, moved}
use Rattle.al_typed.proofs.CappedLemmas.{rounded_above, length-moved, units-repeated}

pub record IsFit (l : Layout) : Type 0 where
  pub low : 1 ≤ l.align
  pub high : l.align ≤ 4
  pub few : length l.units ≤ l.size

abbrev pub AllFit : List Layout → Type 0
AllFit [] = ⊤
AllFit (l ∷ ls) = IsFit l × AllFit ls

pub AllFit-append : (ls ms : List Layout) → AllFit ls → AllFit ms → AllFit (ls ++ ms)
AllFit-append [] ms h k = k
AllFit-append (l ∷ ls) ms h k = (h.0, AllFit-append ls ms h.1 k)

pub AllFit-at : (ls : List Layout) (k : ℕ) → AllFit ls → IsFit (unwrap_or (slice_get ls k) nothing)
AllFit-at [] k h = record { low = omega arith; high = omega arith; few = omega arith }
AllFit-at (l ∷ ls) zero h = h.0
AllFit-at (l ∷ ls) (suc k) h = AllFit-at ls k h.1

integer_fits : (kind : Kind) → IsFit (of_bytes (bytes_of kind))
integer_fits Byte = record { low = omega arith; high = omega arith; few = omega arith }
integer_fits Sint = record { low = omega arith; high = omega arith; few = omega arith }
integer_fits Usint = record { low = omega arith; high = omega arith; few = omega arith }
integer_fits Int = record { low = omega arith; high = omega arith; few = omega arith }
integer_fits Uint = record { low = omega arith; high = omega arith; few = omega arith }
integer_fits Lint = record { low = omega arith; high = omega arith; few = omega arith }
integer_fits Ulint = record { low = omega arith; high = omega arith; few = omega arith }

repeated_fits : (count : ℕ) (l : Layout) → IsFit l → IsFit (repeated count l)
unfolding repeated
repeated_fits count l h = record {
  low = h.low;
  high = h.high;
  few = subst (λ n. n ≤ count * l.size) (sym (units-repeated count l)) (mul-le-mul_left count h.few);
}

-- members that were placed so far
record RunFits (run : Run) : Type 0 where
  low : 1 ≤ run.align
  high : run.align ≤ 4
  few : length run.units ≤ run.at

followed_fits : (run : Run) (l : Layout) → RunFits run → IsFit l → RunFits (followed run l)
unfolding followed
followed_fits run l h k =
    let above = rounded_above run.at l.align k.low in
    let few = k.few in
    let before = h.few in
    let moved_units : List Unit = moved (rounded run.at l.align) l.units in
    let same : length moved_units ≡ length l.units = length-moved (rounded run.at l.align) l.units in
    let count : length (run.units ++ moved_units) ≡ length run.units + length moved_units = length-append run.units moved_units in
    record {
      low = omega (arith, h.low);
      high = omega (arith, h.high, k.high);
      few = omega arith;
    }

run_fits : (ls : List Layout) (run : Run) → RunFits run → AllFit ls → RunFits (fold followed run ls)
run_fits [] run h k = h
run_fits (l ∷ ls) run h k = run_fits ls (followed run l) (followed_fits run l h k.0) k.1

pub in_order_fits : (ls : List Layout) → AllFit ls → IsFit (in_order ls)
unfolding in_order
in_order_fits [] h = record { low = omega arith; high = omega arith; few = omega arith }
in_order_fits (l ∷ ls) h =
    let run : RunFits (fold followed begun (l ∷ ls)) = run_fits (l ∷ ls) begun (record { low = omega arith; high = omega arith; few = omega arith }) h in
    let above = rounded_above (fold followed begun (l ∷ ls)).at (fold followed begun (l ∷ ls)).align run.low in
    record { low = run.low; high = run.high; few = omega (arith, run.few) }

-- members over each other so far
record ExtentFits (e : Extent) : Type 0 where
  low : 1 ≤ e.align
  high : e.align ≤ 4

extent_fits : (ls : List Layout) (e : Extent) → ExtentFits e → AllFit ls → ExtentFits (fold widened e ls)
extent_fits [] e h k = h
extent_fits (l ∷ ls) e h k = extent_fits ls (widened e l) (record { low = omega (arith, h.low); high = omega (arith, h.high, k.0.high) }) k.1

piled_fits : (e : Extent) → ExtentFits e → IsFit (piled e)
piled_fits e h = record {
  low = h.low;
  high = h.high;
  few = subst (λ n. n ≤ rounded e.size e.align) (sym (length-map-range_with_len _ 0 (rounded e.size e.align / e.align))) (fewer (rounded e.size e.align) e.align);
}
  where
    fewer : (a b : ℕ) → a / b ≤ a
    fewer a b = grind arith

pub over_each_other_fits : (ls : List Layout) → AllFit ls → IsFit (over_each_other ls)
unfolding over_each_other
over_each_other_fits ls h =
    piled_fits (fold widened (record { size = 0; align = 1 }) ls)
    (extent_fits ls (record { size = 0; align = 1 }) (record { low = omega arith; high = omega arith }) h)

mutual
  fold_fits : (known : List Layout) (t : Ty) → AllFit known → IsFit (fold_ty (layout_step known) t)
  fold_fits known Void h = record { low = omega arith; high = omega arith; few = omega arith }
  fold_fits known (Integer kind) h = integer_fits kind
  fold_fits known (Pointer' _ (more_of-Ty to end_of-Ty)) h = record { low = omega arith; high = omega arith; few = omega arith }
  fold_fits known (Array' _ (more_of-Ty element end_of-Ty) count) h =
      repeated_fits count (fold_ty (layout_step known) element) (fold_fits known element h)
  fold_fits known (Chan' _ (more_of-Ty element end_of-Ty) capacity) h = record { low = omega arith; high = omega arith; few = omega arith }
  fold_fits known (Tuple' _ parts) h = in_order_fits (fold_types (layout_step known) parts) (fold_all_fit known parts h)
  fold_fits known (Aggregate_ number) h = AllFit-at known number h
  fold_fits known (Function' _ (more_of-Ty returns end_of-Ty) _ parameters) h = record { low = omega arith; high = omega arith; few = omega arith }

  fold_all_fit : (known : List Layout) {m : _} (row : Row_of-Ty m) → AllFit known → AllFit (fold_types (layout_step known) row)
  fold_all_fit known end_of-Ty h = tt
  fold_all_fit known (more_of-Ty t rest) h = (fold_fits known t h, fold_all_fit known rest h)

pub layout_of_fits : (known : List Layout) (t : Ty) → AllFit known → IsFit (layout_of known t)
unfolding layout_of
layout_of_fits known t h = fold_fits known t h

pub layouts_of_fit : (known : List Layout) (ts : List Ty) → AllFit known → AllFit (map (layout_of known) ts)
layouts_of_fit known [] h = tt
layouts_of_fit known (t ∷ ts) h = (layout_of_fits known t h, layouts_of_fit known ts h)

members_fit : (is_union : Bool) (ls : List Layout) → AllFit ls → IsFit (members_layout is_union ls)
members_fit true ls h = over_each_other_fits ls h
members_fit false ls h = in_order_fits ls h

pub body_fits : (known : List Layout) (is_union : Bool) (members : Option (List Ty)) → AllFit known → IsFit (body_layout known is_union members)
body_fits known is_union None h = record { low = omega arith; high = omega arith; few = omega arith }
body_fits known is_union (Some ms) h = members_fit is_union (map (layout_of known) ms) (layouts_of_fit known ms h)

pub aggregate_fits : (known : List Layout) (a : Aggregate) → AllFit known → IsFit (aggregate_layout known a)
unfolding aggregate_layout
aggregate_fits known a h = body_fits known a.is_union a.members h

pub layouts_after_fit : (known : List Layout) (rows : List Aggregate) → AllFit known → AllFit (layouts_after known rows)
unfolding layouts_after
layouts_after_fit known [] h = h
layouts_after_fit known (a ∷ rest) h =
    layouts_after_fit (known ++ aggregate_layout known a ∷ []) rest
    (AllFit-append known (aggregate_layout known a ∷ []) h (aggregate_fits known a h, tt))

pub layout_fits : (rows : List Aggregate) (t : Ty) → IsFit (layout rows t)
unfolding layout
layout_fits rows t = layout_of_fits (layouts_after [] rows) t (layouts_after_fit [] rows tt)

pub layouts_fit : (rows : List Aggregate) (ts : List Ty) → AllFit (map (layout rows) ts)
layouts_fit rows [] = tt
layouts_fit rows (t ∷ ts) = (layout_fits rows t, layouts_fit rows ts)
