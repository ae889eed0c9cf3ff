-- No unit of a type has more than 4 bytes.
use Rattle.std.proofs.Common.{◌≡◌, ℕ, ◌+◌, ◌*◌, ◌/◌, ◌<◌, ◌≤◌, max, zero, suc, List, [], ◌∷◌, ◌++◌, map, Option, Some, None, arith, refl, Bool, true, false}
use Rattle.std.specs.Prelude.{slice_get, unwrap_or, fold, ⊤}
use Rattle.std.specs.List.{flat_map, range_with_len}
use Rattle.al_base.specs.declared.arith.Kind.{Kind}
use Rattle.al_base.specs.declared.arith.Kind.TheVariants.{Byte, Sint, Usint, Int, Uint, Lint, Ulint}
use Rattle.al_typed.specs.declared.layout.Unit.{Unit}
use Rattle.al_typed.specs.declared.program.Aggregate.{Aggregate}
use Rattle.al_typed.specs.declared.ty.Ty.{Ty, Void, Integer, Pointer', Array', Chan', Tuple', Aggregate as Aggregate_, Function', Row_of-Ty, end_of-Ty, more_of-Ty}
use Rattle.al_typed.specs.TyFold.{fold_ty, fold_types}
use Rattle.al_typed.specs.Types.{bytes_of}
use Rattle.al_typed.specs.Layout.{Layout, Run, Extent, unit_at, rounded, layout, layout_of, layout_step, layouts_after, aggregate_layout, body_layout, members_layout, nothing, of_bytes, repeated, in_order, over_each_other, followed, widened, piled, begun, moved, units_of}
use Rattle.al_control_values.specs.Units.{AreShort}

append_short : (us vs : List Unit) → AreShort us → AreShort vs → AreShort (us ++ vs)
append_short [] vs h k = k
append_short (u ∷ us) vs h k = (h.0, append_short us vs h.1 k)

moved_short : (by : ℕ) (us : List Unit) → AreShort us → AreShort (moved by us)
moved_short by [] h = tt
moved_short by (u ∷ us) h = (h.0, moved_short by us h.1)

many_short : (f : ℕ → List Unit) (is : List ℕ) → ((i : ℕ) → AreShort (f i)) → AreShort (flat_map f is)
many_short f [] h = tt
many_short f (i ∷ is) h = append_short (f i) (flat_map f is) (h i) (many_short f is h)

equal_short : (align : ℕ) (is : List ℕ) → align ≤ 4 → AreShort (map (λ i. unit_at (i * align) align) is)
equal_short align [] h = tt
equal_short align (i ∷ is) h = (h, equal_short align is h)

record IsFit (l : Layout) : Type 0 where
  high : l.align ≤ 4
  short : AreShort l.units

abbrev AllFit : List Layout → Type 0
AllFit [] = ⊤
AllFit (l ∷ ls) = IsFit l × AllFit ls

AllFit-append : (ls ms : List Layout) → AllFit ls → AllFit ms → AllFit (ls ++ ms)
AllFit-append [] ms h k = k
AllFit-append (l ∷ ls) ms h k = (h.0, AllFit-append ls ms h.1 k)

no_units : IsFit nothing
no_units = record { high = omega arith; short = tt }

AllFit-at : (ls : List Layout) (k : ℕ) → AllFit ls → IsFit (unwrap_or (slice_get ls k) nothing)
AllFit-at [] k h = no_units
AllFit-at (l ∷ ls) zero h = h.0
AllFit-at (l ∷ ls) (suc k) h = AllFit-at ls k h.1

integer_fits : (kind : Kind) → IsFit (of_bytes (bytes_of kind))
integer_fits Byte = record { high = omega arith; short = (omega arith, tt) }
integer_fits Sint = record { high = omega arith; short = (omega arith, tt) }
integer_fits Usint = record { high = omega arith; short = (omega arith, tt) }
integer_fits Int = record { high = omega arith; short = (omega arith, tt) }
integer_fits Uint = record { high = omega arith; short = (omega arith, tt) }
integer_fits Lint = record { high = omega arith; short = (omega arith, (omega arith, tt)) }
integer_fits Ulint = record { high = omega arith; short = (omega arith, (omega arith, tt)) }

word_fits : IsFit (of_bytes 4)
word_fits = record { high = omega arith; short = (omega arith, tt) }

repeated_fits : (count : ℕ) (l : Layout) → IsFit l → IsFit (repeated count l)
unfolding repeated
repeated_fits count l h = record {
  high = h.high;
  short = many_short (λ i. moved (i * l.size) l.units) (range_with_len 0 count) (λ i. moved_short (i * l.size) l.units h.short);
}

-- members that were placed so far
record RunFits (run : Run) : Type 0 where
  high : run.align ≤ 4
  short : AreShort run.units

followed_fits : (run : Run) (l : Layout) → RunFits run → IsFit l → RunFits (followed run l)
unfolding followed
followed_fits run l h k = record {
  high = omega (arith, h.high, k.high);
  short = append_short run.units (moved (rounded run.at l.align) l.units) h.short (moved_short (rounded run.at l.align) l.units k.short);
}

run_fits : (ls : List Layout) (run : Run) → RunFits run → AllFit ls → RunFits (fold followed run ls)
run_fits [] run h k = h
run_fits (l ∷ ls) run h k = run_fits ls (followed run l) (followed_fits run l h k.0) k.1

in_order_fits : (ls : List Layout) → AllFit ls → IsFit (in_order ls)
unfolding in_order
in_order_fits [] h = record { high = omega arith; short = tt }
in_order_fits (l ∷ ls) h =
    let run : RunFits (fold followed begun (l ∷ ls)) = run_fits (l ∷ ls) begun (record { high = omega arith; short = tt }) h in
    record { high = run.high; short = run.short }

extent_fits : (ls : List Layout) (e : Extent) → e.align ≤ 4 → AllFit ls → (fold widened e ls).align ≤ 4
extent_fits [] e h k = h
extent_fits (l ∷ ls) e h k = extent_fits ls (widened e l) (omega (arith, k.0.high)) k.1

piled_fits : (e : Extent) → e.align ≤ 4 → IsFit (piled e)
piled_fits e h = record { high = h; short = equal_short e.align (range_with_len 0 (rounded e.size e.align / e.align)) h }

over_each_other_fits : (ls : List Layout) → AllFit ls → IsFit (over_each_other ls)
unfolding over_each_other
over_each_other_fits ls h = piled_fits (fold widened (record { size = 0; align = 1 }) ls) (extent_fits ls (record { size = 0; align = 1 }) (omega arith) h)

mutual
  fold_fits : (known : List Layout) (t : Ty) → AllFit known → IsFit (fold_ty (layout_step known) t)
  fold_fits known Void h = no_units
  fold_fits known (Integer kind) h = integer_fits kind
  fold_fits known (Pointer' _ (more_of-Ty to end_of-Ty)) h = word_fits
  fold_fits known (Array' _ (more_of-Ty element end_of-Ty) count) h =
      repeated_fits count (fold_ty (layout_step known) element) (fold_fits known element h)
  fold_fits known (Chan' _ (more_of-Ty element end_of-Ty) capacity) h = word_fits
  fold_fits known (Tuple' _ parts) h = in_order_fits (fold_types (layout_step known) parts) (fold_all_fit known parts h)
  fold_fits known (Aggregate_ number) h = AllFit-at known number h
  fold_fits known (Function' _ (more_of-Ty returns end_of-Ty) _ parameters) h = no_units

  fold_all_fit : (known : List Layout) {m : _} (row : Row_of-Ty m) → AllFit known → AllFit (fold_types (layout_step known) row)
  fold_all_fit known end_of-Ty h = tt
  fold_all_fit known (more_of-Ty t rest) h = (fold_fits known t h, fold_all_fit known rest h)

layout_of_fits : (known : List Layout) (t : Ty) → AllFit known → IsFit (layout_of known t)
unfolding layout_of
layout_of_fits known t h = fold_fits known t h

layouts_of_fit : (known : List Layout) (ts : List Ty) → AllFit known → AllFit (map (layout_of known) ts)
layouts_of_fit known [] h = tt
layouts_of_fit known (t ∷ ts) h = (layout_of_fits known t h, layouts_of_fit known ts h)

members_fit : (is_union : Bool) (ls : List Layout) → AllFit ls → IsFit (members_layout is_union ls)
members_fit true ls h = over_each_other_fits ls h
members_fit false ls h = in_order_fits ls h

body_fits : (known : List Layout) (is_union : Bool) (members : Option (List Ty)) → AllFit known → IsFit (body_layout known is_union members)
body_fits known is_union None h = no_units
body_fits known is_union (Some ms) h = members_fit is_union (map (layout_of known) ms) (layouts_of_fit known ms h)

aggregate_fits : (known : List Layout) (a : Aggregate) → AllFit known → IsFit (aggregate_layout known a)
unfolding aggregate_layout
aggregate_fits known a h = body_fits known a.is_union a.members h

layouts_after_fit : (known : List Layout) (rows : List Aggregate) → AllFit known → AllFit (layouts_after known rows)
unfolding layouts_after
layouts_after_fit known [] h = h
layouts_after_fit known (a ∷ rest) h =
    layouts_after_fit (known ++ aggregate_layout known a ∷ []) rest
    (AllFit-append known (aggregate_layout known a ∷ []) h (aggregate_fits known a h, tt))

pub units_short : (rows : List Aggregate) (t : Ty) → AreShort (units_of rows t)
unfolding layout
units_short rows t = (layout_of_fits (layouts_after [] rows) t (layouts_after_fit [] rows tt)).short
