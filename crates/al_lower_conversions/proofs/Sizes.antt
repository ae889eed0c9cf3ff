-- Units of tuples: those of their parts, but for where they stand.
use Rattle.std.proofs.Common.{◌≡◌, ℕ, ◌+◌, ◌%◌, ◌^◌, List, [], ◌∷◌, ◌++◌, map, drop, refl, sym, ap, ap₂, ◌∙◌, append_assoc, append-nil}
use Rattle.std.specs.Prelude.{Bool, true, false, fold, slice_index}
use Rattle.al_typed.specs.declared.layout.Unit.{Unit as StorageUnit}
use Rattle.al_typed.specs.declared.program.Program.{Program}
use Rattle.al_typed.specs.declared.ty.Ty.{Ty, Tuple', Row_of-Ty, end_of-Ty, more_of-Ty}
use Rattle.al_typed.specs.declared.ty.Ty.TheViews.{out-Ty}
use denote.Hole.Carrier.{out}
use Rattle.al_typed.specs.TyFold.{fold_ty, fold_types}
use Rattle.al_typed.specs.Types.{is_array, is_void, is_scalar}
use Rattle.al_typed.specs.Layout.{Layout, Run, moved, followed, begun, in_order, layout, layout_of, layout_step, layouts_after}
use Rattle.al_meaning.specs.Words.{fitted_to}
use Rattle.al_meaning.specs.Here.{units_in}
use Rattle.al_lower_words.specs.Units.{AreOf}

-- how many bytes each unit has
abbrev pub sizes : List StorageUnit → List ℕ
sizes us = map (λ (u : StorageUnit). u.size) us

first_is : (a b : ℕ) (xs ys : List ℕ) → a ∷ xs ≡ b ∷ ys → a ≡ b
first_is a b xs ys e = cc

rest_is : (a b : ℕ) (xs ys : List ℕ) → a ∷ xs ≡ b ∷ ys → xs ≡ ys
rest_is a b xs ys e = cc

-- words keep the bytes of units, wherever these stand
pub fitted_by_sizes : (us vs : List StorageUnit) (v : List ℕ) → sizes us ≡ sizes vs → fitted_to us v ≡ fitted_to vs v
fitted_by_sizes [] [] v e = refl
fitted_by_sizes [] (x ∷ vs) v e = absurd (cc)
fitted_by_sizes (u ∷ us) [] v e = absurd (cc)
fitted_by_sizes (u ∷ us) (x ∷ vs) v e =
    ap₂ (λ (n : ℕ) (rest : List ℕ). slice_index v 0 % 256 ^ n ∷ rest) (first_is u.size x.size (sizes us) (sizes vs) e) (fitted_by_sizes us vs (drop 1 v) (rest_is u.size x.size (sizes us) (sizes vs) e))

pub fits_by_sizes : (us vs : List StorageUnit) (v : List ℕ) → sizes us ≡ sizes vs → AreOf us v → AreOf vs v
fits_by_sizes us vs v e h = sym (fitted_by_sizes us vs v e) ∙ h

sizes_moved : (by : ℕ) (us : List StorageUnit) → sizes (moved by us) ≡ sizes us
sizes_moved by [] = refl
sizes_moved by (u ∷ us) = ap (λ s. u.size ∷ s) (sizes_moved by us)

pub sizes_append : (us vs : List StorageUnit) → sizes (us ++ vs) ≡ sizes us ++ sizes vs
sizes_append [] vs = refl
sizes_append (u ∷ us) vs = ap (λ s. u.size ∷ s) (sizes_append us vs)

-- ---- parts in order

abbrev all_sizes : List Layout → List ℕ
all_sizes [] = []
all_sizes (l ∷ ls) = sizes l.units ++ all_sizes ls

run_sizes : (ls : List Layout) (run : Run) → sizes (fold followed run ls).units ≡ sizes run.units ++ all_sizes ls
unfolding followed
run_sizes [] run = sym (append-nil (sizes run.units))
run_sizes (l ∷ ls) run =
    let next = followed run l in
    let here : sizes next.units ≡ sizes run.units ++ sizes l.units = sizes_append run.units (moved _ l.units) ∙ ap (λ s. sizes run.units ++ s) (sizes_moved _ l.units) in
    run_sizes ls next ∙ (ap (λ s. s ++ all_sizes ls) here ∙ append_assoc (sizes run.units) (sizes l.units) (all_sizes ls))

order_sizes : (ls : List Layout) → sizes (in_order ls).units ≡ all_sizes ls
unfolding in_order
order_sizes [] = refl
order_sizes (l ∷ ls) = run_sizes (l ∷ ls) begun

-- the units of each part, one behind the other
abbrev pub row_units : Program → {m : _} → Row_of-Ty m → List StorageUnit
row_units p end_of-Ty = []
row_units p (more_of-Ty t rest) = units_in p t ++ row_units p rest

row_sizes : (p : Program) {m : _} (row : Row_of-Ty m) → all_sizes (fold_types (layout_step (layouts_after [] p.aggregates)) row) ≡ sizes (row_units p row)
unfolding layout layout_of
row_sizes p end_of-Ty = refl
row_sizes p (more_of-Ty t rest) = ap (λ s. sizes (units_in p t) ++ s) (row_sizes p rest) ∙ sym (sizes_append (units_in p t) (row_units p rest))

pub tuple_sizes : (p : Program) (shape : _) (row : Row_of-Ty _) → sizes (units_in p (Tuple' shape row)) ≡ sizes (row_units p row)
unfolding layout layout_of
tuple_sizes p shape row = order_sizes (fold_types (layout_step (layouts_after [] p.aggregates)) row) ∙ row_sizes p row

pub tuple_not_array : (shape : _) (row : Row_of-Ty _) → is_array (Tuple' shape row) ≡ false
unfolding is_array out-Ty out
tuple_not_array shape row = refl

pub tuple_not_void : (shape : _) (row : Row_of-Ty _) → is_void (Tuple' shape row) ≡ false
unfolding is_void out-Ty out
tuple_not_void shape row = refl

pub tuple_not_scalar : (shape : _) (row : Row_of-Ty _) → is_scalar (Tuple' shape row) ≡ false
unfolding is_scalar out-Ty out
tuple_not_scalar shape row = refl
