-- Types that are sound are no larger than types may be.
use Rattle.std.proofs.Common.{◌≡◌, ◌^◌, ◌≤◌, true, List, refl, ap, arith}
use Rattle.std.proofs.lemmas.Bool.{and_parts, leb-true}
use Rattle.al_base.specs.declared.arith.Kind.{Kind}
use Rattle.al_base.specs.declared.arith.Kind.TheVariants.{Byte, Sint, Usint, Int, Uint, Lint, Ulint}
use Rattle.al_typed.specs.declared.ty.Ty.{Ty, Void, Integer, Pointer', Array', Chan', Tuple', Aggregate, Function', end_of-Ty, more_of-Ty}
use Rattle.al_typed.specs.declared.ty.Ty.TheBlock.{hidden-the_row-Ty-0}
use denote.Hole.Carrier.{hidden}
use Rattle.al_typed.specs.declared.ty.Ty.TheVariants as ty
use Rattle.al_typed.specs.declared.program.Aggregate.{Aggregate as AggregateRow}
use Rattle.al_typed.specs.Types.{bytes_of}
use Rattle.al_typed.specs.Layout.{Layout, layout, layout_of, nothing, of_bytes, size_of}
use Rattle.al_typed.specs.WellTyped.{is_small, is_sound, is_stored}
use Rattle.al_typed.proofs.Layouts.{layout-Chan, layout-Integer, layout-Pointer, layout-Void}

small_of : (rows : List AggregateRow) (t : Ty) → is_small rows t ≡ true → size_of rows t ≤ 2 ^ 28
small_of rows t h = leb-true (size_of rows t) (2 ^ 28) h

integer_small : (k : Kind) → (of_bytes (bytes_of k)).size ≤ 8
integer_small Byte = omega arith
integer_small Sint = omega arith
integer_small Usint = omega arith
integer_small Int = omega arith
integer_small Uint = omega arith
integer_small Lint = omega arith
integer_small Ulint = omega arith

sized : (rows : List AggregateRow) (t : Ty) (l : Layout) → layout rows t ≡ l → l.size ≤ 8 → size_of rows t ≤ 2 ^ 28
sized rows t l e le = let same : size_of rows t ≡ l.size = ap (λ (m : Layout). m.size) e in omega arith

function_layout : (rows : List AggregateRow) (a : _) (returns : Ty) (b : _) (parameters : _) → layout rows (Function' a (more_of-Ty returns end_of-Ty) b parameters) ≡ nothing
unfolding layout layout_of
function_layout rows a returns b parameters = refl

pub sound_small : (rows : List AggregateRow) (t : Ty) → is_sound rows t ≡ true → size_of rows t ≤ 2 ^ 28
unfolding hidden-the_row-Ty-0 hidden
sound_small rows Void h = sized rows ty.Void nothing (layout-Void rows) (omega arith)
sound_small rows (Integer k) h = sized rows (ty.Integer k) _ (layout-Integer rows k) (integer_small k)
sound_small rows (Pointer' _ (more_of-Ty to end_of-Ty)) h = sized rows (ty.Pointer to) _ (layout-Pointer rows to) (omega arith)
sound_small rows (Array' _ (more_of-Ty element end_of-Ty) count) h = small_of rows (ty.Array element count) (and_parts _ _ h).1
sound_small rows (Chan' _ (more_of-Ty element end_of-Ty) capacity) h = sized rows (ty.Chan element capacity) _ (layout-Chan rows element capacity) (omega arith)
sound_small rows (Tuple' shape parts) h = small_of rows (Tuple' shape parts) (and_parts _ _ h).1
sound_small rows (Aggregate number) h = small_of rows (ty.Aggregate number) (and_parts _ _ h).1
sound_small rows (Function' a (more_of-Ty returns end_of-Ty) b parameters) h = sized rows _ nothing (function_layout rows a returns b parameters) (omega arith)

pub stored_small : (rows : List AggregateRow) (t : Ty) → is_stored rows t ≡ true → size_of rows t ≤ 2 ^ 28
stored_small rows t h = sound_small rows t (and_parts _ _ h).0
