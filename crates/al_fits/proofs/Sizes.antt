-- Sound types are small, and so is what they are made of.
use Rattle.std.proofs.Common.{◌≡◌, ℕ, ◌<◌, ◌≤◌, Bool, true, false, List, length, refl, ap, arith}
use Rattle.std.specs.Prelude.{◌^◌, if◌then◌else◌}
use Rattle.std.proofs.lemmas.Bool.{and_parts, leb-true}
use Rattle.al_base.specs.declared.arith.Kind.{Kind}
use Rattle.al_base.specs.declared.arith.Kind.TheVariants.{Byte, Sint, Usint, Int, Uint, Lint, Ulint}
use Rattle.al_typed.specs.declared.ty.Ty.{Ty, Void, Integer, Pointer', Array', Chan', Tuple', Aggregate, Function', end_of-Ty, more_of-Ty}
use Rattle.al_typed.specs.declared.ty.Ty.TheBlock.{hidden-the_row-Ty-0}
use denote.Hole.Carrier.{hidden}
use Rattle.al_typed.specs.declared.ty.Ty.TheVariants as ty
use Rattle.al_typed.specs.declared.program.Aggregate.{Aggregate as AggregateRow}
use Rattle.al_typed.specs.declared.program.Program.{Program}
use Rattle.al_typed.specs.Types.{bytes_of, is_array}
use Rattle.al_typed.specs.Layout.{Layout, nothing, of_bytes, layout, layout_of, size_of, units_of, words_of}
use Rattle.al_typed.specs.WellTyped.{is_sound, is_small}
use Rattle.al_typed.proofs.Layouts.{layout-Void, layout-Integer, layout-Pointer, layout-Chan}
use Rattle.al_typed.proofs.Fitting.{layout_fits}
use Rattle.al_meaning.specs.Places.{words_in}
use Rattle.al_control_values.specs.Fits.{IsSmall}

-- ---- sound types are small

small_of : (rows : List AggregateRow) (t : Ty) → is_small rows t ≡ true → size_of rows t ≤ 2 ^ 28
small_of rows t h = leb-true (size_of rows t) (2 ^ 28) h

integer_small : (k : Kind) → (of_bytes (bytes_of k)).size ≤ 8
integer_small Byte = omega arith
integer_small Sint = omega arith
integer_small Usint = omega arith
integer_small Int = omega arith
integer_small Uint = omega arith
integer_small Lint = omega arith
integer_small Ulint = omega arith

sized : (rows : List AggregateRow) (t : Ty) (l : Layout) → layout rows t ≡ l → l.size ≤ 8 → size_of rows t ≤ 2 ^ 28
sized rows t l e le = let same : size_of rows t ≡ l.size = ap (λ (m : Layout). m.size) e in omega arith

function_layout : (rows : List AggregateRow) (a : _) (returns : Ty) (b : _) (parameters : _) → layout rows (Function' a (more_of-Ty returns end_of-Ty) b parameters) ≡ nothing
unfolding layout layout_of
function_layout rows a returns b parameters = refl

pub sound_small : (p : Program) (t : Ty) → is_sound p.aggregates t ≡ true → IsSmall p t
unfolding hidden-the_row-Ty-0 hidden
sound_small p Void h = sized p.aggregates ty.Void nothing (layout-Void p.aggregates) (omega arith)
sound_small p (Integer k) h = sized p.aggregates (ty.Integer k) _ (layout-Integer p.aggregates k) (integer_small k)
sound_small p (Pointer' _ (more_of-Ty to end_of-Ty)) h = sized p.aggregates (ty.Pointer to) _ (layout-Pointer p.aggregates to) (omega arith)
sound_small p (Array' _ (more_of-Ty element end_of-Ty) count) h = small_of p.aggregates (ty.Array element count) (and_parts _ _ h).1
sound_small p (Chan' _ (more_of-Ty element end_of-Ty) capacity) h = sized p.aggregates (ty.Chan element capacity) _ (layout-Chan p.aggregates element capacity) (omega arith)
sound_small p (Tuple' shape parts) h = small_of p.aggregates (Tuple' shape parts) (and_parts _ _ h).1
sound_small p (Aggregate number) h = small_of p.aggregates (ty.Aggregate number) (and_parts _ _ h).1
sound_small p (Function' a (more_of-Ty returns end_of-Ty) b parameters) h = sized p.aggregates _ nothing (function_layout p.aggregates a returns b parameters) (omega arith)

-- ---- what soundness says of each form

pub sound_pointer : (rows : List AggregateRow) (t : Ty) → is_sound rows (ty.Pointer t) ≡ is_sound rows t
unfolding hidden-the_row-Ty-0 hidden
sound_pointer rows t = refl

pub sound_element : (rows : List AggregateRow) (t : Ty) (count : ℕ) → is_sound rows (ty.Array t count) ≡ true → is_sound rows t ≡ true
unfolding hidden-the_row-Ty-0 hidden
sound_element rows t count h = (and_parts _ _ (and_parts _ _ (and_parts _ _ h).0).0).0

pub sound_sent : (rows : List AggregateRow) (t : Ty) (capacity : ℕ) → is_sound rows (ty.Chan t capacity) ≡ true → is_sound rows t ≡ true
unfolding hidden-the_row-Ty-0 hidden
sound_sent rows t capacity h = (and_parts _ _ (and_parts _ _ h).0).0

-- ---- words

-- a small type has few units, and words
at_most_words : (p : Program) (t : Ty) → IsSmall p t → words_in p t ≤ 2 ^ 28
unfolding words_of
at_most_words p t small = on (is_array t)
  where
    few : length (units_of p.aggregates t) ≤ 2 ^ 28
    few = omega (arith, (layout_fits p.aggregates t).few, small)

    on : (b : Bool) → (if b then 1 else length (units_of p.aggregates t)) ≤ 2 ^ 28
    on true = omega arith
    on false = few

pub few_words : (p : Program) (t : Ty) → IsSmall p t → words_in p t < 2 ^ 32
few_words p t small = omega (arith, at_most_words p t small)
