-- Values of tuples, and of targets, are those of their parts.
use Rattle.std.proofs.Common.{◌≡◌, ℕ, suc, ◌^◌, ◌<◌, ◌≤◌, List, [], ◌∷◌, ◌++◌, length, map, refl, sym, ap, ap₂, ◌∙◌, subst, ◌⊎◌, inl, inr, arith, append-nil, append_assoc}
use Rattle.std.specs.Prelude.{Bool, true, ◌&&◌}
use Rattle.std.specs.List.{flat_map}
use Rattle.std.proofs.lemmas.Grind.{common_steps}
use Rattle.al_base.specs.declared.arith.Kind.{Kind}
use Rattle.al_base.specs.declared.arith.Kind.TheVariants as kind
use Rattle.al_typed.specs.declared.layout.Unit.{Unit as StorageUnit}
use Rattle.al_typed.specs.declared.program.Aggregate.{Aggregate}
use Rattle.al_typed.specs.declared.program.Program.{Program}
use Rattle.al_typed.specs.declared.ty.Ty.{Ty, Void, Integer, Pointer', Array', Chan', Tuple', Aggregate as Aggregate_, Function', Row_of-Ty, end_of-Ty, more_of-Ty, items-the_row-Ty, items_hidden-the_row-Ty-1}
use Rattle.al_typed.specs.declared.ty.Ty.TheVariants as ty
use Rattle.al_typed.specs.declared.ty.Ty.TheViews.{out-Ty}
use Rattle.al_typed.specs.declared.ty.Ty.TheBlock.{hidden-the_row-Ty-0, hidden-the_row-Ty-1}
use denote.Hole.Carrier.{hidden, out}
use Rattle.al_typed.specs.declared.expression.TExpr.{Row_of-TExpr, end_of-TExpr, more_of-TExpr, Row_of-TTarget, end_of-TTarget, more_of-TTarget}
use Rattle.al_typed.specs.declared.expression.TTarget.{TTarget, Dropped, Parts'}
use Rattle.al_typed.specs.declared.expression.PrintPiece.{PrintPiece}
use Rattle.al_typed.specs.declared.expression.PrintPiece.TheVariants as print
use Rattle.al_typed.specs.ExpressionForms as form
use Rattle.al_typed.specs.Types.{is_void, is_array, points_to_complete}
use Rattle.al_typed.specs.Typed.{type_of, target_type, target_types, row_types}
use Rattle.al_typed.specs.Layout.{layout, layout_of, size_of}
use Rattle.al_typed.specs.WellTyped.{Scope, IsTarget, AreTargets, IsPromoted, Prints, is_sound, is_small, is_stepped}
use Rattle.al_meaning.specs.Here.{units_in}
use Rattle.al_meaning.specs.Parts.{exprs}
use Rattle.al_meaning.specs.Evaluate.{leaves_of, leaves_of_all}
use Rattle.al_lower_words.proofs.Integers.{integer_not_void, integer_not_array, pointer_not_void, pointer_not_array}
use Rattle.al_lower_claims.proofs.Claims.{Setting, UnitsOf}
use Rattle.al_lower_conversions.proofs.Sizes.{sizes, fits_by_sizes, sizes_append, row_units, tuple_sizes}
use Rattle.al_lower_values.proofs.Rows.{UnitsOfAll}
use Rattle.al_lower_expressions.proofs.Types.{both_hold, IsPart, AreParts, IsPointer}

-- ---- tuples

pub tuple_part : (ts : List Ty) → IsPart (ty.Tuple ts)
unfolding is_void is_array out-Ty out
tuple_part ts = record { not_void = refl; not_array = refl }

pub flat_append : (p : Program) (ts us : List Ty) → flat_map (units_in p) (ts ++ us) ≡ flat_map (units_in p) ts ++ flat_map (units_in p) us
flat_append p [] us = refl
flat_append p (t ∷ ts) us = ap (λ l. units_in p t ++ l) (flat_append p ts us) ∙ sym (append_assoc (units_in p t) (flat_map (units_in p) ts) (flat_map (units_in p) us))

row_flat : (p : Program) {m : _} (r : Row_of-Ty m) → row_units p r ≡ flat_map (units_in p) (items-the_row-Ty m r)
row_flat p end_of-Ty = refl
row_flat p (more_of-Ty t rest) = ap (λ l. units_in p t ++ l) (row_flat p rest)

pub tuple_units : (p : Program) (ts : List Ty) → sizes (units_in p (ty.Tuple ts)) ≡ sizes (flat_map (units_in p) ts)
tuple_units p ts = tuple_sizes p _ (hidden-the_row-Ty-1 ts) ∙ ap sizes (row_flat p (hidden-the_row-Ty-1 ts) ∙ ap (flat_map (units_in p)) (items_hidden-the_row-Ty-1 ts))

pub tuple_of_parts : (k : Setting) (t : Ty) (ts : List Ty) → t ≡ ty.Tuple ts → (v : List ℕ) → UnitsOfAll k ts v → UnitsOf k t v
tuple_of_parts k t ts e v h = subst (λ t. UnitsOf k t v) (sym e) (fits_by_sizes (flat_map (units_in k.ways.program) ts) (units_in k.ways.program (ty.Tuple ts)) v (sym (tuple_units k.ways.program ts)) h)

length_sizes : (us : List StorageUnit) → length (sizes us) ≡ length us
length_sizes [] = refl
length_sizes (u ∷ us) = ap suc (length_sizes us)

pub same_lengths : (us vs : List StorageUnit) → sizes us ≡ sizes vs → length us ≡ length vs
same_lengths us vs e = sym (length_sizes us) ∙ (ap length e ∙ length_sizes vs)

-- ---- targets

mutual
  unfolding IsTarget AreTargets

  pub target_sizes : (p : Program) (s : Scope) (target : TTarget) → IsTarget s target → sizes (units_in p (target_type target)) ≡ sizes (flat_map (units_in p) (leaves_of target))
  target_sizes p s (form.into place) h = ap sizes (sym (append-nil (units_in p (target_type (form.into place)))))
  target_sizes p s (Dropped t) h = ap sizes (sym (append-nil (units_in p t)))
  target_sizes p s (Parts' t _ parts) h = ap (λ t. sizes (units_in p t)) h.1.1 ∙ (tuple_units p (target_types parts) ∙ targets_sizes p s parts h.1.0)

  pub targets_sizes : (p : Program) (s : Scope) {m : _} (row : Row_of-TTarget m) → AreTargets s row → sizes (flat_map (units_in p) (target_types row)) ≡ sizes (flat_map (units_in p) (leaves_of_all row))
  targets_sizes p s end_of-TTarget h = refl
  targets_sizes p s (more_of-TTarget target rest) h =
      sizes_append (units_in p (target_type target)) (flat_map (units_in p) (target_types rest))
      ∙ (ap₂ (λ (a b : List ℕ). a ++ b) (target_sizes p s target h.0) (targets_sizes p s rest h.1)
      ∙ (sym (sizes_append (flat_map (units_in p) (leaves_of target)) (flat_map (units_in p) (leaves_of_all rest))) ∙ ap sizes (sym (flat_append p (leaves_of target) (leaves_of_all rest)))))

pub target_to_parts : (k : Setting) (s : Scope) (target : TTarget) → IsTarget s target → (v : List ℕ) → UnitsOf k (target_type target) v → UnitsOfAll k (leaves_of target) v
target_to_parts k s target h v fits = fits_by_sizes (units_in k.ways.program (target_type target)) (flat_map (units_in k.ways.program) (leaves_of target)) v (target_sizes k.ways.program s target h) fits

-- ---- what is printed and what steps

promoted_part : (t : Ty) → IsPromoted t → IsPart t
promoted_part t h = subst IsPart (sym h.1.0) (record { not_void = integer_not_void h.0; not_array = integer_not_array h.0 })

pub printed_parts : (format : List PrintPiece) (ts : List Ty) → Prints format ts → AreParts ts
printed_parts [] [] h = tt
printed_parts [] (t ∷ ts) h = elim h [ ]
printed_parts (print.Byte b ∷ rest) ts h = printed_parts rest ts h
printed_parts (print.Percent ∷ rest) ts h = printed_parts rest ts h
printed_parts (print.Text ∷ rest) (t ∷ ts) h = (subst IsPart (sym h.0) (record { not_void = pointer_not_void _; not_array = pointer_not_array _ }), printed_parts rest ts h.1)
printed_parts (print.Text ∷ rest) [] h = tt
printed_parts (print.Signed ∷ rest) (t ∷ ts) h = (promoted_part t h.0, printed_parts rest ts h.1)
printed_parts (print.Unsigned ∷ rest) (t ∷ ts) h = (promoted_part t h.0, printed_parts rest ts h.1)
printed_parts (print.Hexadecimal ∷ rest) (t ∷ ts) h = (promoted_part t h.0, printed_parts rest ts h.1)
printed_parts (print.Character ∷ rest) (t ∷ ts) h = (promoted_part t h.0, printed_parts rest ts h.1)
printed_parts (_ ∷ rest) [] h = tt

pub types_of_exprs : {m : _} (r : Row_of-TExpr m) → row_types r ≡ map type_of (exprs r)
types_of_exprs end_of-TExpr = refl
types_of_exprs (more_of-TExpr e rest) = ap (λ ts. type_of e ∷ ts) (types_of_exprs rest)

pub stepped_cases : (rows : List Aggregate) (t : Ty) → is_stepped rows t ≡ true → ((i : Kind) × (t ≡ ty.Integer i)) ⊎ IsPointer t
unfolding is_stepped points_to_complete out-Ty out hidden-the_row-Ty-0 hidden
stepped_cases rows (Integer i) e = inl (i, refl)
stepped_cases rows (Pointer' tt (more_of-Ty to end_of-Ty)) e = inr (record { to = to; is = refl })
stepped_cases rows Void e = absurd (cc)
stepped_cases rows (Array' _ element n) e = absurd (cc)
stepped_cases rows (Chan' _ element n) e = absurd (cc)
stepped_cases rows (Tuple' _ parts) e = absurd (cc)
stepped_cases rows (Aggregate_ n) e = absurd (cc)
stepped_cases rows (Function' _ r _ ps) e = absurd (cc)

-- ---- sizes are words

integer_size : (rows : List Aggregate) (j : Kind) → size_of rows (Integer j) < 2 ^ 32
unfolding layout layout_of
integer_size rows kind.Byte = omega arith
integer_size rows kind.Sint = omega arith
integer_size rows kind.Usint = omega arith
integer_size rows kind.Int = omega arith
integer_size rows kind.Uint = omega arith
integer_size rows kind.Lint = omega arith
integer_size rows kind.Ulint = omega arith

small_word : (rows : List Aggregate) (t : Ty) → is_small rows t ≡ true → size_of rows t < 2 ^ 32
small_word rows t e = let le : size_of rows t ≤ 2 ^ 28 = grind (arith, common_steps, e) in omega (arith, le)

last_holds : (a b : Bool) → (a && b) ≡ true → b ≡ true
last_holds a b e = (both_hold a b e).1

pub size_word : (rows : List Aggregate) (t : Ty) → is_sound rows t ≡ true → size_of rows t < 2 ^ 32
unfolding layout layout_of hidden-the_row-Ty-0 hidden
size_word rows Void e = omega arith
size_word rows (Integer j) e = integer_size rows j
size_word rows (Pointer' _ (more_of-Ty to end_of-Ty)) e = omega arith
size_word rows (Array' tt (more_of-Ty element end_of-Ty) n) e = small_word rows (ty.Array element n) (last_holds _ _ e)
size_word rows (Chan' _ (more_of-Ty element end_of-Ty) n) e = omega arith
size_word rows (Tuple' s parts) e = small_word rows (Tuple' s parts) (last_holds _ _ e)
size_word rows (Aggregate_ n) e = small_word rows (ty.Aggregate n) (last_holds _ _ e)
size_word rows (Function' _ (more_of-Ty r end_of-Ty) _ ps) e = omega arith
