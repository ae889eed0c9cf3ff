-- What stands on the left of `=`.
use Rattle.std.proofs.Common.{◌≡◌, true, false, ◌&&◌, List, [], ◌∷◌, refl, sym, ap, ap₂, ◌∙◌}
use Rattle.al_typed.specs.declared.program.Aggregate.{Aggregate as AggregateRow}
use Rattle.al_typed.specs.declared.ty.Ty.{Ty, Void, Tuple', items-the_row-Ty}
use Rattle.al_typed.specs.declared.ty.Ty.TheVariants as ty
use Rattle.al_typed.specs.declared.ty.Ty.TheViews.{out-Ty}
use Rattle.al_typed.specs.declared.ty.Ty.TheBlock.{hidden-the_row-Ty-1}
use denote.Hole.Carrier.{out}
use Rattle.al_typed.specs.declared.expression.TExpr.{Row_of-TTarget, end_of-TTarget, more_of-TTarget}
use Rattle.al_typed.specs.declared.expression.TTarget.{TTarget, Dropped, Parts'}
use Rattle.al_typed.specs.ExpressionForms as form
use Rattle.al_typed.specs.Types.{is_complete, is_whole}
use Rattle.al_typed.specs.Typed.{target_type, target_types}
use Rattle.al_typed.specs.WellTyped as well
use Rattle.al_typed.specs.WellTyped.{AreTargets, IsTarget, Scope, are_sound, is_small, is_sound, is_stored, is_word, rows}
use Rattle.al_sound_expressions.specs.Expressions.{AreAimed, IsAimed}
use Rattle.al_sound_operators.proofs.SameTypes.{and_both, row_tuple_is}
use Rattle.al_sound_operators.proofs.SoundTypes.{whole_after}
use Rattle.al_sound_operators.proofs.Conversions.{each_converts, tuples_convert}
use Rattle.al_sound_operators.proofs.OperatorKinds.{not_true}
use Rattle.al_sound_operators.proofs.PlacesAre.{both_true}
use Rattle.al_sound_nodes.proofs.NodesAre.{each_passed, parameters_passed}

-- what is converted to a tuple is a tuple
tuple_before : (a : Ty) (ts : List Ty) → well.converts a (ty.Tuple ts) ≡ true → (xs : List Ty) × (a ≡ ty.Tuple xs)
unfolding is_word out-Ty out
tuple_before (Tuple' s r) ts h = (items-the_row-Ty _ r, row_tuple_is s r)
tuple_before Void ts h = not_true h
tuple_before a ts h = not_true (and_both (is_word a) false h).1

-- the parts of a sound tuple
pub tuple_parts : (rows : List AggregateRow) (xs : List Ty) → is_sound rows (ty.Tuple xs) ≡ true → each_passed rows xs ≡ true
tuple_parts rows xs h = sym (parameters_passed rows xs) ∙ (and_both (are_sound rows (hidden-the_row-Ty-1 xs)) _ h).0

pub sound-Tuple : (rows : List AggregateRow) (xs : List Ty) → each_passed rows xs ≡ true → is_small rows (ty.Tuple xs) ≡ true → is_sound rows (ty.Tuple xs) ≡ true
sound-Tuple rows xs h k = both_true (are_sound rows (hidden-the_row-Ty-1 xs)) (is_small rows (ty.Tuple xs)) (parameters_passed rows xs ∙ h) k

mutual
  unfolding IsTarget AreTargets

  target_is : (s : Scope) (x : TTarget) (from : Ty) → IsAimed s x → well.converts from (target_type x) ≡ true
      → is_sound (rows s) from ≡ true → is_whole (rows s) from ≡ true → IsTarget s x × (is_sound (rows s) (target_type x) ≡ true)
  target_is s (form.into place) from a c o w = (a.0.place, a.0.sound)
  target_is s (Dropped t) from a c o w = (a, (and_both (is_sound (rows s) t) (is_complete (rows s) t) a.0).0)
  target_is s (Parts' t shape parts) from a c o w =
      let ts = target_types parts in
      let xs = tuple_before from ts (sym (ap (well.converts from) a.0) ∙ c) in
      let rest = targets_are s parts xs.0 a.1.1
      (sym (tuples_convert xs.0 ts) ∙ sym (ap₂ well.converts xs.1 a.0) ∙ c)
      (tuple_parts (rows s) xs.0 (sym (ap (is_sound (rows s)) xs.1) ∙ o)) in
      let sound : is_sound (rows s) t ≡ true = ap (is_sound (rows s)) a.0 ∙ sound-Tuple (rows s) ts rest.1 (sym (ap (is_small (rows s)) a.0) ∙ a.1.0) in
      ((sound, (rest.0, a.0)), sound)

  targets_are : (s : Scope) {m : _} (r : Row_of-TTarget m) (xs : List Ty) → AreAimed s r → each_converts xs (target_types r) ≡ true
      → each_passed (rows s) xs ≡ true → AreTargets s r × (each_passed (rows s) (target_types r) ≡ true)
  targets_are s end_of-TTarget [] a c o = (tt, refl)
  targets_are s end_of-TTarget (x ∷ xs) a c o = not_true c
  targets_are s (more_of-TTarget target r) [] a c o = not_true c
  targets_are s (more_of-TTarget target r) (x ∷ xs) a c o =
      let converts = and_both (well.converts x (target_type target)) (each_converts xs (target_types r)) c in
      let passed = and_both (is_sound (rows s) x && is_whole (rows s) x) (each_passed (rows s) xs) o in
      let here = and_both (is_sound (rows s) x) (is_whole (rows s) x) passed.0 in
      let first = target_is s target x a.0 converts.0 here.0 here.1 in
      let rest = targets_are s r xs a.1 converts.1 passed.1 in (
        (first.0, rest.0),
        both_true (is_sound (rows s) (target_type target) && is_whole (rows s) (target_type target)) (each_passed (rows s) (target_types r))
            (both_true (is_sound (rows s) (target_type target)) (is_whole (rows s) (target_type target)) first.1 (whole_after (rows s) x (target_type target) converts.0 here.1 first.1))
            rest.1,
      )

-- what is assigned to is well typed, where what is assigned converts
pub aimed_is : (s : Scope) (x : TTarget) (from : Ty) → IsAimed s x → well.converts from (target_type x) ≡ true
    → is_sound (rows s) from ≡ true → is_whole (rows s) from ≡ true → IsTarget s x × (is_sound (rows s) (target_type x) ≡ true)
aimed_is s x from a c o w = target_is s x from a c o w
