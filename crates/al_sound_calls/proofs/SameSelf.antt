-- A type is the same as itself.
use Rattle.std.proofs.Common.{◌≡◌, ℕ, Bool, true, false, ◌&&◌, if◌then◌else◌, List, [], ◌∷◌, Some, None, refl, ap, ap₂, ◌∙◌}
use Rattle.std.proofs.lemmas.Bool.{eq-eqb}
use Rattle.al_base.specs.declared.arith.Kind.{Kind}
use Rattle.al_base.specs.declared.arith.Kind.TheVariants as kind
use Rattle.al_typed.specs.declared.ty.Ty.{Ty, Void, Integer, Pointer', Array', Chan', Tuple', Aggregate, Function', Row_of-Ty, end_of-Ty, more_of-Ty, items-the_row-Ty}
use Rattle.al_typed.specs.declared.ty.Ty.TheVariants as ty
use Rattle.al_typed.specs.declared.ty.Ty.TheBlock.{hidden-the_row-Ty-0}
use denote.Hole.Carrier.{hidden}
use Rattle.al_typed.specs.Types.{is_void, is_void_at}
use Rattle.al_convert.specs.Same.{same, same_list, same_kind, are_same, passes, is_of_kind, is_of_kind_at, is_aggregate, is_aggregate_at, chan_element, chan_at, array_element, array_at, returns_of, returns_at, parameters_of, parameters_at}
use Rattle.al_convert.proofs.SameIs.{same-Void, same-Integer, same-Pointer, same-Array, same-Chan, same-Tuple, same-Aggregate, same-Function}
use Rattle.al_sound_operators.proofs.SameTypes.{row_tuple_is, row_function_is}
use Rattle.al_sound_operators.proofs.TypeForms.{out_at-Void, out_at-Integer, out_at-Array, out_at-Chan, out_at-Aggregate, out_at-Function, pointed-Pointer, parts_of-Tuple}

kind_self : (k : Kind) → same_kind k k ≡ true
kind_self kind.Byte = refl
kind_self kind.Sint = refl
kind_self kind.Usint = refl
kind_self kind.Int = refl
kind_self kind.Uint = refl
kind_self kind.Lint = refl
kind_self kind.Ulint = refl

void_self : is_void ty.Void ≡ true
unfolding is_void
void_self = ap is_void_at out_at-Void

kind_of_self : (k : Kind) → is_of_kind k (ty.Integer k) ≡ true
unfolding is_of_kind
kind_of_self k = ap (is_of_kind_at k) (out_at-Integer k) ∙ kind_self k

aggregate_self : (n : ℕ) → is_aggregate n (ty.Aggregate n) ≡ true
unfolding is_aggregate
aggregate_self n = ap (is_aggregate_at n) (out_at-Aggregate n) ∙ eq-eqb n n refl

array_self : (x : Ty) (n : ℕ) → array_element n (ty.Array x n) ≡ Some x
unfolding array_element
array_self x n = ap (array_at n) (out_at-Array x n) ∙ ap (λ b. if b then Some x else None) (eq-eqb n n refl)

chan_self : (x : Ty) (n : ℕ) → chan_element false n (ty.Chan x n) ≡ Some x
unfolding chan_element
chan_self x n = ap (chan_at false n) (out_at-Chan x n)

returns_self : (x : Ty) (xs : List Ty) → returns_of (ty.Function x xs) ≡ Some x
unfolding returns_of
returns_self x xs = ap returns_at (out_at-Function x xs)

parameters_self : (x : Ty) (xs : List Ty) → parameters_of (ty.Function x xs) ≡ Some xs
unfolding parameters_of
parameters_self x xs = ap parameters_at (out_at-Function x xs)

mutual
  unfolding hidden-the_row-Ty-0 hidden

  self : (t : Ty) → same false t t ≡ true
  self Void = same-Void false ty.Void ∙ void_self
  self (Integer k) = same-Integer false k (ty.Integer k) ∙ kind_of_self k
  self (Pointer' _ (more_of-Ty x end_of-Ty)) = same-Pointer false x (ty.Pointer x) ∙ ap (passes (same false x)) (pointed-Pointer x) ∙ self x
  self (Array' _ (more_of-Ty x end_of-Ty) n) = same-Array false x n (ty.Array x n) ∙ ap (passes (same false x)) (array_self x n) ∙ self x
  self (Chan' _ (more_of-Ty x end_of-Ty) n) = same-Chan false x n (ty.Chan x n) ∙ ap (passes (same false x)) (chan_self x n) ∙ self x
  self (Tuple' s r) =
      let xs = items-the_row-Ty _ r in
      ap (λ a. same false a a) (row_tuple_is s r) ∙ same-Tuple false xs (ty.Tuple xs) ∙ ap (are_same false xs) (parts_of-Tuple xs) ∙ row_self r
  self (Aggregate n) = same-Aggregate false n (ty.Aggregate n) ∙ aggregate_self n
  self (Function' _ (more_of-Ty x end_of-Ty) s r) =
      let xs = items-the_row-Ty _ r in
      ap (λ a. same false a a) (row_function_is x s r) ∙ same-Function false x xs (ty.Function x xs)
      ∙ ap₂ (λ (p q : Bool). p && q) (ap (passes (same false x)) (returns_self x xs) ∙ self x) (ap (are_same false xs) (parameters_self x xs) ∙ row_self r)

  row_self : {m : _} (r : Row_of-Ty m) → same_list false (items-the_row-Ty m r) (items-the_row-Ty m r) ≡ true
  row_self end_of-Ty = refl
  row_self (more_of-Ty x r) = ap₂ (λ (p q : Bool). p && q) (self x) (row_self r)

pub same_self : (t : Ty) → same false t t ≡ true
same_self t = self t

pub list_self : (ts : List Ty) → same_list false ts ts ≡ true
list_self [] = refl
list_self (t ∷ ts) = ap₂ (λ (p q : Bool). p && q) (self t) (list_self ts)
