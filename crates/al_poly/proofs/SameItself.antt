-- Each type, and each instance, is the same as itself.
use Rattle.std.proofs.Common.{arith, cond, ◌≡◌, ℕ, nat_eq, true, ◌&&◌, List, [], ◌∷◌, map, Some, None, refl, ap, ◌∙◌, sym, subst}
use Rattle.al_tree.specs.declared.type_tree.BasicType.{BasicType}
use Rattle.al_poly.specs.declared.concrete_type.ConcreteType.{ConcreteType, out-ConcreteType, roll-ConcreteType}
use Rattle.al_poly.specs.declared.concrete_type.ConcreteType.TheViews.{out-roll-ConcreteType}
use Rattle.al_poly.specs.declared.concrete_type.ConcreteType.TheFolds.{ind-ConcreteType, map-ConcreteType}
use Rattle.al_poly.specs.declared.concrete_type.ConcreteType.TheVariants as ty
use Rattle.al_poly.specs.declared.concrete_type.ConcreteType.TheOpen.{ConcreteType-F}
use Rattle.al_poly.specs.declared.instance.Instance.{Instance}
use Rattle.al_poly.specs.Concrete.{basic_number, is_basic, is_basic_at, is_named, is_named_at, arguments_of, arguments_at, parts_of, parts_at, chan_element, chan_at, pointed, pointed_at, array_element, array_at, returns_of, returns_at, parameters_of, parameters_at, passes, are_same, same, same_list, same_instance}
use Rattle.al_poly.proofs.ConcreteIs.{same-Basic, same-Named, same-Instance, same-Tuple, same-Chan, same-Pointer, same-Array, same-Function}

nat_eq-self : (n : ℕ) → nat_eq n n ≡ true
nat_eq-self n = grind arith

abbrev IsSelf : ConcreteType → Type 0
IsSelf t = same t t ≡ true

list_self : (es : List ((t : ConcreteType) × IsSelf t)) → same_list (map (λ e. e.0) es) (map (λ e. e.0) es) ≡ true
list_self [] = refl
list_self (e ∷ es) = rw (e.1) (list_self es)

out_at-Basic : (b : BasicType) → out-ConcreteType (ty.Basic b) ≡ ConcreteType-F.Basic b
out_at-Basic b = ap out-ConcreteType (sym (ty.rolls-Basic b)) ∙ out-roll-ConcreteType (ConcreteType-F.Basic b)

out_at-Named : (n : ℕ) → out-ConcreteType (ty.Named n) ≡ ConcreteType-F.Named n
out_at-Named n = ap out-ConcreteType (sym (ty.rolls-Named n)) ∙ out-roll-ConcreteType (ConcreteType-F.Named n)

out_at-Instance : (n : ℕ) (xs : List ConcreteType) → out-ConcreteType (ty.Instance n xs) ≡ ConcreteType-F.Instance n xs
out_at-Instance n xs = ap out-ConcreteType (sym (ty.rolls-Instance n xs)) ∙ out-roll-ConcreteType (ConcreteType-F.Instance n xs)

out_at-Tuple : (xs : List ConcreteType) → out-ConcreteType (ty.Tuple xs) ≡ ConcreteType-F.Tuple xs
out_at-Tuple xs = ap out-ConcreteType (sym (ty.rolls-Tuple xs)) ∙ out-roll-ConcreteType (ConcreteType-F.Tuple xs)

out_at-Chan : (x : ConcreteType) (n : ℕ) → out-ConcreteType (ty.Chan x n) ≡ ConcreteType-F.Chan x n
out_at-Chan x n = ap out-ConcreteType (sym (ty.rolls-Chan x n)) ∙ out-roll-ConcreteType (ConcreteType-F.Chan x n)

out_at-Pointer : (x : ConcreteType) → out-ConcreteType (ty.Pointer x) ≡ ConcreteType-F.Pointer x
out_at-Pointer x = ap out-ConcreteType (sym (ty.rolls-Pointer x)) ∙ out-roll-ConcreteType (ConcreteType-F.Pointer x)

out_at-Array : (x : ConcreteType) (n : ℕ) → out-ConcreteType (ty.Array x n) ≡ ConcreteType-F.Array x n
out_at-Array x n = ap out-ConcreteType (sym (ty.rolls-Array x n)) ∙ out-roll-ConcreteType (ConcreteType-F.Array x n)

out_at-Function : (x : ConcreteType) (xs : List ConcreteType) → out-ConcreteType (ty.Function x xs) ≡ ConcreteType-F.Function x xs
out_at-Function x xs = ap out-ConcreteType (sym (ty.rolls-Function x xs)) ∙ out-roll-ConcreteType (ConcreteType-F.Function x xs)

if-self : {A : Type 0} (n : ℕ) (x y : A) → cond (nat_eq n n) x y ≡ x
if-self n x y = ap (λ b. cond b x y) (nat_eq-self n)

is_basic-self : (b : BasicType) → is_basic b (ty.Basic b) ≡ true
unfolding is_basic
is_basic-self b = ap (is_basic_at b) (out_at-Basic b) ∙ nat_eq-self (basic_number b)

is_named-self : (n : ℕ) → is_named n (ty.Named n) ≡ true
unfolding is_named
is_named-self n = ap (is_named_at n) (out_at-Named n) ∙ nat_eq-self n

arguments_of-self : (n : ℕ) (xs : List ConcreteType) → arguments_of n (ty.Instance n xs) ≡ Some xs
unfolding arguments_of
arguments_of-self n xs = ap (arguments_at n) (out_at-Instance n xs) ∙ if-self n (Some xs) None

parts_of-self : (xs : List ConcreteType) → parts_of (ty.Tuple xs) ≡ Some xs
unfolding parts_of
parts_of-self xs = ap parts_at (out_at-Tuple xs)

chan_element-self : (x : ConcreteType) (n : ℕ) → chan_element n (ty.Chan x n) ≡ Some x
unfolding chan_element
chan_element-self x n = ap (chan_at n) (out_at-Chan x n) ∙ if-self n (Some x) None

pointed-self : (x : ConcreteType) → pointed (ty.Pointer x) ≡ Some x
unfolding pointed
pointed-self x = ap pointed_at (out_at-Pointer x)

array_element-self : (x : ConcreteType) (n : ℕ) → array_element n (ty.Array x n) ≡ Some x
unfolding array_element
array_element-self x n = ap (array_at n) (out_at-Array x n) ∙ if-self n (Some x) None

returns_of-self : (x : ConcreteType) (xs : List ConcreteType) → returns_of (ty.Function x xs) ≡ Some x
unfolding returns_of
returns_of-self x xs = ap returns_at (out_at-Function x xs)

parameters_of-self : (x : ConcreteType) (xs : List ConcreteType) → parameters_of (ty.Function x xs) ≡ Some xs
unfolding parameters_of
parameters_of-self x xs = ap parameters_at (out_at-Function x xs)

abbrev Checked : Type 0
Checked = (t : ConcreteType) × IsSelf t

abbrev types_of : List Checked → List ConcreteType
types_of = map (λ e. e.0)

-- a type whose parts are the same as themselves is, too
self_step : (y : ConcreteType-F Checked) → IsSelf (roll-ConcreteType (map-ConcreteType Checked ConcreteType (λ e. e.0) y))
self_step (ConcreteType-F.Basic b) = subst IsSelf (sym (ty.rolls-Basic b)) (same-Basic b (ty.Basic b) ∙ is_basic-self b)
self_step (ConcreteType-F.Named n) = subst IsSelf (sym (ty.rolls-Named n)) (same-Named n (ty.Named n) ∙ is_named-self n)
self_step (ConcreteType-F.Instance n es) =
    let xs = types_of es in
    subst IsSelf (sym (ty.rolls-Instance n xs)) (same-Instance n xs (ty.Instance n xs) ∙ ap (are_same xs) (arguments_of-self n xs) ∙ list_self es)
self_step (ConcreteType-F.Tuple es) =
    let xs = types_of es in
    subst IsSelf (sym (ty.rolls-Tuple xs)) (same-Tuple xs (ty.Tuple xs) ∙ ap (are_same xs) (parts_of-self xs) ∙ list_self es)
self_step (ConcreteType-F.Chan e n) = subst IsSelf (sym (ty.rolls-Chan e.0 n)) (same-Chan e.0 n (ty.Chan e.0 n) ∙ ap (passes (same e.0)) (chan_element-self e.0 n) ∙ e.1)
self_step (ConcreteType-F.Pointer e) = subst IsSelf (sym (ty.rolls-Pointer e.0)) (same-Pointer e.0 (ty.Pointer e.0) ∙ ap (passes (same e.0)) (pointed-self e.0) ∙ e.1)
self_step (ConcreteType-F.Array e n) = subst IsSelf (sym (ty.rolls-Array e.0 n)) (same-Array e.0 n (ty.Array e.0 n) ∙ ap (passes (same e.0)) (array_element-self e.0 n) ∙ e.1)
self_step (ConcreteType-F.Function e es) =
    let x = e.0 in
    let xs = types_of es in
    subst IsSelf (sym (ty.rolls-Function x xs))
    (same-Function x xs (ty.Function x xs) ∙ ap (λ r. passes (same x) r && are_same xs (parameters_of (ty.Function x xs))) (returns_of-self x xs)
    ∙ ap (λ b. b && are_same xs (parameters_of (ty.Function x xs))) e.1 ∙ ap (are_same xs) (parameters_of-self x xs) ∙ list_self es)

pub same-self : (t : ConcreteType) → IsSelf t
same-self = ind-ConcreteType IsSelf (λ x y is. subst (λ z. IsSelf (roll-ConcreteType z)) is (self_step y))

pub same_list-self : (ts : List ConcreteType) → same_list ts ts ≡ true
same_list-self [] = refl
same_list-self (t ∷ ts) = rw (same-self t) (same_list-self ts)

pub same_instance-self : (i : Instance) → same_instance i i ≡ true
same_instance-self i = rw (nat_eq-self i.adt) (same_list-self i.arguments)
