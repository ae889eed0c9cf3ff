-- Which types are the same, for each kind of type.
use Rattle.std.proofs.Common.{◌≡◌, ℕ, suc, ◌+◌, ◌<◌, true, false, ◌&&◌, List, [], ◌∷◌, map, length, get_or, drop, Option, Some, None, refl, ap, ◌∙◌, sym, drop-cons, add-one}
use Rattle.std.proofs.lemmas.List.{drop_all}
use Rattle.al_tree.specs.declared.type_tree.BasicType.{BasicType}
use Rattle.al_poly.specs.declared.concrete_type.ConcreteType.{ConcreteType, fold-ConcreteType, fold-roll-ConcreteType}
use Rattle.al_poly.specs.declared.concrete_type.ConcreteType.TheVariants as ty
use Rattle.al_poly.specs.declared.concrete_type.ConcreteType.TheOpen.{ConcreteType-F}
use Rattle.al_poly.specs.Concrete.{Test, same, same_step, same_list, are_same, all_pass, passes, pass, is_basic, is_named, arguments_of, parts_of, chan_element, pointed, array_element, returns_of, parameters_of}

same_at-Basic : (basic : BasicType) → same (ty.Basic basic) ≡ same_step (ConcreteType-F.Basic basic)
unfolding same
same_at-Basic basic = ap (fold-ConcreteType Test same_step) (sym (ty.rolls-Basic basic)) ∙ fold-roll-ConcreteType Test same_step (ConcreteType-F.Basic basic)

same_at-Named : (name : ℕ) → same (ty.Named name) ≡ same_step (ConcreteType-F.Named name)
unfolding same
same_at-Named name = ap (fold-ConcreteType Test same_step) (sym (ty.rolls-Named name)) ∙ fold-roll-ConcreteType Test same_step (ConcreteType-F.Named name)

same_at-Instance : (adt : ℕ) (xs : List ConcreteType) → same (ty.Instance adt xs) ≡ same_step (ConcreteType-F.Instance adt (map same xs))
unfolding same
same_at-Instance adt xs = ap (fold-ConcreteType Test same_step) (sym (ty.rolls-Instance adt xs)) ∙ fold-roll-ConcreteType Test same_step (ConcreteType-F.Instance adt xs)

same_at-Tuple : (xs : List ConcreteType) → same (ty.Tuple xs) ≡ same_step (ConcreteType-F.Tuple (map same xs))
unfolding same
same_at-Tuple xs = ap (fold-ConcreteType Test same_step) (sym (ty.rolls-Tuple xs)) ∙ fold-roll-ConcreteType Test same_step (ConcreteType-F.Tuple xs)

same_at-Chan : (x : ConcreteType) (capacity : ℕ) → same (ty.Chan x capacity) ≡ same_step (ConcreteType-F.Chan (same x) capacity)
unfolding same
same_at-Chan x capacity = ap (fold-ConcreteType Test same_step) (sym (ty.rolls-Chan x capacity)) ∙ fold-roll-ConcreteType Test same_step (ConcreteType-F.Chan x capacity)

same_at-Pointer : (x : ConcreteType) → same (ty.Pointer x) ≡ same_step (ConcreteType-F.Pointer (same x))
unfolding same
same_at-Pointer x = ap (fold-ConcreteType Test same_step) (sym (ty.rolls-Pointer x)) ∙ fold-roll-ConcreteType Test same_step (ConcreteType-F.Pointer x)

same_at-Array : (x : ConcreteType) (count : ℕ) → same (ty.Array x count) ≡ same_step (ConcreteType-F.Array (same x) count)
unfolding same
same_at-Array x count = ap (fold-ConcreteType Test same_step) (sym (ty.rolls-Array x count)) ∙ fold-roll-ConcreteType Test same_step (ConcreteType-F.Array x count)

same_at-Function : (x : ConcreteType) (xs : List ConcreteType) → same (ty.Function x xs) ≡ same_step (ConcreteType-F.Function (same x) (map same xs))
unfolding same
same_at-Function x xs = ap (fold-ConcreteType Test same_step) (sym (ty.rolls-Function x xs)) ∙ fold-roll-ConcreteType Test same_step (ConcreteType-F.Function x xs)

all_pass-same : (xs ys : List ConcreteType) → all_pass (map same xs) ys ≡ same_list xs ys
all_pass-same [] [] = refl
all_pass-same [] (y ∷ ys) = refl
all_pass-same (x ∷ xs) [] = refl
all_pass-same (x ∷ xs) (y ∷ ys) = ap (λ b. same x y && b) (all_pass-same xs ys)

pass-same : (xs : List ConcreteType) (ys : Option (List ConcreteType)) → pass (map same xs) ys ≡ are_same xs ys
pass-same xs None = refl
pass-same xs (Some ys) = all_pass-same xs ys

pub same-Basic : (basic : BasicType) (t : ConcreteType) → same (ty.Basic basic) t ≡ is_basic basic t
same-Basic basic t = ap (λ (f : Test). f t) (same_at-Basic basic)

pub same-Named : (name : ℕ) (t : ConcreteType) → same (ty.Named name) t ≡ is_named name t
same-Named name t = ap (λ (f : Test). f t) (same_at-Named name)

pub same-Instance : (adt : ℕ) (xs : List ConcreteType) (t : ConcreteType) → same (ty.Instance adt xs) t ≡ are_same xs (arguments_of adt t)
same-Instance adt xs t = ap (λ (f : Test). f t) (same_at-Instance adt xs) ∙ pass-same xs (arguments_of adt t)

pub same-Tuple : (xs : List ConcreteType) (t : ConcreteType) → same (ty.Tuple xs) t ≡ are_same xs (parts_of t)
same-Tuple xs t = ap (λ (f : Test). f t) (same_at-Tuple xs) ∙ pass-same xs (parts_of t)

pub same-Chan : (x : ConcreteType) (capacity : ℕ) (t : ConcreteType) → same (ty.Chan x capacity) t ≡ passes (same x) (chan_element capacity t)
same-Chan x capacity t = ap (λ (f : Test). f t) (same_at-Chan x capacity)

pub same-Pointer : (x : ConcreteType) (t : ConcreteType) → same (ty.Pointer x) t ≡ passes (same x) (pointed t)
same-Pointer x t = ap (λ (f : Test). f t) (same_at-Pointer x)

pub same-Array : (x : ConcreteType) (count : ℕ) (t : ConcreteType) → same (ty.Array x count) t ≡ passes (same x) (array_element count t)
same-Array x count t = ap (λ (f : Test). f t) (same_at-Array x count)

pub same-Function : (x : ConcreteType) (xs : List ConcreteType) (t : ConcreteType) → same (ty.Function x xs) t ≡ (passes (same x) (returns_of t) && are_same xs (parameters_of t))
same-Function x xs t = ap (λ (f : Test). f t) (same_at-Function x xs) ∙ ap (λ b. passes (same x) (returns_of t) && b) (pass-same xs (parameters_of t))

pub ruleset same_is = (same-Basic, same-Named, same-Instance, same-Tuple, same-Chan, same-Pointer, same-Array, same-Function)

-- ---- two lists, from a place on

pub same_list-from : (xs ys : List ConcreteType) (i : ℕ) (x y : ConcreteType) → i < length xs → i < length ys → x ≡ get_or xs i x → y ≡ get_or ys i y
    → same_list (drop i xs) (drop i ys) ≡ (same x y && same_list (drop (i + 1) xs) (drop (i + 1) ys))
same_list-from xs ys i x y h k e d =
    rw (add-one) (ap (λ l. same_list l (drop i ys)) (drop-cons xs i x h) ∙ ap (same_list (get_or xs i x ∷ drop (suc i) xs)) (drop-cons ys i y k)
    ∙ ap (λ u. same u (get_or ys i y) && same_list (drop (suc i) xs) (drop (suc i) ys)) (sym e) ∙ ap (λ u. same x u && same_list (drop (suc i) xs) (drop (suc i) ys)) (sym d))

pub same_list-length : (xs ys : List ConcreteType) → same_list xs ys ≡ true → length xs ≡ length ys
same_list-length [] [] h = refl
same_list-length [] (y ∷ ys) h = cc
same_list-length (x ∷ xs) [] h = cc
same_list-length (x ∷ xs) (y ∷ ys) h = elim (same x y) as (λ b. (b && same_list xs ys) ≡ true → suc (length xs) ≡ suc (length ys)) [ true ↦ λ h. ap suc (same_list-length xs ys h) | false ↦ λ h. cc ] h

pub ruleset lists = (same_list-from, same_list-length, drop_all)
