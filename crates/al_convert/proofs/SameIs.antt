-- Which types are the same, for each form of types.
use Rattle.std.proofs.Common.{◌≡◌, ℕ, suc, ◌+◌, ◌<◌, Bool, true, false, ◌&&◌, List, [], ◌∷◌, map, length, get_or, drop, Option, Some, None, refl, ap, ◌∙◌, sym, drop-cons, add-one}
use Rattle.std.proofs.lemmas.List.{drop_all}
use Rattle.al_base.specs.declared.arith.Kind.{Kind}
use Rattle.al_typed.specs.declared.ty.Ty.{Ty, fold-Ty, fold-roll-Ty}
use Rattle.al_typed.specs.declared.ty.Ty.TheVariants as ty
use Rattle.al_typed.specs.declared.ty.Ty.TheOpen.{Ty-F}
use Rattle.al_typed.specs.Types.{is_void}
use Rattle.al_convert.specs.Same.{Test, same, same_step, same_list, are_same, all_pass, passes, pass, is_of_kind, is_aggregate, parts_of, pointed, chan_element, array_element, returns_of, parameters_of}

same_at-Void : (c : Bool) → same c ty.Void ≡ same_step c Ty-F.Void
unfolding same
same_at-Void c = ap (fold-Ty Test (same_step c)) (sym ty.rolls-Void) ∙ fold-roll-Ty Test (same_step c) Ty-F.Void

same_at-Integer : (c : Bool) (kind : Kind) → same c (ty.Integer kind) ≡ same_step c (Ty-F.Integer kind)
unfolding same
same_at-Integer c kind = ap (fold-Ty Test (same_step c)) (sym (ty.rolls-Integer kind)) ∙ fold-roll-Ty Test (same_step c) (Ty-F.Integer kind)

same_at-Pointer : (c : Bool) (x : Ty) → same c (ty.Pointer x) ≡ same_step c (Ty-F.Pointer (same c x))
unfolding same
same_at-Pointer c x = ap (fold-Ty Test (same_step c)) (sym (ty.rolls-Pointer x)) ∙ fold-roll-Ty Test (same_step c) (Ty-F.Pointer x)

same_at-Array : (c : Bool) (x : Ty) (count : ℕ) → same c (ty.Array x count) ≡ same_step c (Ty-F.Array (same c x) count)
unfolding same
same_at-Array c x count = ap (fold-Ty Test (same_step c)) (sym (ty.rolls-Array x count)) ∙ fold-roll-Ty Test (same_step c) (Ty-F.Array x count)

same_at-Chan : (c : Bool) (x : Ty) (capacity : ℕ) → same c (ty.Chan x capacity) ≡ same_step c (Ty-F.Chan (same c x) capacity)
unfolding same
same_at-Chan c x capacity = ap (fold-Ty Test (same_step c)) (sym (ty.rolls-Chan x capacity)) ∙ fold-roll-Ty Test (same_step c) (Ty-F.Chan x capacity)

same_at-Tuple : (c : Bool) (xs : List Ty) → same c (ty.Tuple xs) ≡ same_step c (Ty-F.Tuple (map (same c) xs))
unfolding same
same_at-Tuple c xs = ap (fold-Ty Test (same_step c)) (sym (ty.rolls-Tuple xs)) ∙ fold-roll-Ty Test (same_step c) (Ty-F.Tuple xs)

same_at-Aggregate : (c : Bool) (number : ℕ) → same c (ty.Aggregate number) ≡ same_step c (Ty-F.Aggregate number)
unfolding same
same_at-Aggregate c number = ap (fold-Ty Test (same_step c)) (sym (ty.rolls-Aggregate number)) ∙ fold-roll-Ty Test (same_step c) (Ty-F.Aggregate number)

same_at-Function : (c : Bool) (x : Ty) (xs : List Ty) → same c (ty.Function x xs) ≡ same_step c (Ty-F.Function (same c x) (map (same c) xs))
unfolding same
same_at-Function c x xs = ap (fold-Ty Test (same_step c)) (sym (ty.rolls-Function x xs)) ∙ fold-roll-Ty Test (same_step c) (Ty-F.Function x xs)

all_pass-same : (c : Bool) (xs ys : List Ty) → all_pass (map (same c) xs) ys ≡ same_list c xs ys
all_pass-same c [] [] = refl
all_pass-same c [] (y ∷ ys) = refl
all_pass-same c (x ∷ xs) [] = refl
all_pass-same c (x ∷ xs) (y ∷ ys) = ap (λ b. same c x y && b) (all_pass-same c xs ys)

pass-same : (c : Bool) (xs : List Ty) (ys : Option (List Ty)) → pass (map (same c) xs) ys ≡ are_same c xs ys
pass-same c xs None = refl
pass-same c xs (Some ys) = all_pass-same c xs ys

pub same-Void : (c : Bool) (t : Ty) → same c ty.Void t ≡ is_void t
same-Void c t = ap (λ (f : Test). f t) (same_at-Void c)

pub same-Integer : (c : Bool) (kind : Kind) (t : Ty) → same c (ty.Integer kind) t ≡ is_of_kind kind t
same-Integer c kind t = ap (λ (f : Test). f t) (same_at-Integer c kind)

pub same-Pointer : (c : Bool) (x : Ty) (t : Ty) → same c (ty.Pointer x) t ≡ passes (same c x) (pointed t)
same-Pointer c x t = ap (λ (f : Test). f t) (same_at-Pointer c x)

pub same-Array : (c : Bool) (x : Ty) (count : ℕ) (t : Ty) → same c (ty.Array x count) t ≡ passes (same c x) (array_element count t)
same-Array c x count t = ap (λ (f : Test). f t) (same_at-Array c x count)

pub same-Chan : (c : Bool) (x : Ty) (capacity : ℕ) (t : Ty) → same c (ty.Chan x capacity) t ≡ passes (same c x) (chan_element c capacity t)
same-Chan c x capacity t = ap (λ (f : Test). f t) (same_at-Chan c x capacity)

pub same-Tuple : (c : Bool) (xs : List Ty) (t : Ty) → same c (ty.Tuple xs) t ≡ are_same c xs (parts_of t)
same-Tuple c xs t = ap (λ (f : Test). f t) (same_at-Tuple c xs) ∙ pass-same c xs (parts_of t)

pub same-Aggregate : (c : Bool) (number : ℕ) (t : Ty) → same c (ty.Aggregate number) t ≡ is_aggregate number t
same-Aggregate c number t = ap (λ (f : Test). f t) (same_at-Aggregate c number)

pub same-Function : (c : Bool) (x : Ty) (xs : List Ty) (t : Ty) → same c (ty.Function x xs) t ≡ (passes (same c x) (returns_of t) && are_same c xs (parameters_of t))
same-Function c x xs t = ap (λ (f : Test). f t) (same_at-Function c x xs) ∙ ap (λ b. passes (same c x) (returns_of t) && b) (pass-same c xs (parameters_of t))

pub ruleset same_is = (same-Void, same-Integer, same-Pointer, same-Array, same-Chan, same-Tuple, same-Aggregate, same-Function)

-- ---- two lists, from a place on

pub same_list-from : (c : Bool) (xs ys : List Ty) (i : ℕ) (x y : Ty) → i < length xs → i < length ys → x ≡ get_or xs i x → y ≡ get_or ys i y
    → same_list c (drop i xs) (drop i ys) ≡ (same c x y && same_list c (drop (i + 1) xs) (drop (i + 1) ys))
same_list-from c xs ys i x y h k e d =
    rw (add-one) (ap (λ l. same_list c l (drop i ys)) (drop-cons xs i x h) ∙ ap (same_list c (get_or xs i x ∷ drop (suc i) xs)) (drop-cons ys i y k)
    ∙ ap (λ u. same c u (get_or ys i y) && same_list c (drop (suc i) xs) (drop (suc i) ys)) (sym e) ∙ ap (λ u. same c x u && same_list c (drop (suc i) xs) (drop (suc i) ys)) (sym d))

pub same_list-length : (c : Bool) (xs ys : List Ty) → same_list c xs ys ≡ true → length xs ≡ length ys
same_list-length c [] [] h = refl
same_list-length c [] (y ∷ ys) h = cc
same_list-length c (x ∷ xs) [] h = cc
same_list-length c (x ∷ xs) (y ∷ ys) h = elim (same c x y) as (λ b. (b && same_list c xs ys) ≡ true → suc (length xs) ≡ suc (length ys)) [ true ↦ λ h. ap suc (same_list-length c xs ys h) | false ↦ λ h. cc ] h

pub ruleset lists = (same_list-from, same_list-length, drop_all)
