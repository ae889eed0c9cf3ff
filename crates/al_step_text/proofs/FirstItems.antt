-- Elements of a list that stands from the other end.
use Rattle.std.proofs.Common.{◌≡◌, ℕ, ◌-◌, ◌<◌, ◌≤◌, List, length, reverse, map, get_or, Some, None, option_map, ap, sym, subst, ◌∙◌}
use Rattle.std.specs.Prelude.{slice_get}
use Rattle.std.proofs.lemmas.List.{get_or-reverse, reverse-reverse, length-reverse}
use Rattle.std.proofs.lemmas.Option.{slice_get-get_or, slice_get_past, slice_get-map}

pub element_is : {X : Type 0} (xs ys : List X) (number : ℕ) (x : X) → ys ≡ reverse xs → number < length ys → x ≡ get_or ys (length ys - 1 - number) x → slice_get xs number ≡ Some x
element_is xs ys number x e l is =
    let back : reverse ys ≡ xs = ap reverse e ∙ reverse-reverse xs in
    let same : get_or xs number x ≡ x = ap (λ zs. get_or zs number x) (sym back) ∙ (get_or-reverse ys number x l ∙ sym is) in
    let few : number < length xs = subst (λ n. number < n) (ap length e ∙ length-reverse xs) l in
    slice_get-get_or xs number x few ∙ ap Some same

pub element_none : {X : Type 0} (xs ys : List X) (number : ℕ) → ys ≡ reverse xs → length ys ≤ number → slice_get xs number ≡ None
element_none xs ys number e l = slice_get_past xs number (subst (λ n. n ≤ number) (ap length e ∙ length-reverse xs) l)

pub mapped_is : {X Y : Type 0} (f : X → Y) (xs ys : List X) (number : ℕ) (x : X) → ys ≡ reverse xs → number < length ys → x ≡ get_or ys (length ys - 1 - number) x → slice_get (map f xs) number ≡ Some (f x)
mapped_is f xs ys number x e l is = slice_get-map f xs number ∙ ap (option_map f) (element_is xs ys number x e l is)

pub mapped_none : {X Y : Type 0} (f : X → Y) (xs ys : List X) (number : ℕ) → ys ≡ reverse xs → length ys ≤ number → slice_get (map f xs) number ≡ None
mapped_none f xs ys number e l = slice_get-map f xs number ∙ ap (option_map f) (element_none xs ys number e l)

pub ruleset elements_are = (mapped_is, mapped_none)

pub at_is : {X : Type 0} (xs : List X) (number : ℕ) (x : X) → number < length xs → x ≡ get_or xs number x → slice_get xs number ≡ Some x
at_is xs number x l is = slice_get-get_or xs number x l ∙ ap Some (sym is)

pub ruleset elements_at = (at_is, slice_get_past)
