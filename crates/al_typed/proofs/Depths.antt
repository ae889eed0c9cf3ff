-- How deep types and lists of aggregates are: what a recursion that goes from an aggregate to its members falls by.
use Rattle.std.proofs.Common.{◌≡◌, ℕ, ◌+◌, ◌<◌, ◌≤◌, max, zero, suc, List, [], ◌∷◌, map, take, length, arith, ap, sym, ◌∙◌, get_or, Some}
use Rattle.std.specs.Prelude.{slice_get, sum_by, unwrap_or}
use Rattle.std.proofs.lemmas.List.Sums.{sum_by_more_le}
use Rattle.std.proofs.lemmas.Option.{slice_get_within, get_or_from_slice_get}
use Rattle.al_typed.specs.declared.program.Aggregate.{Aggregate}
use Rattle.al_typed.specs.declared.ty.Ty.{Ty, items_hidden-the_row-Ty-1}
use Rattle.al_typed.specs.declared.ty.Ty.TheOpen.{Ty-F}
use Rattle.al_typed.specs.declared.ty.Ty.TheVariants as ty
use Rattle.al_typed.specs.declared.ty.Ty.TheBlock.{hidden-the_row-Ty-0, hidden-the_row-Ty-1}
use denote.Hole.Carrier.{hidden}
use Rattle.al_typed.specs.TyFold.{fold_ty}
use Rattle.al_typed.specs.Layout.{members_of}
use Rattle.al_typed.proofs.Layouts.{fold_types-items}

abbrev pub greatest : List ℕ → ℕ
greatest [] = 0
greatest (n ∷ ns) = max n (greatest ns)

abbrev pub depth_step : Ty-F ℕ → ℕ
depth_step (Ty-F.Array element count) = element + 1
depth_step (Ty-F.Tuple parts) = greatest parts + 1
depth_step _ = 1

unfoldable pub depth : Ty → ℕ
depth = fold_ty depth_step

abbrev pub deepest : List Ty → ℕ
deepest ts = greatest (map depth ts)

pub depth-Array : (t element given : Ty) (count : ℕ) → t ≡ ty.Array element count → given ≡ element → depth t ≡ depth given + 1
unfolding depth hidden-the_row-Ty-0 hidden
depth-Array t element given count is same = ap depth is ∙ ap (λ e. depth e + 1) (sym same)

pub depth-Tuple : (t : Ty) (parts given : List Ty) → t ≡ ty.Tuple parts → given ≡ parts → depth t ≡ deepest given + 1
unfolding depth
depth-Tuple t parts given is same =
    ap depth is
    ∙ ap (λ ns. greatest ns + 1) (fold_types-items depth_step (hidden-the_row-Ty-1 parts) ∙ ap (map depth) (items_hidden-the_row-Ty-1 parts))
    ∙ ap (λ ts. deepest ts + 1) (sym same)

pub depth-Aggregate : (t : Ty) (k : ℕ) → t ≡ ty.Aggregate k → depth t ≡ 1
unfolding depth
depth-Aggregate t k is = ap depth is

pub deepest-at : (ts : List Ty) (i : ℕ) (t : Ty) → i < length ts → t ≡ get_or ts i t → depth t ≤ deepest ts
deepest-at [] i t h is = absurd (omega arith)
deepest-at (x ∷ ts) zero t h is = let same : depth t ≡ depth x = ap depth is in omega arith
deepest-at (x ∷ ts) (suc i) t h is = let rest = deepest-at ts i t (omega arith) is in omega arith

-- enough for the members of all aggregates, one behind another
abbrev pub depth_of : List Aggregate → ℕ
depth_of rows = sum_by (λ (a : Aggregate). deepest (members_of (Some a))) rows

-- what stands before an aggregate, and its members
pub depth-before :
    (rows : List Aggregate) (k : ℕ) (a : Aggregate) (ms given : List Ty) → slice_get rows k ≡ Some a → a.members ≡ Some ms → given ≡ ms
    → depth_of (take k rows) + deepest given ≤ depth_of rows
depth-before rows k a ms given e is same =
    let within = slice_get_within rows k a e in
    let f : Aggregate → ℕ = λ (b : Aggregate). deepest (members_of (Some b)) in
    let more : depth_of (take k rows) + f (get_or rows k a) ≤ depth_of rows = sum_by_more_le f rows k a within in
    let there : f (get_or rows k a) ≡ f a = ap f (get_or_from_slice_get rows k a a e) in
    let mine : f a ≡ deepest given = ap (λ o. deepest (unwrap_or o [])) is ∙ ap deepest (sym same) in
    omega arith
