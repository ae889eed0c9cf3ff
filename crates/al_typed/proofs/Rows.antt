-- Rows of the list of aggregates: fewer of them, and one more.
use Rattle.std.proofs.Common.{◌≡◌, ℕ, ◌<◌, List, [], ◌∷◌, ◌++◌, take, length, length-append, length-take, Option, Some, arith, ap, sym, ◌∙◌, subst, inl, inr, get_or}
use Rattle.std.specs.Prelude.{slice_get, unwrap_or, Bool, true, All}
use Rattle.std.specs.List.{list_all}
use Rattle.std.proofs.lemmas.List.Sums.{AllPass-from_list_all}
use Rattle.std.proofs.lemmas.Bool.{cases_lt}
use Rattle.std.proofs.lemmas.List.{get_or-take, take-take, take-append-le, take_all, get_or_append_left}
use Rattle.std.proofs.lemmas.Option.{slice_get_within, slice_get-get_or, get_or_from_slice_get}
use Rattle.std.proofs.Math.Seq.{get_or-append_seam}
use Rattle.al_typed.specs.declared.program.Aggregate.{Aggregate}
use Rattle.al_typed.specs.declared.ty.Ty.{Ty}
use Rattle.al_typed.specs.Types.{is_complete}
use Rattle.al_typed.specs.Layout.{Keeps, IsLaidOut, layouts_after, aggregate_layout, members_of}

slice_get-take : {A : Type 0} (xs : List A) (j k : ℕ) (x : A) → slice_get (take k xs) j ≡ Some x → (j < k) × (slice_get xs j ≡ Some x)
slice_get-take xs j k x e =
    let within : j < length (take k xs) = slice_get_within (take k xs) j x e in
    let below : j < k = omega (arith, length-take k xs) in
    let inside : j < length xs = omega (arith, length-take k xs) in
    let at : get_or (take k xs) j x ≡ x = get_or_from_slice_get (take k xs) j x x e in
    (below, slice_get-get_or xs j x inside ∙ ap Some (sym (get_or-take k xs j x below) ∙ at))

-- the first rows alone
pub first_laid_out : (rows : List Aggregate) (k : ℕ) → IsLaidOut rows → IsLaidOut (take k rows)
first_laid_out rows k laid = record {
  keeps = λ j a e.
      let at = slice_get-take rows j k a e in
      subst (λ (l : List Aggregate). Keeps a (aggregate_layout (layouts_after [] l) a)) (sym (take-take j k rows (omega (arith, at.0)))) (laid.keeps j a at.1);
  ordered = λ j a e.
      let at = slice_get-take rows j k a e in
      subst (λ (l : List Aggregate). All (λ t. is_complete l t ≡ true) (members_of (Some a))) (sym (take-take j k rows (omega (arith, at.0)))) (laid.ordered j a at.1);
}

take-seam : {A : Type 0} (xs : List A) (y : A) → take (length xs) (xs ++ y ∷ []) ≡ xs
take-seam xs y = take-append-le (length xs) xs (y ∷ []) (omega arith) ∙ take_all (length xs) xs (omega arith)

-- the element at a place of a list with one more at the end
data AtEnd {A : Type 0} (xs : List A) (y : A) (k : ℕ) (x : A) : Type 0 where
  before : k < length xs → slice_get xs k ≡ Some x → AtEnd xs y k x
  last : k ≡ length xs → x ≡ y → AtEnd xs y k x

at_end : {A : Type 0} (xs : List A) (y : A) (k : ℕ) (x : A) → slice_get (xs ++ y ∷ []) k ≡ Some x → AtEnd xs y k x
at_end xs y k x e =
    let within = slice_get_within (xs ++ y ∷ []) k x e in
    let count = length-append xs (y ∷ []) in
    let at : get_or (xs ++ y ∷ []) k x ≡ x = get_or_from_slice_get (xs ++ y ∷ []) k x x e in
    elim (cases_lt k (length xs)) [
      | inl h ↦ before h (slice_get-get_or xs k x h ∙ ap Some (sym (get_or_append_left xs (y ∷ []) x k h) ∙ at))
      | inr h ↦
          let same : length xs ≡ k = omega arith in
          last (sym same) (sym at ∙ sym (ap (λ n. get_or (xs ++ y ∷ []) n x) same) ∙ get_or-append_seam xs y [] x)
    ]

-- A row more: it keeps its layout, and its members are complete without it.
pub more_laid_out :
    (rows : List Aggregate) (a : Aggregate) → IsLaidOut rows → Keeps a (aggregate_layout (layouts_after [] rows) a)
    → All (λ t. is_complete rows t ≡ true) (members_of (Some a)) → IsLaidOut (rows ++ a ∷ [])
more_laid_out rows a laid keeps complete = record {
  keeps = λ k b e.
      elim (at_end rows a k b e) [
        | before h there ↦
            subst (λ (l : List Aggregate). Keeps b (aggregate_layout (layouts_after [] l) b)) (sym (take-append-le k rows (a ∷ []) (omega arith))) (laid.keeps k b there)
        | last here is ↦
            let first : take k (rows ++ a ∷ []) ≡ rows = ap (λ n. take n (rows ++ a ∷ [])) here ∙ take-seam rows a in
            subst (λ (x : Aggregate). Keeps x (aggregate_layout (layouts_after [] (take k (rows ++ a ∷ []))) x)) (sym is)
            (subst (λ (l : List Aggregate). Keeps a (aggregate_layout (layouts_after [] l) a)) (sym first) keeps)
      ];
  ordered = λ k b e.
      elim (at_end rows a k b e) [
        | before h there ↦
            subst (λ (l : List Aggregate). All (λ t. is_complete l t ≡ true) (members_of (Some b))) (sym (take-append-le k rows (a ∷ []) (omega arith))) (laid.ordered k b there)
        | last here is ↦
            let first : take k (rows ++ a ∷ []) ≡ rows = ap (λ n. take n (rows ++ a ∷ [])) here ∙ take-seam rows a in
            subst (λ (x : Aggregate). All (λ t. is_complete (take k (rows ++ a ∷ [])) t ≡ true) (members_of (Some x))) (sym is)
            (subst (λ (l : List Aggregate). All (λ t. is_complete l t ≡ true) (members_of (Some a))) (sym first) complete)
      ];
}

-- the same of a list that a row was pushed to
pub pushed_laid_out :
    (rows new : List Aggregate) (a : Aggregate) (members : List Ty) (complete : Bool) → IsLaidOut rows → complete ≡ list_all (is_complete rows) members
    → complete ≡ true → a.members ≡ Some members → Keeps a (aggregate_layout (layouts_after [] rows) a) → new ≡ rows ++ a ∷ [] → IsLaidOut new
pushed_laid_out rows new a members complete laid found so is keeps pushed =
    let all : All (λ t. is_complete rows t ≡ true) members = AllPass-from_list_all (is_complete rows) members (sym found ∙ so) in
    let mine : members ≡ members_of (Some a) = sym (ap (λ (o : Option (List Ty)). unwrap_or o []) is) in
    subst IsLaidOut (sym pushed) (more_laid_out rows a laid keeps (subst (λ ts. All (λ t. is_complete rows t ≡ true) ts) mine all))
