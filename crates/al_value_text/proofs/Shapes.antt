-- What each kind of type is shown as.
use Rattle.std.proofs.Common.{◌≡◌, ℕ, ◌+◌, ◌*◌, ◌<◌, ◌≤◌, suc, zero, List, get_or, drop, subst, length-take, inl, inr, [], ◌∷◌, ◌++◌, map, take, length, length-append, Option, Some, None, arith, refl, ap, sym, ◌∙◌, append_assoc}
use Rattle.std.specs.Prelude.{slice_get, unwrap_or, sum_by, replicate, true, false}
use Rattle.std.proofs.lemmas.List.{append-nil, take-append-drop}
use Rattle.std.proofs.lemmas.List.Sums.{sum_by-cons}
use Rattle.std.proofs.lemmas.List.Folds.{sum_by-replicate}
use Rattle.std.proofs.lemmas.Option.{slice_get_within, slice_get-get_or, slice_get_past, slice_get_cases}
use Rattle.std.proofs.lemmas.Bool.{cases_lt}
use Rattle.std.proofs.Math.Seq.{get_or-append_seam, drop-cons}
use Rattle.al_base.specs.declared.arith.Kind.{Kind}
use Rattle.al_typed.specs.declared.ty.Ty.{Ty, items_hidden-the_row-Ty-1}
use Rattle.al_typed.specs.declared.ty.Ty.TheOpen.{Ty-F}
use Rattle.al_typed.specs.declared.ty.Ty.TheVariants as ty
use Rattle.al_typed.specs.declared.ty.Ty.TheBlock.{hidden-the_row-Ty-0, hidden-the_row-Ty-1}
use denote.Hole.Carrier.{hidden}
use Rattle.al_typed.specs.declared.program.Aggregate.{Aggregate}
use Rattle.al_typed.specs.TyFold.{fold_ty}
use Rattle.al_typed.proofs.Layouts.{fold_types-items}
use Rattle.al_value_text.specs.Values.{Shown, shown_in, shown_of, shown_step, shown_after, aggregate_shown, members_shown, words_in, nothing, integer, address, parts, of_units}

pub shown-Void : (rows : List Aggregate) → shown_in rows ty.Void ≡ nothing
unfolding shown_in shown_of
shown-Void rows = refl

pub shown-Integer : (rows : List Aggregate) (kind : Kind) → shown_in rows (ty.Integer kind) ≡ integer kind
unfolding shown_in shown_of
shown-Integer rows kind = refl

pub shown-Pointer : (rows : List Aggregate) (to : Ty) → shown_in rows (ty.Pointer to) ≡ address
unfolding shown_in shown_of hidden-the_row-Ty-0 hidden
shown-Pointer rows to = refl

pub shown-Array : (rows : List Aggregate) (element : Ty) (count : ℕ) → shown_in rows (ty.Array element count) ≡ parts (replicate count (shown_in rows element))
unfolding shown_in shown_of hidden-the_row-Ty-0 hidden
shown-Array rows element count = refl

pub shown-Chan : (rows : List Aggregate) (element : Ty) (capacity : ℕ) → shown_in rows (ty.Chan element capacity) ≡ address
unfolding shown_in shown_of hidden-the_row-Ty-0 hidden
shown-Chan rows element capacity = refl

pub shown-Tuple : (rows : List Aggregate) (types : List Ty) → shown_in rows (ty.Tuple types) ≡ parts (map (shown_in rows) types)
unfolding shown_in shown_of
shown-Tuple rows types =
    let step : Ty-F Shown → Shown = shown_step (shown_after [] rows) in
    ap parts (fold_types-items step (hidden-the_row-Ty-1 types) ∙ ap (map (fold_ty step)) (items_hidden-the_row-Ty-1 types))

pub shown-Function : (rows : List Aggregate) (returns : Ty) (parameters : List Ty) → shown_in rows (ty.Function returns parameters) ≡ nothing
unfolding shown_in shown_of hidden-the_row-Ty-0 hidden
shown-Function rows returns parameters = refl

pub ruleset shown_is = (shown-Void, shown-Integer, shown-Pointer, shown-Array, shown-Chan, shown-Tuple, shown-Function)

-- ---- the list of aggregates

shown-Aggregate : (rows : List Aggregate) (k : ℕ) → shown_in rows (ty.Aggregate k) ≡ unwrap_or (slice_get (shown_after [] rows) k) nothing
unfolding shown_in shown_of
shown-Aggregate rows k = refl

shown-append : (known : List Shown) (front back : List Aggregate) → shown_after known (front ++ back) ≡ shown_after (shown_after known front) back
unfolding shown_after
shown-append known [] back = refl
shown-append known (a ∷ front) back = shown-append (known ++ aggregate_shown known a ∷ []) front back

-- what was known stays, and each aggregate adds one
record GoesOn (known : List Shown) (rows : List Aggregate) : Type 0 where
  more : List Shown
  is : shown_after known rows ≡ known ++ more
  count : length more ≡ length rows

shown-go_on : (known : List Shown) (rows : List Aggregate) → GoesOn known rows
unfolding shown_after
shown-go_on known [] = record { more = []; is = sym (append-nil known); count = refl }
shown-go_on known (a ∷ rest) =
    let here = aggregate_shown known a in
    let g = shown-go_on (known ++ here ∷ []) rest in
    record { more = here ∷ g.more; is = g.is ∙ append_assoc known (here ∷ []) g.more; count = ap suc g.count }

shown-length : (rows : List Aggregate) → length (shown_after [] rows) ≡ length rows
shown-length rows = let g = shown-go_on [] rows in ap length g.is ∙ g.count

slice_get_seam : {A : Type 0} (front : List A) (x : A) (back : List A) (k : ℕ) → length front ≡ k → slice_get (front ++ x ∷ back) k ≡ Some x
slice_get_seam front x back k e =
    subst (λ (n : ℕ). slice_get (front ++ x ∷ back) n ≡ Some x) e (slice_get-get_or (front ++ x ∷ back) (length front) x (omega (arith, length-append front (x ∷ back))) ∙ ap Some (get_or-append_seam front x back x))

split_at : {A : Type 0} (xs : List A) (k : ℕ) (x : A) → slice_get xs k ≡ Some x → xs ≡ take k xs ++ x ∷ drop (suc k) xs
split_at xs k x e =
    let within = slice_get_within xs k x e in
    let at : get_or xs k x ≡ x = cc (slice_get-get_or xs k x within, e) in
    sym (take-append-drop k xs) ∙ ap (λ l. take k xs ++ l) (drop-cons xs k x within) ∙ ap (λ y. take k xs ++ y ∷ drop (suc k) xs) at

shown-at :
    (rows : List Aggregate) (k : ℕ) (a : Aggregate) → slice_get rows k ≡ Some a
    → slice_get (shown_after [] rows) k ≡ Some (aggregate_shown (shown_after [] (take k rows)) a)
unfolding shown_after
shown-at rows k a e =
    let known = shown_after [] (take k rows) in
    let here = aggregate_shown known a in
    let g = shown-go_on (known ++ here ∷ []) (drop (suc k) rows) in
    let split : shown_after [] rows ≡ known ++ here ∷ g.more =
    ap (λ l. shown_after [] l) (split_at rows k a e)
    ∙ shown-append [] (take k rows) (a ∷ drop (suc k) rows)
    ∙ g.is
    ∙ append_assoc known (here ∷ []) g.more in
    let count : length known ≡ k = shown-length (take k rows) ∙ omega (arith, length-take k rows, slice_get_within rows k a e) in
    ap (λ l. slice_get l k) split ∙ slice_get_seam known here g.more k count

-- a number that no aggregate has
pub shown-none : (rows : List Aggregate) (k : ℕ) → slice_get rows k ≡ None → shown_in rows (ty.Aggregate k) ≡ nothing
shown-none rows k e =
    let past : length rows ≤ k = elim (cases_lt k (length rows)) [
      | inl within ↦ absurd (none_is_past rows k within e)
      | inr past ↦ past
    ] in
    shown-Aggregate rows k ∙ ap (λ o. unwrap_or o nothing) (slice_get_past (shown_after [] rows) k (omega (arith, shown-length rows)))
  where
    none_is_past : (rows : List Aggregate) (k : ℕ) → k < length rows → slice_get rows k ≡ None → ⊥
    none_is_past rows k within e = elim (slice_get_cases rows k).1 [ inl x ↦ cc (x.2, e) | inr x ↦ omega (arith, x.0) ]

-- an aggregate is shown by those before it
shown-row :
    (rows : List Aggregate) (k : ℕ) (a : Aggregate) → slice_get rows k ≡ Some a
    → shown_in rows (ty.Aggregate k) ≡ members_shown (shown_after [] (take k rows)) a.is_union a.units (unwrap_or a.members [])
unfolding aggregate_shown
shown-row rows k a e = shown-Aggregate rows k ∙ ap (λ o. unwrap_or o nothing) (shown-at rows k a e)

pub shown-union :
    (rows : List Aggregate) (k : ℕ) (a : Aggregate) → slice_get rows k ≡ Some a → a.is_union ≡ true → shown_in rows (ty.Aggregate k) ≡ of_units a.units
shown-union rows k a e so = shown-row rows k a e ∙ ap (λ u. members_shown (shown_after [] (take k rows)) u a.units (unwrap_or a.members [])) so

pub shown-bodiless :
    (rows : List Aggregate) (k : ℕ) (a : Aggregate) → slice_get rows k ≡ Some a → a.is_union ≡ false → a.members ≡ None → shown_in rows (ty.Aggregate k) ≡ parts []
shown-bodiless rows k a e not is =
    let known = shown_after [] (take k rows) in
    shown-row rows k a e
    ∙ ap (λ u. members_shown known u a.units (unwrap_or a.members [])) not
    ∙ ap (λ ms. members_shown known false a.units (unwrap_or ms [])) is

pub shown-members :
    (rows : List Aggregate) (k : ℕ) (a : Aggregate) (ms given : List Ty) → slice_get rows k ≡ Some a → a.is_union ≡ false → a.members ≡ Some ms → given ≡ ms
    → shown_in rows (ty.Aggregate k) ≡ parts (map (shown_in (take k rows)) given)
unfolding shown_in
shown-members rows k a ms given e not is same =
    let known = shown_after [] (take k rows) in
    shown-row rows k a e
    ∙ ap (λ u. members_shown known u a.units (unwrap_or a.members [])) not
    ∙ ap (λ m. members_shown known false a.units (unwrap_or m [])) is
    ∙ ap (λ ts. parts (map (shown_in (take k rows)) ts)) (sym same)

-- ---- how many words values have

pub words_of_all : (rows : List Aggregate) (types : List Ty) → sum_by (λ (s : Shown). s.words) (map (shown_in rows) types) ≡ sum_by (words_in rows) types
words_of_all rows [] = refl
words_of_all rows (t ∷ ts) =
    sum_by-cons (λ (s : Shown). s.words) (shown_in rows t) (map (shown_in rows) ts)
    ∙ ap (λ n. words_in rows t + n) (words_of_all rows ts)
    ∙ sym (sum_by-cons (words_in rows) t ts)

words_of_same : (s : Shown) (count : ℕ) → sum_by (λ (s : Shown). s.words) (replicate count s) ≡ count * s.words
words_of_same s count = sum_by-replicate (λ (s : Shown). s.words) count s

pub words-Void : (rows : List Aggregate) → words_in rows ty.Void ≡ 0
words-Void rows = ap (λ (s : Shown). s.words) (shown-Void rows)

pub words-Integer : (rows : List Aggregate) (kind : Kind) → words_in rows (ty.Integer kind) ≡ (integer kind).words
words-Integer rows kind = ap (λ (s : Shown). s.words) (shown-Integer rows kind)

pub words-Pointer : (rows : List Aggregate) (to : Ty) → words_in rows (ty.Pointer to) ≡ 1
words-Pointer rows to = ap (λ (s : Shown). s.words) (shown-Pointer rows to)

pub words-Array : (rows : List Aggregate) (element : Ty) (count : ℕ) → words_in rows (ty.Array element count) ≡ count * words_in rows element
words-Array rows element count = ap (λ (s : Shown). s.words) (shown-Array rows element count) ∙ words_of_same (shown_in rows element) count

pub words-Chan : (rows : List Aggregate) (element : Ty) (capacity : ℕ) → words_in rows (ty.Chan element capacity) ≡ 1
words-Chan rows element capacity = ap (λ (s : Shown). s.words) (shown-Chan rows element capacity)

pub words-Tuple : (rows : List Aggregate) (types : List Ty) → words_in rows (ty.Tuple types) ≡ sum_by (words_in rows) types
words-Tuple rows types = ap (λ (s : Shown). s.words) (shown-Tuple rows types) ∙ words_of_all rows types

pub words-Function : (rows : List Aggregate) (returns : Ty) (parameters : List Ty) → words_in rows (ty.Function returns parameters) ≡ 0
words-Function rows returns parameters = ap (λ (s : Shown). s.words) (shown-Function rows returns parameters)
