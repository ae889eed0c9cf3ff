-- Which kinds of types have values, and what stays where there are more aggregates.
use Rattle.std.proofs.Common.{◌≡◌, ℕ, ◌+◌, ◌<◌, ◌≤◌, inl, inr, length-append, Bool, true, false, List, [], ◌∷◌, ◌++◌, map, take, length, get_or, Option, Some, None, arith, refl, ap, sym, ◌∙◌}
use Rattle.std.specs.Prelude.{slice_get, unwrap_or, ◌&&◌}
use Rattle.std.specs.List.{list_all}
use Rattle.std.proofs.lemmas.List.{get_or_append_left, take_all}
use Rattle.std.proofs.lemmas.List.Folds.{list_all_more}
use Rattle.std.proofs.lemmas.Option.{slice_get-get_or, slice_get_cases}
use Rattle.al_base.specs.declared.arith.Kind.{Kind}
use Rattle.al_typed.specs.declared.program.Aggregate.{Aggregate}
use Rattle.al_typed.specs.declared.ty.Ty.{Ty, Void, Integer, Pointer', Array', Chan', Tuple', Aggregate as Aggregate_, Function', Row_of-Ty, end_of-Ty, more_of-Ty, items_hidden-the_row-Ty-1}
use Rattle.al_typed.specs.declared.ty.Ty.TheVariants as ty
use Rattle.al_typed.specs.declared.ty.Ty.TheBlock.{hidden-the_row-Ty-0, hidden-the_row-Ty-1}
use denote.Hole.Carrier.{hidden}
use Rattle.al_typed.specs.TyFold.{fold_ty, fold_types}
use Rattle.al_typed.specs.Types.{has_body, is_complete, is_complete_step}
use Rattle.al_typed.specs.Layout.{Layout, in_order, layout, layout_of, layout_step, layouts_after, nothing, repeated}
use Rattle.al_typed.proofs.Layouts.{fold_types-items, layouts-append, layouts-go_on, layouts-length}

pub is_complete-Void : (rows : List Aggregate) → is_complete rows ty.Void ≡ false
unfolding is_complete
is_complete-Void rows = refl

pub is_complete-Integer : (rows : List Aggregate) (kind : Kind) → is_complete rows (ty.Integer kind) ≡ true
unfolding is_complete
is_complete-Integer rows kind = refl

pub is_complete-Pointer : (rows : List Aggregate) (to : Ty) → is_complete rows (ty.Pointer to) ≡ true
unfolding is_complete hidden-the_row-Ty-0 hidden
is_complete-Pointer rows to = refl

pub is_complete-Array : (rows : List Aggregate) (element : Ty) (count : ℕ) → is_complete rows (ty.Array element count) ≡ is_complete rows element
unfolding is_complete hidden-the_row-Ty-0 hidden
is_complete-Array rows element count = refl

pub is_complete-Chan : (rows : List Aggregate) (element : Ty) (capacity : ℕ) → is_complete rows (ty.Chan element capacity) ≡ true
unfolding is_complete hidden-the_row-Ty-0 hidden
is_complete-Chan rows element capacity = refl

all_of : {X : Type 0} (p : X → Bool) (xs : List X) → list_all (λ b. b) (map p xs) ≡ list_all p xs
all_of p [] = refl
all_of p (x ∷ xs) = ap (λ b. p x && b) (all_of p xs)

pub is_complete-Tuple : (rows : List Aggregate) (parts : List Ty) → is_complete rows (ty.Tuple parts) ≡ list_all (is_complete rows) parts
unfolding is_complete
is_complete-Tuple rows parts =
    ap (list_all (λ b. b))
    (fold_types-items (is_complete_step rows) (hidden-the_row-Ty-1 parts) ∙ ap (map (fold_ty (is_complete_step rows))) (items_hidden-the_row-Ty-1 parts))
    ∙ all_of (fold_ty (is_complete_step rows)) parts

pub is_complete-Aggregate : (rows : List Aggregate) (k : ℕ) → is_complete rows (ty.Aggregate k) ≡ has_body (slice_get rows k)
unfolding is_complete
is_complete-Aggregate rows k = refl

pub is_complete-Function : (rows : List Aggregate) (returns : Ty) (parameters : List Ty) → is_complete rows (ty.Function returns parameters) ≡ false
unfolding is_complete hidden-the_row-Ty-0 hidden
is_complete-Function rows returns parameters = refl

pub ruleset is_complete_is = (is_complete-Void, is_complete-Integer, is_complete-Pointer, is_complete-Array, is_complete-Chan, is_complete-Tuple, is_complete-Aggregate, is_complete-Function)

-- ---- types in a row

pub one_more_is :
    (rows : List Aggregate) (ts : List Ty) (i : _) (t : Ty) (b : Bool) → i < length ts → t ≡ get_or ts i t → list_all (is_complete rows) (take i ts) ≡ true
    → b ≡ is_complete rows t → b ≡ true → list_all (is_complete rows) (take (i + 1) ts) ≡ true
one_more_is rows ts i t b h is before found so =
    list_all_more (is_complete rows) ts i t h
    ∙ ap (λ x. x && is_complete rows (get_or ts i t)) before
    ∙ sym (ap (is_complete rows) is) ∙ sym found ∙ so

pub all_so_far :
    (rows : List Aggregate) (ts : List Ty) (i : ℕ) → length ts ≤ i → list_all (is_complete rows) (take i ts) ≡ true
    → true ≡ list_all (is_complete rows) ts
all_so_far rows ts i past is = sym (sym (ap (list_all (is_complete rows)) (take_all i ts past)) ∙ is)

-- ---- more aggregates

both : (a b : Bool) → (a && b) ≡ true → (a ≡ true) × (b ≡ true)
both true b h = (refl, h)
both false b h = absurd (cc)

slice_get-before : {A : Type 0} (xs ys : List A) (k : ℕ) → k < length xs → slice_get (xs ++ ys) k ≡ slice_get xs k
slice_get-before [] ys k h = absurd (omega arith)
slice_get-before (x ∷ xs) ys k h =
    let here = slice_get-get_or (x ∷ xs) k x h in
    let there = slice_get-get_or ((x ∷ xs) ++ ys) k x (omega (arith, length-append (x ∷ xs) ys)) in
    there ∙ ap Some (get_or_append_left (x ∷ xs) ys x k h) ∙ sym here

body_within : (rows : List Aggregate) (k : ℕ) → has_body (slice_get rows k) ≡ true → k < length rows
body_within rows k h = elim (slice_get_cases rows k).1 [
  | inl x ↦ x.1
  | inr x ↦ absurd (no_body (slice_get rows k) h x.1)
]
  where
    no_body : (o : Option Aggregate) → has_body o ≡ true → o ≡ None → ⊥
    no_body None h e = cc
    no_body (Some a) h e = cc

mutual
  fold_stays :
      (rows more : List Aggregate) (known further : List Layout) (t : Ty) → length known ≡ length rows
      → fold_ty (is_complete_step rows) t ≡ true → fold_ty (layout_step (known ++ further)) t ≡ fold_ty (layout_step known) t
  fold_stays rows more known further Void count h = refl
  fold_stays rows more known further (Integer kind) count h = refl
  fold_stays rows more known further (Pointer' _ (more_of-Ty to end_of-Ty)) count h = refl
  fold_stays rows more known further (Array' _ (more_of-Ty element end_of-Ty) n) count h =
      ap (repeated n) (fold_stays rows more known further element count h)
  fold_stays rows more known further (Chan' _ (more_of-Ty element end_of-Ty) capacity) count h = refl
  fold_stays rows more known further (Tuple' _ parts) count h = ap in_order (folds_stay rows more known further parts count h)
  fold_stays rows more known further (Aggregate_ number) count h =
      let within = body_within rows number h in
      ap (λ o. unwrap_or o nothing) (slice_get-before known further number (omega arith))
  fold_stays rows more known further (Function' _ (more_of-Ty returns end_of-Ty) _ parameters) count h = refl

  folds_stay :
      (rows more : List Aggregate) (known further : List Layout) {m : _} (row : Row_of-Ty m) → length known ≡ length rows
      → list_all (λ b. b) (fold_types (is_complete_step rows) row) ≡ true
      → fold_types (layout_step (known ++ further)) row ≡ fold_types (layout_step known) row
  folds_stay rows more known further end_of-Ty count h = refl
  folds_stay rows more known further (more_of-Ty t rest) count h =
      let so = both (fold_ty (is_complete_step rows) t) (list_all (λ b. b) (fold_types (is_complete_step rows) rest)) h in
      ap (λ l. l ∷ fold_types (layout_step (known ++ further)) rest) (fold_stays rows more known further t count so.0)
      ∙ ap (λ ls. fold_ty (layout_step known) t ∷ ls) (folds_stay rows more known further rest count so.1)

-- A type that is complete keeps its layout where there are more aggregates.
pub layout-stays : (rows more : List Aggregate) (t : Ty) → is_complete rows t ≡ true → layout (rows ++ more) t ≡ layout rows t
unfolding layout layout_of is_complete
layout-stays rows more t h =
    let goes = layouts-go_on (layouts_after [] rows) more in
    ap (λ ls. fold_ty (layout_step ls) t) (layouts-append [] rows more ∙ goes.is)
    ∙ fold_stays rows more (layouts_after [] rows) goes.more t (layouts-length rows) h

mutual
  fold_complete : (rows more : List Aggregate) (t : Ty) → fold_ty (is_complete_step rows) t ≡ true → fold_ty (is_complete_step (rows ++ more)) t ≡ true
  fold_complete rows more Void h = h
  fold_complete rows more (Integer kind) h = h
  fold_complete rows more (Pointer' _ (more_of-Ty to end_of-Ty)) h = h
  fold_complete rows more (Array' _ (more_of-Ty element end_of-Ty) n) h = fold_complete rows more element h
  fold_complete rows more (Chan' _ (more_of-Ty element end_of-Ty) capacity) h = h
  fold_complete rows more (Tuple' _ parts) h = folds_complete rows more parts h
  fold_complete rows more (Aggregate_ number) h = ap has_body (slice_get-before rows more number (body_within rows number h)) ∙ h
  fold_complete rows more (Function' _ (more_of-Ty returns end_of-Ty) _ parameters) h = h

  folds_complete :
      (rows more : List Aggregate) {m : _} (row : Row_of-Ty m) → list_all (λ b. b) (fold_types (is_complete_step rows) row) ≡ true
      → list_all (λ b. b) (fold_types (is_complete_step (rows ++ more)) row) ≡ true
  folds_complete rows more end_of-Ty h = h
  folds_complete rows more (more_of-Ty t rest) h =
      let so = both (fold_ty (is_complete_step rows) t) (list_all (λ b. b) (fold_types (is_complete_step rows) rest)) h in
      ap (λ b. b && list_all (λ x. x) (fold_types (is_complete_step (rows ++ more)) rest)) (fold_complete rows more t so.0)
      ∙ folds_complete rows more rest so.1

-- and it stays complete
pub is_complete-stays : (rows more : List Aggregate) (t : Ty) → is_complete rows t ≡ true → is_complete (rows ++ more) t ≡ true
unfolding is_complete
is_complete-stays rows more t h = fold_complete rows more t h
