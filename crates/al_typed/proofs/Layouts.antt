-- The layout of each kind of type.
use Rattle.std.proofs.Common.{◌≡◌, ℕ, ◌<◌, ◌≤◌, suc, List, get_or, drop, subst, length-take, inl, inr, [], ◌∷◌, ◌++◌, map, take, length, length-append, Option, Some, None, arith, refl, ap, sym, ◌∙◌, append_assoc}
use Rattle.al_base.specs.declared.arith.Kind.{Kind}
use Rattle.std.specs.Prelude.{slice_get, unwrap_or, fold, Bool, true, false, ◌^◌}
use Rattle.std.proofs.lemmas.List.{append-nil, take-append-drop}
use Rattle.std.proofs.lemmas.Option.{slice_get_within, slice_get-get_or, slice_get_past, slice_get_cases}
use Rattle.std.proofs.lemmas.Bool.{cases_lt}
use Rattle.al_typed.specs.declared.layout.Room.{Room}
use Rattle.al_typed.specs.declared.layout.PlacedSoFar.{PlacedSoFar}
use Rattle.al_typed.specs.Capped.{capped}
use Rattle.al_typed.proofs.CappedLemmas.{capped-rounded}
use Rattle.std.proofs.Math.Seq.{get_or-append_seam, drop-cons}
use Rattle.al_typed.specs.declared.ty.Ty.{Ty, Row_of-Ty, end_of-Ty, more_of-Ty, items-the_row-Ty, items_hidden-the_row-Ty-1}
use Rattle.al_typed.specs.declared.ty.Ty.TheOpen.{Ty-F}
use Rattle.al_typed.specs.declared.ty.Ty.TheVariants as ty
use Rattle.al_typed.specs.declared.ty.Ty.TheBlock.{hidden-the_row-Ty-0, hidden-the_row-Ty-1}
use denote.Hole.Carrier.{hidden}
use Rattle.al_typed.specs.declared.program.Aggregate.{Aggregate}
use Rattle.al_typed.specs.TyFold.{fold_ty, fold_types}
use Rattle.al_typed.specs.Types.{bytes_of}
use Rattle.al_typed.specs.Layout.{Layout, Run, Extent, Measured, RunsTo, IsLaidOut, rounded, layout, layout_of, layout_step, layouts_after, aggregate_layout, body_layout, members_layout, nothing, single, of_bytes, repeated, in_order, over_each_other, followed, widened, begun}

pub fold_types-items : {A : Type 0} (step : Ty-F A → A) {m : _} (row : Row_of-Ty m) → fold_types step row ≡ map (fold_ty step) (items-the_row-Ty m row)
fold_types-items step end_of-Ty = refl
fold_types-items step (more_of-Ty t rest) = ap (λ l. fold_ty step t ∷ l) (fold_types-items step rest)

pub layout-Void : (rows : List Aggregate) → layout rows ty.Void ≡ nothing
unfolding layout layout_of
layout-Void rows = refl

pub layout-Integer : (rows : List Aggregate) (kind : Kind) → layout rows (ty.Integer kind) ≡ of_bytes (bytes_of kind)
unfolding layout layout_of
layout-Integer rows kind = refl

pub layout-Pointer : (rows : List Aggregate) (to : Ty) → layout rows (ty.Pointer to) ≡ single 4
unfolding layout layout_of hidden-the_row-Ty-0 hidden
layout-Pointer rows to = refl

pub layout-Array : (rows : List Aggregate) (element : Ty) (count : ℕ) → layout rows (ty.Array element count) ≡ repeated count (layout rows element)
unfolding layout layout_of hidden-the_row-Ty-0 hidden
layout-Array rows element count = refl

pub layout-Chan : (rows : List Aggregate) (element : Ty) (capacity : ℕ) → layout rows (ty.Chan element capacity) ≡ single 4
unfolding layout layout_of hidden-the_row-Ty-0 hidden
layout-Chan rows element capacity = refl

pub layout-Tuple : (rows : List Aggregate) (parts : List Ty) → layout rows (ty.Tuple parts) ≡ in_order (map (layout rows) parts)
unfolding layout layout_of
layout-Tuple rows parts =
    let step : Ty-F Layout → Layout = layout_step (layouts_after [] rows) in
    ap in_order (fold_types-items step (hidden-the_row-Ty-1 parts) ∙ ap (map (fold_ty step)) (items_hidden-the_row-Ty-1 parts))

pub layout-Function : (rows : List Aggregate) (returns : Ty) (parameters : List Ty) → layout rows (ty.Function returns parameters) ≡ nothing
unfolding layout layout_of hidden-the_row-Ty-0 hidden
layout-Function rows returns parameters = refl

pub layout-Aggregate : (rows : List Aggregate) (k : ℕ) → layout rows (ty.Aggregate k) ≡ unwrap_or (slice_get (layouts_after [] rows) k) nothing
unfolding layout layout_of
layout-Aggregate rows k = refl

-- ---- the list of aggregates

pub layouts-append : (known : List Layout) (front back : List Aggregate) → layouts_after known (front ++ back) ≡ layouts_after (layouts_after known front) back
unfolding layouts_after
layouts-append known [] back = refl
layouts-append known (a ∷ front) back = layouts-append (known ++ aggregate_layout known a ∷ []) front back

-- what was known stays, and each aggregate adds one
pub record GoesOn (known : List Layout) (rows : List Aggregate) : Type 0 where
  pub more : List Layout
  pub is : layouts_after known rows ≡ known ++ more
  pub count : length more ≡ length rows

pub layouts-go_on : (known : List Layout) (rows : List Aggregate) → GoesOn known rows
unfolding layouts_after
layouts-go_on known [] = record { more = []; is = sym (append-nil known); count = refl }
layouts-go_on known (a ∷ rest) =
    let here = aggregate_layout known a in
    let g = layouts-go_on (known ++ here ∷ []) rest in
    record { more = here ∷ g.more; is = g.is ∙ append_assoc known (here ∷ []) g.more; count = ap suc g.count }

pub layouts-length : (rows : List Aggregate) → length (layouts_after [] rows) ≡ length rows
layouts-length rows = let g = layouts-go_on [] rows in ap length g.is ∙ g.count

slice_get_seam : {A : Type 0} (front : List A) (x : A) (back : List A) (k : ℕ) → length front ≡ k → slice_get (front ++ x ∷ back) k ≡ Some x
slice_get_seam front x back k e =
    subst (λ (n : ℕ). slice_get (front ++ x ∷ back) n ≡ Some x) e (slice_get-get_or (front ++ x ∷ back) (length front) x (omega (arith, length-append front (x ∷ back))) ∙ ap Some (get_or-append_seam front x back x))

split_at : {A : Type 0} (xs : List A) (k : ℕ) (x : A) → slice_get xs k ≡ Some x → xs ≡ take k xs ++ x ∷ drop (suc k) xs
split_at xs k x e =
    let within = slice_get_within xs k x e in
    let at : get_or xs k x ≡ x = cc (slice_get-get_or xs k x within, e) in
    sym (take-append-drop k xs) ∙ ap (λ l. take k xs ++ l) (drop-cons xs k x within) ∙ ap (λ y. take k xs ++ y ∷ drop (suc k) xs) at

-- The layout of an aggregate is found from the ones before it.
pub layouts-at :
    (rows : List Aggregate) (k : ℕ) (a : Aggregate) → slice_get rows k ≡ Some a
    → slice_get (layouts_after [] rows) k ≡ Some (aggregate_layout (layouts_after [] (take k rows)) a)
unfolding layouts_after
layouts-at rows k a e =
    let before = layouts_after [] (take k rows) in
    let here = aggregate_layout before a in
    let g = layouts-go_on (before ++ here ∷ []) (drop (suc k) rows) in
    let split : layouts_after [] rows ≡ before ++ here ∷ g.more =
    ap (λ l. layouts_after [] l) (split_at rows k a e)
    ∙ layouts-append [] (take k rows) (a ∷ drop (suc k) rows)
    ∙ g.is
    ∙ append_assoc before (here ∷ []) g.more in
    let count : length before ≡ k = layouts-length (take k rows) ∙ omega (arith, length-take k rows, slice_get_within rows k a e) in
    ap (λ l. slice_get l k) split ∙ slice_get_seam before here g.more k count

-- a number that no aggregate has
pub layout-none : (rows : List Aggregate) (k : ℕ) → slice_get rows k ≡ None → layout rows (ty.Aggregate k) ≡ nothing
layout-none rows k e =
    let past : length rows ≤ k = elim (cases_lt k (length rows)) [
      | inl within ↦ absurd (none_is_past rows k within e)
      | inr past ↦ past
    ] in
    layout-Aggregate rows k ∙ ap (λ o. unwrap_or o nothing) (slice_get_past (layouts_after [] rows) k (omega (arith, layouts-length rows)))
  where
    none_is_past : (rows : List Aggregate) (k : ℕ) → k < length rows → slice_get rows k ≡ None → ⊥
    none_is_past rows k within e = elim (slice_get_cases rows k).1 [ inl x ↦ cc (x.2, e) | inr x ↦ omega (arith, x.0) ]

pub layout-row :
    (rows : List Aggregate) (k : ℕ) (a : Aggregate) → slice_get rows k ≡ Some a
    → layout rows (ty.Aggregate k) ≡ aggregate_layout (layouts_after [] (take k rows)) a
layout-row rows k a e = layout-Aggregate rows k ∙ ap (λ o. unwrap_or o nothing) (layouts-at rows k a e)

-- ---- alignments are not 0

fold_align : (ls : List Layout) (run : Run) → 1 ≤ run.align → 1 ≤ (fold followed run ls).align
unfolding followed
fold_align [] run h = h
fold_align (l ∷ ls) run h = fold_align ls (followed run l) (omega arith)

fold_widened : (ls : List Layout) (e : Extent) → 1 ≤ e.align → 1 ≤ (fold widened e ls).align
fold_widened [] e h = h
fold_widened (l ∷ ls) e h = fold_widened ls (widened e l) (omega arith)

pub in_order-align : (ls : List Layout) → 1 ≤ (in_order ls).align
unfolding in_order
in_order-align [] = omega arith
in_order-align (l ∷ ls) = fold_align (l ∷ ls) begun (omega arith)

pub over_each_other-align : (ls : List Layout) → 1 ≤ (over_each_other ls).align
unfolding over_each_other
over_each_other-align ls = fold_widened ls (record { size = 0; align = 1 }) (omega arith)

pub members_layout-align : (is_union : Bool) (ls : List Layout) → 1 ≤ (members_layout is_union ls).align
members_layout-align true ls = over_each_other-align ls
members_layout-align false ls = in_order-align ls

pub aggregate_layout-align : (known : List Layout) (a : Aggregate) → 1 ≤ (aggregate_layout known a).align
unfolding aggregate_layout
aggregate_layout-align known a = go known a.is_union a.members
  where
    go : (known : List Layout) (is_union : Bool) (members : Option (List Ty)) → 1 ≤ (body_layout known is_union members).align
    go known is_union None = omega arith
    go known is_union (Some ms) = members_layout-align is_union (map (layout_of known) ms)

-- ---- what an aggregate keeps

pub kept_measured :
    (rows : List Aggregate) (k : ℕ) (a : Aggregate) (room : Room) → IsLaidOut rows → slice_get rows k ≡ Some a
    → room.size ≡ a.size → room.align ≡ a.align → room.units ≡ a.units → room.size < 2 ^ 32 → room.units < 2 ^ 32
    → Measured room (layout rows (ty.Aggregate k))
kept_measured rows k a room laid e size align units small few =
    let keeps = laid.keeps k a e in
    let is = layout-row rows k a e in
    let size_is : room.size ≡ (layout rows (ty.Aggregate k)).size = size ∙ keeps.size ∙ ap (λ (l : Layout). l.size) (sym is) in
    let units_is : room.units ≡ length (layout rows (ty.Aggregate k)).units = units ∙ keeps.units ∙ ap (λ (l : Layout). length l.units) (sym is) in
    record {
      size = omega arith;
      align = align ∙ keeps.align ∙ ap (λ (l : Layout). l.align) (sym is);
      units = omega arith;
    }

pub kept-align :
    (rows : List Aggregate) (k : ℕ) (a : Aggregate) → IsLaidOut rows → slice_get rows k ≡ Some a → 1 ≤ a.align
kept-align rows k a laid e =
    let keeps = laid.keeps k a e in
    let above = aggregate_layout-align (layouts_after [] (take k rows)) a in
    omega (arith, keeps.align)

-- ---- members one after another

pub in_order-some : (ls : List Layout) → 0 < length ls →
    in_order ls ≡ record { size = rounded (fold followed begun ls).at (fold followed begun ls).align; align = (fold followed begun ls).align; units = (fold followed begun ls).units }
unfolding in_order
in_order-some [] h = absurd (omega arith)
in_order-some (l ∷ ls) h = refl

pub closed_kept :
    (run : PlacedSoFar) (ls : List Layout) (room : Room) → 0 < length ls → RunsTo run (fold followed begun ls) → 1 ≤ run.align
    → room.size ≡ capped (rounded run.at run.align) → room.align ≡ run.align → room.units ≡ run.units → Measured room (in_order ls)
closed_kept run ls room h k pos size align units =
    let is = in_order-some ls h in
    let all : Run = fold followed begun ls in
    record {
      size =
          size ∙ ap (λ x. capped (rounded x run.align)) k.at ∙ capped-rounded all.at run.align pos
          ∙ ap (λ x. capped (rounded all.at x)) k.align ∙ ap (λ (l : Layout). capped l.size) (sym is);
      align = align ∙ k.align ∙ ap (λ (l : Layout). l.align) (sym is);
      units = units ∙ k.units ∙ ap (λ (l : Layout). capped (length l.units)) (sym is);
    }

-- no aggregates are laid out
pub none_laid_out : (rows : List Aggregate) → rows ≡ [] → IsLaidOut rows
none_laid_out rows is = subst IsLaidOut (sym is) (record { keeps = λ k a e. absurd (nothing_there k a e); ordered = λ k a e. absurd (nothing_there k a e) })
  where
    nothing_there : (k : ℕ) (a : Aggregate) → slice_get {X = Aggregate} [] k ≡ Some a → ⊥
    nothing_there k a e = let within = slice_get_within [] k a e in omega arith

pub ruleset layout_is = (layout-Void, layout-Integer, layout-Pointer, layout-Array, layout-Chan, layout-Tuple, layout-Function)
