-- Members over each other, as the code finds their room.
use Rattle.std.proofs.Common.{◌≡◌, ℕ, ◌+◌, ◌/◌, ◌^◌, ◌<◌, ◌≤◌, max, List, map, take, length, arith, refl, ap, sym, ◌∙◌, get_or}
use Rattle.std.specs.Prelude.{fold, Bool, false}
use Rattle.std.proofs.lemmas.List.{get_or-map, length-map, take_all}
use Rattle.std.proofs.lemmas.List.FromFn.{length-map-range_with_len}
use Rattle.std.proofs.lemmas.List.Sums.{fold_more}
use Rattle.al_typed.specs.declared.layout.Room.{Room}
use Rattle.al_typed.specs.declared.program.Aggregate.{Aggregate}
use Rattle.al_typed.specs.declared.ty.Ty.{Ty}
use Rattle.al_typed.specs.Capped.{capped}
use Rattle.al_typed.specs.Layout.{Extent, Layout, Measured, in_order, layout, members_layout, over_each_other, rounded, widened}
use Rattle.al_typed.proofs.CappedLemmas.{capped-rounded}
use Rattle.al_typed.proofs.Fitting.{in_order_fits, layouts_fit}
use Rattle.al_typed.proofs.Placing.{over_each_other-units}

-- of no members
abbrev pub flat : Extent
flat = record { size = 0; align = 1 }

abbrev pub extent_before : List Aggregate → List Ty → ℕ → Extent
extent_before rows types i = fold widened flat (take i (map (layout rows) types))

pub record Reaches (size align : ℕ) (e : Extent) : Type 0 where
  pub bytes : size ≡ capped e.size
  pub aligned : align ≡ e.align
  pub low : 1 ≤ align

pub reaches_more :
    (rows : List Aggregate) (types : List Ty) (i : _) (item : Ty) (size align wider aligned : ℕ) (room : Room) → i < length types
    → item ≡ get_or types i item → size ≡ capped (extent_before rows types i).size → align ≡ (extent_before rows types i).align → 1 ≤ align
    → Measured room (layout rows item) → wider ≡ max size room.size → aligned ≡ max align room.align
    → Reaches wider aligned (extent_before rows types (i + 1))
reaches_more rows types i item size align wider aligned room h is before at low m wide more =
    let ls : List Layout = map (layout rows) types in
    let next : extent_before rows types (i + 1) ≡ widened (extent_before rows types i) (layout rows item) =
    fold_more widened flat ls i (layout rows item) (simp length-map h)
    ∙ ap (widened (extent_before rows types i)) (get_or-map (layout rows) types i item (layout rows item) h ∙ ap (layout rows) (sym is)) in
    let bytes : (extent_before rows types (i + 1)).size ≡ max (extent_before rows types i).size (layout rows item).size = ap (λ (e : Extent). e.size) next in
    let alike : (extent_before rows types (i + 1)).align ≡ max (extent_before rows types i).align (layout rows item).align = ap (λ (e : Extent). e.align) next in
    record {
      bytes = omega (arith, m.size);
      aligned = omega (arith, m.align);
      low = omega arith;
    }

over_each_other-size : (ls : List Layout) → (over_each_other ls).size ≡ rounded (fold widened flat ls).size (fold widened flat ls).align
unfolding over_each_other
over_each_other-size ls = refl

over_each_other-at : (ls : List Layout) → (over_each_other ls).align ≡ (fold widened flat ls).align
unfolding over_each_other
over_each_other-at ls = refl

pub record UnionRoom (size align units : ℕ) (l : Layout) : Type 0 where
  pub bytes : size ≡ capped l.size
  pub aligned : align ≡ l.align
  pub count : size < 2 ^ 32 → units ≡ length l.units

pub union_room :
    (rows : List Aggregate) (types : List Ty) (i reach size align units : ℕ) → length types ≤ i → reach ≡ capped (extent_before rows types i).size
    → align ≡ (extent_before rows types i).align → 1 ≤ align → size ≡ capped (rounded reach align) → units ≡ size / align
    → UnionRoom size align units (over_each_other (map (layout rows) types))
union_room rows types i reach size align units past reached at low is counted =
    let ls : List Layout = map (layout rows) types in
    let all : Extent = fold widened flat ls in
    let enough : length ls ≤ i = simp length-map past in
    let whole : extent_before rows types i ≡ all = ap (fold widened flat) (take_all i ls enough) in
    let aligned : align ≡ (over_each_other ls).align = at ∙ ap (λ (e : Extent). e.align) whole ∙ sym (over_each_other-at ls) in
    let bytes : size ≡ capped (over_each_other ls).size =
    is
    ∙ ap (λ x. capped (rounded x align)) (reached ∙ ap (λ (e : Extent). capped e.size) whole)
    ∙ capped-rounded all.size align low
    ∙ ap (λ x. capped (rounded all.size x)) (at ∙ ap (λ (e : Extent). e.align) whole)
    ∙ ap capped (sym (over_each_other-size ls)) in
    record {
      bytes = bytes;
      aligned = aligned;
      count = λ small.
          let same : size ≡ (over_each_other ls).size = omega arith in
          counted ∙ ap (λ x. x / align) same ∙ ap (λ x. (over_each_other ls).size / x) aligned
          ∙ sym (length-map-range_with_len _ 0 ((over_each_other ls).size / (over_each_other ls).align))
          ∙ ap length (sym (over_each_other-units ls));
    }

pub in_order_room :
    (rows : List Aggregate) (types : List Ty) (is_union : Bool) (room : Room) → is_union ≡ false → Measured room (in_order (map (layout rows) types))
    → room.size < 2 ^ 32 → room.units ≡ length (members_layout is_union (map (layout rows) types)).units
in_order_room rows types is_union room is m small =
    let ls : List Layout = map (layout rows) types in
    let fits = in_order_fits ls (layouts_fit rows types) in
    let few : length (in_order ls).units ≤ (in_order ls).size = fits.few in
    let counted : room.units ≡ length (in_order ls).units = omega (arith, m.size, m.units) in
    counted ∙ ap (λ u. length (members_layout u ls).units) (sym is)
