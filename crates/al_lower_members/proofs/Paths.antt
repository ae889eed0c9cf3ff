-- A path of members leads into units of the whole.
use Rattle.std.proofs.Common.{◌≡◌, ℕ, zero, suc, ◌+◌, List, [], ◌∷◌, ◌++◌, map, take, drop, Option, Some, None, refl, sym, ap, ◌∙◌, subst}
use Rattle.std.specs.Prelude.{Bool, true, false, if◌then◌else◌, All, slice_get, unwrap_or}
use Rattle.std.specs.List.{AllByRecursion}
use Rattle.std.proofs.lemmas.List.{take-append-drop}
use Rattle.std.proofs.lemmas.List.Elements.{recursion_from_All}
use Rattle.al_typed.specs.declared.program.Aggregate.{Aggregate}
use Rattle.al_typed.specs.declared.ty.Ty.{Ty, Void, Integer, Pointer', Array', Chan', Tuple', Aggregate as Aggregate_, Function'}
use Rattle.al_typed.specs.declared.ty.Ty.TheVariants as ty
use Rattle.al_typed.specs.declared.ty.Ty.TheViews.{out-Ty}
use denote.Hole.Carrier.{out}
use Rattle.al_typed.specs.Types.{is_complete}
use Rattle.al_typed.specs.Layout.{Layout, Member, IsLaidOut, layout, members_layout, begun, moved, units_of, offsets_from, row_of, members_of, member_offsets, member, further, beyond}
use Rattle.al_typed.proofs.Completeness.{layout-stays}
use Rattle.al_typed.proofs.Placing.{moved-none, moved-moved, in_order-units, aggregate-members}
use Rattle.al_lower_members.proofs.Even.{layout_even, layouts_even}
use Rattle.al_lower_members.proofs.Within.{AllWithin, within_both, within_moved, within_self, member_follows, union_within}

same_some : {A : Type 0} (a b : A) → Some a ≡ Some b → a ≡ b
same_some a b e = cc

-- a type with members is an aggregate
record IsRow (rows : List Aggregate) (t : Ty) (a : Aggregate) : Type 0 where
  number : ℕ
  there : slice_get rows number ≡ Some a
  same : layout rows t ≡ layout rows (ty.Aggregate number)

row_is : (rows : List Aggregate) (t : Ty) (a : Aggregate) → row_of rows t ≡ Some a → IsRow rows t a
unfolding row_of out-Ty out
row_is rows (Aggregate_ n) a e = record { number = n; there = e; same = refl }
row_is rows Void a e = absurd (cc)
row_is rows (Integer kind) a e = absurd (cc)
row_is rows (Pointer' _ to) a e = absurd (cc)
row_is rows (Array' _ element count) a e = absurd (cc)
row_is rows (Chan' _ element capacity) a e = absurd (cc)
row_is rows (Tuple' _ parts) a e = absurd (cc)
row_is rows (Function' _ returns _ parameters) a e = absurd (cc)

all_stay : (rows more : List Aggregate) (ts : List Ty) → AllByRecursion (λ t. is_complete rows t ≡ true) ts → map (layout (rows ++ more)) ts ≡ map (layout rows) ts
all_stay rows more [] h = refl
all_stay rows more (t ∷ ts) h = ap (λ l. l ∷ map (layout (rows ++ more)) ts) (layout-stays rows more t h.0) ∙ ap (λ ls. layout rows t ∷ ls) (all_stay rows more ts h.1)

-- the layout of an aggregate, from those of its members
members_are : (rows : List Aggregate) (n : ℕ) (a : Aggregate) (ms : List Ty) → IsLaidOut rows → slice_get rows n ≡ Some a → a.members ≡ Some ms → layout rows (ty.Aggregate n) ≡ members_layout a.is_union (map (layout rows) ms)
members_are rows n a ms laid e is =
    let ordered : All (λ t. is_complete (take n rows) t ≡ true) ms = subst (λ (o : Option (List Ty)). All (λ t. is_complete (take n rows) t ≡ true) (unwrap_or o [])) is (laid.ordered n a e) in
    let whole : take n rows ++ drop n rows ≡ rows = take-append-drop n rows in
    let same : map (layout rows) ms ≡ map (layout (take n rows)) ms =
    ap (λ r. map (layout r) ms) (sym whole) ∙ all_stay (take n rows) (drop n rows) ms (recursion_from_All (λ t. is_complete (take n rows) t ≡ true) ms ordered) in
    aggregate-members rows n a ms e is ∙ ap (members_layout a.is_union) (sym same)

layout_get : (rows : List Aggregate) (ts : List Ty) (i : ℕ) (u : Ty) → slice_get ts i ≡ Some u → slice_get (map (layout rows) ts) i ≡ Some (layout rows u)
layout_get rows [] i u e = absurd (cc)
layout_get rows (t ∷ ts) zero u e = ap (λ t. Some (layout rows t)) (same_some t u e)
layout_get rows (t ∷ ts) (suc i) u e = layout_get rows ts i u e

zero_get : (ts : List Ty) (i o : ℕ) → slice_get (map (λ _. 0) ts) i ≡ Some o → 0 ≡ o
zero_get [] i o e = absurd (cc)
zero_get (t ∷ ts) zero o e = same_some 0 o e
zero_get (t ∷ ts) (suc i) o e = zero_get ts i o e

-- a member of that number stands so far on
stands_within : (rows : List Aggregate) (is_union : Bool) (ms : List Ty) (i o : ℕ) (u : Ty) → slice_get ms i ≡ Some u → slice_get (if is_union then map (λ _. 0) ms else offsets_from 0 (map (layout rows) ms)) i ≡ Some o → AllWithin (members_layout is_union (map (layout rows) ms)).units (moved o (units_of rows u))
stands_within rows false ms i o u e f =
    let ls : List Layout = map (layout rows) ms in
    subst (λ us. AllWithin us (moved o (units_of rows u))) (sym (in_order-units ls)) (member_follows ls begun i o (layout rows u) (layout_get rows ms i u e) f)
stands_within rows true ms i o u e f =
    let ls : List Layout = map (layout rows) ms in
    let at : 0 ≡ o = zero_get ms i o f in
    subst (λ o. AllWithin (members_layout true (map (layout rows) ms)).units (moved o (units_of rows u))) at
    (subst (AllWithin (members_layout true (map (layout rows) ms)).units) (sym (moved-none (units_of rows u))) (union_within ls i (layout rows u) (layouts_even rows ms) (layout_even rows u) (layout_get rows ms i u e)))

member_within : (rows : List Aggregate) → IsLaidOut rows → (t u : Ty) (i o : ℕ) → slice_get (members_of (row_of rows t)) i ≡ Some u → slice_get (member_offsets rows (row_of rows t)) i ≡ Some o → AllWithin (units_of rows t) (moved o (units_of rows u))
member_within rows laid t u i o e f = on (row_of rows t) refl e f
  where
    in_body : (a : Aggregate) (ms : Option (List Ty)) → row_of rows t ≡ Some a → a.members ≡ ms → slice_get (unwrap_or ms []) i ≡ Some u → slice_get (if a.is_union then map (λ _. 0) (unwrap_or ms []) else offsets_from 0 (map (layout rows) (unwrap_or ms []))) i ≡ Some o → AllWithin (units_of rows t) (moved o (units_of rows u))
    in_body a None q m e f = absurd (cc)
    in_body a (Some ms) q m e f =
        let r = row_is rows t a q in
        let is : layout rows t ≡ members_layout a.is_union (map (layout rows) ms) = r.same ∙ members_are rows r.number a ms laid r.there m in
        subst (λ (l : Layout). AllWithin l.units (moved o (units_of rows u))) (sym is) (stands_within rows a.is_union ms i o u e f)

    on : (a : Option Aggregate) → row_of rows t ≡ a → slice_get (members_of a) i ≡ Some u → slice_get (member_offsets rows a) i ≡ Some o → AllWithin (units_of rows t) (moved o (units_of rows u))
    on None q e f = absurd (cc)
    on (Some a) q e f = in_body a a.members q refl e f

-- ---- paths

path_more : (rows : List Aggregate) (t : Ty) (next : Ty → Option Member) (m : Member) → ((u : Ty) (m : Member) → next u ≡ Some m → AllWithin (units_of rows u) (moved m.at (units_of rows m.ty))) → (mu : Option Ty) (mo : Option ℕ) → ((u : Ty) (o : ℕ) → mu ≡ Some u → mo ≡ Some o → AllWithin (units_of rows t) (moved o (units_of rows u))) → beyond mu mo next ≡ Some m → AllWithin (units_of rows t) (moved m.at (units_of rows m.ty))
path_more rows t next m rest None mo h e = absurd (cc)
path_more rows t next m rest (Some u) None h e = absurd (cc)
path_more rows t next m rest (Some u) (Some o) h e = on (next u) refl e
  where
    on : (r : Option Member) → next u ≡ r → further o r ≡ Some m → AllWithin (units_of rows t) (moved m.at (units_of rows m.ty))
    on None q e = absurd (cc)
    on (Some x) q e =
        let is : record { ty = x.ty; at = o + x.at } ≡ m = same_some (record { ty = x.ty; at = o + x.at }) m e in
        subst (λ (m : Member). AllWithin (units_of rows t) (moved m.at (units_of rows m.ty))) is
        (within_both (units_of rows t) (moved o (units_of rows u)) (moved (o + x.at) (units_of rows x.ty)) (h u o refl refl)
        (subst (AllWithin (moved o (units_of rows u))) (moved-moved o x.at (units_of rows x.ty)) (within_moved o (units_of rows u) (moved x.at (units_of rows x.ty)) (rest u x q))))

pub path_within : (rows : List Aggregate) → IsLaidOut rows → (path : List ℕ) (t : Ty) (m : Member) → member rows path t ≡ Some m → AllWithin (units_of rows t) (moved m.at (units_of rows m.ty))
unfolding member
path_within rows laid [] t m e =
    let is : record { ty = t; at = 0 } ≡ m = same_some (record { ty = t; at = 0 }) m e in
    subst (λ (m : Member). AllWithin (units_of rows t) (moved m.at (units_of rows m.ty))) is (subst (AllWithin (units_of rows t)) (sym (moved-none (units_of rows t))) (within_self (units_of rows t)))
path_within rows laid (i ∷ path) t m e =
    path_more rows t (member rows path) m (λ u x q. path_within rows laid path u x q) (slice_get (members_of (row_of rows t)) i) (slice_get (member_offsets rows (row_of rows t)) i) (λ u o f g. member_within rows laid t u i o f g) e
