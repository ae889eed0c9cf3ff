-- Units of values that stand further on, one value behind another.
use Rattle.std.proofs.Common.{◌≡◌, ℕ, ◌+◌, ◌*◌, ◌/◌, ◌^◌, ◌<◌, ◌≤◌, zero, suc, List, [], ◌∷◌, ◌++◌, map, take, length, Some, None, arith, refl, ap, sym, ◌∙◌, subst, append_assoc, get_or}
use Rattle.std.specs.Prelude.{slice_get, fold, true, false}
use Rattle.std.specs.List.{flat_map, range_with_len}
use Rattle.std.proofs.Math.Nat.{mul-le-mul_left}
use Rattle.std.proofs.lemmas.List.{append-nil, map-append, take_all, length-map, get_or-map}
use Rattle.std.proofs.lemmas.List.Sums.{fold_more}
use Rattle.std.proofs.lemmas.List.FromFn.{map-range_with_len_more}
use Rattle.std.proofs.lemmas.Grind.{flat_map-append}
use Rattle.al_typed.specs.declared.layout.Unit.{Unit}
use Rattle.al_typed.specs.declared.program.Aggregate.{Aggregate}
use Rattle.al_typed.specs.declared.ty.Ty.{Ty}
use Rattle.al_typed.specs.declared.layout.Room.{Room}
use Rattle.al_typed.specs.declared.ty.Ty.TheVariants as ty
use Rattle.al_typed.specs.Capped.{capped}
use Rattle.al_typed.specs.Layout.{Layout, Run, Measured, IsLaidOut, nothing, rounded, layout, layouts_after, aggregate_layout, body_layout, members_layout, repeated, in_order, over_each_other, followed, begun, moved, unit_at, size_of, units_of}
use Rattle.al_typed.proofs.CappedLemmas.{rounded_above}
use Rattle.al_typed.proofs.Layouts.{layout-Array, layout-Tuple, layout-row}
use Rattle.al_typed.proofs.Fitting.{AllFit, layouts_fit, layout_fits}

pub moved-none : (units : List Unit) → moved 0 units ≡ units
moved-none [] = refl
moved-none (u ∷ units) =
    let here : 0 + u.at ≡ u.at = omega arith in
    ap (λ at. unit_at at u.size ∷ moved 0 units) here ∙ ap (λ l. u ∷ l) (moved-none units)

pub moved-moved : (a b : ℕ) (units : List Unit) → moved a (moved b units) ≡ moved (a + b) units
moved-moved a b [] = refl
moved-moved a b (u ∷ units) =
    let further : a + (b + u.at) ≡ a + b + u.at = omega arith in
    ap (λ at. unit_at at u.size ∷ moved a (moved b units)) further ∙ ap (λ l. unit_at (a + b + u.at) u.size ∷ l) (moved-moved a b units)

-- what was put so far, and one value more
pub put_more :
    (old out new so_far more : List Unit) (at by next : ℕ) → out ≡ old ++ moved at so_far → next ≡ at + by → new ≡ out ++ moved next more
    → new ≡ old ++ moved at (so_far ++ moved by more)
put_more old out new so_far more at by next before here put =
    put
    ∙ ap (λ n. out ++ moved n more) here
    ∙ ap (λ l. l ++ moved (at + by) more) before
    ∙ append_assoc old (moved at so_far) (moved (at + by) more)
    ∙ ap (λ l. old ++ (moved at so_far ++ l)) (sym (moved-moved at by more))
    ∙ ap (λ l. old ++ l) (sym (map-append (λ (u : Unit). unit_at (at + u.at) u.size) so_far (moved by more)))

-- ---- elements

repeated-none : (l : Layout) → (repeated 0 l).units ≡ []
unfolding repeated
repeated-none l = refl

counting_more : (a n j : ℕ) → a + n ≡ j → range_with_len a (suc n) ≡ range_with_len a n ++ j ∷ []
counting_more a zero j e = let same : a ≡ j = omega arith in ap (λ k. k ∷ []) same
counting_more a (suc n) j e = ap (λ l. a ∷ l) (counting_more (a + 1) n j (omega arith))

repeated-more : (n : ℕ) (l : Layout) → (repeated (n + 1) l).units ≡ (repeated n l).units ++ moved (n * l.size) l.units
unfolding repeated
repeated-more n l =
    let f : ℕ → List Unit = λ i. moved (i * l.size) l.units in
    let next : n + 1 ≡ suc n = omega arith in
    ap (λ k. flat_map f (range_with_len 0 k)) next
    ∙ ap (flat_map f) (counting_more 0 n n (omega arith))
    ∙ flat_map-append f (range_with_len 0 n) (n ∷ [])
    ∙ ap (λ units. flat_map f (range_with_len 0 n) ++ units) (append-nil (f n))

pub elements_begun : (old : List Unit) (at : ℕ) (l : Layout) → old ≡ old ++ moved at (repeated 0 l).units
elements_begun old at l = sym (ap (λ units. old ++ moved at units) (repeated-none l) ∙ append-nil old)

pub elements_more :
    (old out new : List Unit) (at next n : ℕ) (l : Layout) → out ≡ old ++ moved at (repeated n l).units → next ≡ at + n * l.size
    → new ≡ out ++ moved next l.units → new ≡ old ++ moved at (repeated (n + 1) l).units
elements_more old out new at next n l before here put =
    put_more old out new (repeated n l).units l.units at (n * l.size) next before here put
    ∙ ap (λ units. old ++ moved at units) (sym (repeated-more n l))

-- the elements up to one, and it, lie in the array
pub element_within : (size count n : ℕ) → n < count → n * size + size ≤ count * size
element_within size count n h =
    let le : (n + 1) * size ≤ count * size = subst (λ x. x ≤ count * size) (mul_comm_ size (n + 1)) (subst (λ x. size * (n + 1) ≤ x) (mul_comm_ size count) (mul-le-mul_left {m = n + 1} {n = count} size (omega arith))) in
    subst (λ x. x ≤ count * size) (one_more size n) le
  where
    mul_comm_ : (a b : ℕ) → a * b ≡ b * a
    mul_comm_ a b = grind arith

    one_more : (size n : ℕ) → (n + 1) * size ≡ n * size + size
    one_more size n = grind arith

-- ---- units of a union

abbrev pub union_units : ℕ → ℕ → List Unit
union_units align n = map (λ i. unit_at (i * align) align) (range_with_len 0 n)

pub union_begun : (old : List Unit) (at align : ℕ) → old ≡ old ++ moved at (union_units align 0)
union_begun old at align = sym (append-nil old)

pub union_more :
    (old out new : List Unit) (at next n align : ℕ) → out ≡ old ++ moved at (union_units align n) → next ≡ at + n * align
    → new ≡ out ++ unit_at next align ∷ [] → new ≡ old ++ moved at (union_units align (n + 1))
union_more old out new at next n align before here put =
    let further : 0 + n ≡ n = omega arith in
    put
    ∙ ap (λ l. l ++ unit_at next align ∷ []) before
    ∙ append_assoc old (moved at (union_units align n)) (unit_at next align ∷ [])
    ∙ ap (λ k. old ++ (moved at (union_units align n) ++ unit_at k align ∷ [])) here
    ∙ ap (λ l. old ++ l) (sym (map-append (λ (u : Unit). unit_at (at + u.at) u.size) (union_units align n) (unit_at (n * align) align ∷ [])))
    ∙ ap (λ units. old ++ moved at units) (sym (map-range_with_len_more (λ i. unit_at (i * align) align) 0 n n further))

-- ---- members one after another

pub in_order-units : (ls : List Layout) → (in_order ls).units ≡ (fold followed begun ls).units
unfolding in_order
in_order-units [] = refl
in_order-units (l ∷ ls) = refl

fold-grows : (ls : List Layout) (run : Run) → AllFit ls → run.at ≤ (fold followed run ls).at
unfolding followed
fold-grows [] run h = omega arith
fold-grows (l ∷ ls) run h =
    let above = rounded_above run.at l.align h.0.low in
    let rest = fold-grows ls (followed run l) h.1 in
    omega arith

fold-align : (ls : List Layout) (run : Run) → 1 ≤ run.align → 1 ≤ (fold followed run ls).align
unfolding followed
fold-align [] run h = h
fold-align (l ∷ ls) run h = fold-align ls (followed run l) (omega arith)

pub in_order-end : (ls : List Layout) → (fold followed begun ls).at ≤ (in_order ls).size
unfolding in_order
in_order-end [] = omega arith
in_order-end (l ∷ ls) =
    rounded_above (fold followed begun (l ∷ ls)).at (fold followed begun (l ∷ ls)).align (fold-align (l ∷ ls) begun (omega arith))

-- a type more
pub one_more : (rows : List Aggregate) (types : List Ty) (i : _) (item : Ty) → i < length types → item ≡ get_or types i item
    → fold followed begun (take (i + 1) (map (layout rows) types)) ≡ followed (fold followed begun (take i (map (layout rows) types))) (layout rows item)
one_more rows types i item h is =
    fold_more followed begun (map (layout rows) types) i (layout rows item) (simp length-map h)
    ∙ ap (λ l. followed (fold followed begun (take i (map (layout rows) types))) l)
    (get_or-map (layout rows) types i item (layout rows item) h ∙ ap (layout rows) (sym is))

prefix-below : (ls : List Layout) (n : ℕ) (run : Run) → AllFit ls → (fold followed run (take n ls)).at ≤ (fold followed run ls).at
prefix-below [] zero run h = omega arith
prefix-below [] (suc n) run h = omega arith
prefix-below (l ∷ ls) zero run h = fold-grows (l ∷ ls) run h
prefix-below (l ∷ ls) (suc n) run h = prefix-below ls n (followed run l) h.1

-- what was placed before a member of that number
abbrev pub run_before : List Aggregate → List Ty → ℕ → Run
run_before rows types i = fold followed begun (take i (map (layout rows) types))

followed-at : (run : Run) (l : Layout) → (followed run l).at ≡ rounded run.at l.align + l.size
unfolding followed
followed-at run l = refl

followed-units : (run : Run) (l : Layout) → (followed run l).units ≡ run.units ++ moved (rounded run.at l.align) l.units
unfolding followed
followed-units run l = refl

-- a member lies in the room of all
pub member_within :
    (rows : List Aggregate) (types : List Ty) (i : _) (item : Ty) → i < length types → item ≡ get_or types i item
    → rounded (run_before rows types i).at (layout rows item).align + (layout rows item).size ≤ (in_order (map (layout rows) types)).size
member_within rows types i item h is =
    let ls : List Layout = map (layout rows) types in
    let more : (run_before rows types (i + 1)).at ≡ rounded (run_before rows types i).at (layout rows item).align + (layout rows item).size =
    ap (λ (run : Run). run.at) (one_more rows types i item h is) ∙ followed-at (run_before rows types i) (layout rows item) in
    let below = prefix-below ls (i + 1) begun (layouts_fit rows types) in
    let end = in_order-end ls in
    omega arith

-- where the code places a member
pub record Placed (before at room : ℕ) (run : Run) (l : Layout) : Type 0 where
  pub start : at ≡ rounded run.at l.align
  pub size : room ≡ l.size
  pub within : before + at + l.size ≤ 2 ^ 28

pub placed_at :
    (rows : List Aggregate) (types : List Ty) (i : _) (item : Ty) (at start end : ℕ) (room : Room)
    → i < length types → item ≡ get_or types i item → start ≡ capped (rounded end room.align) → end ≡ (run_before rows types i).at
    → Measured room (layout rows item) → at + (in_order (map (layout rows) types)).size ≤ 2 ^ 28
    → Placed at start room.size (run_before rows types i) (layout rows item)
placed_at rows types i item at start end room h here is from m small =
    let run : Run = run_before rows types i in
    let l : Layout = layout rows item in
    let within : rounded run.at l.align + l.size ≤ (in_order (map (layout rows) types)).size = member_within rows types i item h here in
    let same : rounded end room.align ≡ rounded run.at l.align = ap (λ x. rounded x room.align) from ∙ ap (rounded run.at) m.align in
    let started : start ≡ rounded run.at l.align = omega arith in
    record { start = started; size = omega (arith, m.size); within = omega arith }

pub member_more :
    (rows : List Aggregate) (types : List Ty) (i : _) (item : Ty) (old out new : List Unit) (at start size next : ℕ)
    → i < length types → item ≡ get_or types i item
    → out ≡ old ++ moved at (run_before rows types i).units → Placed at start size (run_before rows types i) (layout rows item) → next ≡ at + start
    → new ≡ out ++ moved next (layout rows item).units
    → (new ≡ old ++ moved at (run_before rows types (i + 1)).units) × (start + size ≡ (run_before rows types (i + 1)).at)
member_more rows types i item old out new at start size next h is before placed here put =
    let run : Run = run_before rows types i in
    let l : Layout = layout rows item in
    let more = one_more rows types i item h is in (
      put_more old out new run.units l.units at (rounded run.at l.align) next before (here ∙ ap (λ x. at + x) placed.start) put
          ∙ ap (λ units. old ++ moved at units) (sym (ap (λ (r : Run). r.units) more ∙ followed-units run l)),
      ap (λ x. x + size) placed.start ∙ ap (λ x. rounded run.at l.align + x) placed.size
          ∙ sym (ap (λ (r : Run). r.at) more ∙ followed-at run l),
    )

pub members_done :
    (rows : List Aggregate) (types : List Ty) (i : ℕ) (old out : List Unit) (at : ℕ) → length types ≤ i
    → out ≡ old ++ moved at (run_before rows types i).units → out ≡ old ++ moved at (in_order (map (layout rows) types)).units
members_done rows types i old out at past is =
    let ls : List Layout = map (layout rows) types in
    let counted : length ls ≡ length types = length-map types (layout rows) in
    let whole : take i ls ≡ ls = take_all i ls (omega arith) in
    is ∙ ap (λ l. old ++ moved at (fold followed begun l).units) whole ∙ ap (λ units. old ++ moved at units) (sym (in_order-units ls))

-- ---- arrays and tuples

repeated-size : (count : ℕ) (l : Layout) → (repeated count l).size ≡ count * l.size
unfolding repeated
repeated-size count l = refl

pub array_room :
    (rows : List Aggregate) (t element given : Ty) (count at : ℕ) → t ≡ ty.Array element count → given ≡ element
    → at + size_of rows t ≤ 2 ^ 28 → at + count * size_of rows given ≤ 2 ^ 28
array_room rows t element given count at is same h =
    let size : size_of rows t ≡ count * size_of rows given =
    ap (size_of rows) is ∙ ap (λ (l : Layout). l.size) (layout-Array rows element count) ∙ repeated-size count (layout rows element)
    ∙ ap (λ e. count * size_of rows e) (sym same) in
    omega arith

pub tuple_room :
    (rows : List Aggregate) (t : Ty) (parts given : List Ty) (at : ℕ) → t ≡ ty.Tuple parts → given ≡ parts
    → at + size_of rows t ≤ 2 ^ 28 → at + (in_order (map (layout rows) given)).size ≤ 2 ^ 28
tuple_room rows t parts given at is same h =
    let size : size_of rows t ≡ (in_order (map (layout rows) given)).size =
    ap (size_of rows) is ∙ ap (λ (l : Layout). l.size) (layout-Tuple rows parts) ∙ ap (λ ts. (in_order (map (layout rows) ts)).size) (sym same) in
    omega arith

-- the code's size of an element, and where the next one stands
pub element_size :
    (room size count n at : ℕ) → room ≡ capped size → n < count → at + count * size ≤ 2 ^ 28 → room ≡ size
element_size room size count n at is h small = let within = element_within size count n h in omega arith

pub next_element : (at next n size room : ℕ) → next ≡ at + n * size → room ≡ size → next + room ≡ at + (n + 1) * size
next_element at next n size room here same = let one : (n + 1) * size ≡ n * size + size = grind arith in omega arith

-- ---- aggregates

pub nothing_put : (old : List Unit) (at : ℕ) (l : Layout) → l ≡ nothing → old ≡ old ++ moved at l.units
nothing_put old at l is = sym (ap (λ (m : Layout). old ++ moved at m.units) is ∙ append-nil old)

pub aggregate-bodiless :
    (rows : List Aggregate) (k : ℕ) (a : Aggregate) → slice_get rows k ≡ Some a → a.members ≡ None → layout rows (ty.Aggregate k) ≡ nothing
unfolding aggregate_layout
aggregate-bodiless rows k a e is = layout-row rows k a e ∙ ap (body_layout (layouts_after [] (take k rows)) a.is_union) is

pub aggregate-members :
    (rows : List Aggregate) (k : ℕ) (a : Aggregate) (ms : List Ty) → slice_get rows k ≡ Some a → a.members ≡ Some ms
    → layout rows (ty.Aggregate k) ≡ members_layout a.is_union (map (layout (take k rows)) ms)
unfolding aggregate_layout layout
aggregate-members rows k a ms e is = layout-row rows k a e ∙ ap (body_layout (layouts_after [] (take k rows)) a.is_union) is

pub aggregate-in_order :
    (rows : List Aggregate) (k : ℕ) (a : Aggregate) (ms given : List Ty) → slice_get rows k ≡ Some a → a.members ≡ Some ms → a.is_union ≡ false
    → given ≡ ms → layout rows (ty.Aggregate k) ≡ in_order (map (layout (take k rows)) given)
aggregate-in_order rows k a ms given e is not same =
    aggregate-members rows k a ms e is
    ∙ ap (λ u. members_layout u (map (layout (take k rows)) ms)) not
    ∙ ap (λ ts. in_order (map (layout (take k rows)) ts)) (sym same)

pub over_each_other-units : (ls : List Layout) → (over_each_other ls).units ≡ union_units (over_each_other ls).align ((over_each_other ls).size / (over_each_other ls).align)
unfolding over_each_other
over_each_other-units ls = refl

-- a union, as its row keeps it
pub record UnionKept (rows : List Aggregate) (k : ℕ) (a : Aggregate) : Type 0 where
  pub low : 1 ≤ a.align
  pub high : a.align ≤ 4
  pub size : a.size ≡ size_of rows (ty.Aggregate k)
  pub units : units_of rows (ty.Aggregate k) ≡ union_units a.align (a.size / a.align)

pub none_put : (rows : List Aggregate) (old : List Unit) (at : ℕ) (t : Ty) → layout rows t ≡ nothing → old ≡ old ++ moved at (units_of rows t)
none_put rows old at t is = nothing_put old at (layout rows t) is

pub union_kept :
    (rows : List Aggregate) (k : ℕ) (a : Aggregate) (ms : List Ty) → IsLaidOut rows → slice_get rows k ≡ Some a → a.members ≡ Some ms → a.is_union ≡ true
    → UnionKept rows k a
union_kept rows k a ms laid e is so =
    let keeps = laid.keeps k a e in
    let row = layout-row rows k a e in
    let fits = layout_fits rows (ty.Aggregate k) in
    let ls : List Layout = map (layout (take k rows)) ms in
    let align : a.align ≡ (layout rows (ty.Aggregate k)).align = keeps.align ∙ ap (λ (l : Layout). l.align) (sym row) in
    let size : a.size ≡ (layout rows (ty.Aggregate k)).size = keeps.size ∙ ap (λ (l : Layout). l.size) (sym row) in
    let over : layout rows (ty.Aggregate k) ≡ over_each_other ls = aggregate-members rows k a ms e is ∙ ap (λ u. members_layout u ls) so in
    record {
      low = subst (λ n. 1 ≤ n) (sym align) fits.low;
      high = subst (λ n. n ≤ 4) (sym align) fits.high;
      size = size;
      units =
          ap (λ (l : Layout). l.units) over ∙ over_each_other-units ls
          ∙ ap (λ (l : Layout). union_units l.align (l.size / l.align)) (sym over)
          ∙ ap (λ n. union_units n ((layout rows (ty.Aggregate k)).size / n)) (sym align)
          ∙ ap (λ n. union_units a.align (n / a.align)) (sym size);
    }

-- all units of a value, put into an empty list
pub put_whole :
    (start out items : List Unit) (rows given : List Aggregate) (t : Ty) → start ≡ [] → out ≡ start ++ moved 0 (units_of given t) → items ≡ out → given ≡ rows
    → items ≡ units_of rows t
put_whole start out items rows given t none put is same =
    is ∙ put ∙ ap (λ l. l ++ moved 0 (units_of given t)) none ∙ moved-none (units_of given t) ∙ ap (λ l. units_of l t) same
