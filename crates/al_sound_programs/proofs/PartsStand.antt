-- The parts of an array and of an aggr stand at units of the whole.
use Rattle.std.proofs.Common.{◌≡◌, inl, inr, ℕ, zero, suc, ◌+◌, ◌*◌, ◌<◌, ◌≤◌, Bool, true, false, List, [], ◌∷◌, ◌++◌, map, take, drop, Option, Some, None, refl, ap, sym, ◌∙◌, subst, arith}
use Rattle.std.specs.Prelude.{All, Contains, ◌⊎◌, if◌then◌else◌, slice_get, unwrap_or, fold, option_map}
use Rattle.std.specs.List.{AllByRecursion, flat_map, range_with_len}
use Rattle.std.proofs.lemmas.Bool.{and_from, and_parts, cases_eq}
use Rattle.std.proofs.lemmas.List.{take-append-drop}
use Rattle.std.proofs.lemmas.List.Elements.{All-cons, All-contains, All-contains_itself, All-head, All-nil, All-tail, Contains-append_left, Contains-append_right, recursion_from_All}
use Rattle.al_typed.specs.declared.layout.Unit.{Unit}
use Rattle.al_typed.specs.declared.ty.Ty.{Ty, roll-Ty}
use Rattle.al_typed.specs.declared.ty.Ty.TheOpen.{Ty-F}
use Rattle.al_typed.specs.declared.ty.Ty.TheVariants as ty
use Rattle.al_typed.specs.declared.ty.Ty.TheViews.{out-Ty, roll-out-Ty}
use Rattle.al_typed.specs.declared.ty.Ty.TheBlock.{hidden-the_row-Ty-0}
use denote.Hole.Carrier.{hidden}
use Rattle.al_typed.specs.declared.program.Aggregate.{Aggregate}
use Rattle.al_typed.specs.Types.{is_complete}
use Rattle.al_typed.specs.Layout.{IsLaidOut, Layout, Member, Run, begun, followed, in_order, layout, moved, offsets_from, repeated, rounded, size_of, unit_at, units_of}
use Rattle.al_typed.specs.WellTyped.{is_sound, is_stored}
use Rattle.al_typed.proofs.CappedLemmas.{rounded_above}
use Rattle.al_typed.proofs.Completeness.{is_complete-Array, layout-stays}
use Rattle.al_typed.proofs.Fitting.{AllFit, layouts_fit}
use Rattle.al_typed.proofs.Layouts.{layout-Array}
use Rattle.al_typed.proofs.Placing.{aggregate-in_order, element_within, in_order-end, in_order-units}
use Rattle.al_initial.specs.Initializers.{aggr_members, elements, is_adt, members, part, parts_at, parts_of, standing, unless_union}
use Rattle.al_sound_programs.specs.Starts.{MembersAreStored}

some_is : {A : Type 0} {a b : A} → Some a ≡ Some b → a ≡ b
some_is h = cc

-- ---- what is among what

all-of-map : {A B : Type 0} (P : B → Type 0) (f : A → B) (xs : List A) → All P (map f xs) → All (λ x. P (f x)) xs
all-of-map P f [] h = All-nil (λ x. P (f x))
all-of-map P f (x ∷ xs) h = All-cons (λ x. P (f x)) x xs (All-head P (f x) (map f xs) h) (all-of-map P f xs (All-tail P (f x) (map f xs) h))

pub contains-map : {A B : Type 0} (f : A → B) (xs : List A) (x : A) → Contains xs x → Contains (map f xs) (f x)
contains-map f xs x c = All-contains (λ y. Contains (map f xs) (f y)) xs x (all-of-map (Contains (map f xs)) f xs (All-contains_itself (map f xs))) c

-- what is in a list that is moved
pub contains-moved : (by : ℕ) (us : List Unit) (u : Unit) → Contains us u → Contains (moved by us) (unit_at (by + u.at) u.size)
contains-moved by us u c = contains-map (λ (v : Unit). unit_at (by + v.at) v.size) us u c

of_one : {A : Type 0} (f : ℕ → List A) (a n i : ℕ) (x : A) → a ≤ i → i < a + n → Contains (f i) x → Contains (flat_map f (range_with_len a n)) x
of_one f a zero i x low high c = absurd (omega arith)
of_one f a (suc n) i x low high c = on f a n i x c (λ e. of_one f (a + 1) n i x (omega (arith, e)) (omega arith) c) (cases_eq a i)
  where
    on : {A : Type 0} (f : ℕ → List A) (a n i : ℕ) (x : A) → Contains (f i) x → ((a ≡ i → ⊥) → Contains (flat_map f (range_with_len (a + 1) n)) x)
        → (a ≡ i) ⊎ (a ≡ i → ⊥) → Contains (f a ++ flat_map f (range_with_len (a + 1) n)) x
    on f a n i x c rest (inl e) = Contains-append_left (f a) (flat_map f (range_with_len (a + 1) n)) x (subst (λ j. Contains (f j) x) (sym e) c)
    on f a n i x c rest (inr e) = Contains-append_right (f a) (flat_map f (range_with_len (a + 1) n)) x (rest e)

-- ---- parts

-- a part of a type of that size with these units
pub record IsPartOf (rows : List Aggregate) (size : ℕ) (units : List Unit) (m : Member) : Type 0 where
  pub stored : is_stored rows m.ty ≡ true
  pub within : m.at + size_of rows m.ty ≤ size
  pub stands : (u : Unit) → Contains (units_of rows m.ty) u → Contains units (unit_at (m.at + u.at) u.size)

abbrev pub ArePartsOf : List Aggregate → ℕ → List Unit → List Member → Type 0
ArePartsOf rows size units = AllByRecursion (IsPartOf rows size units)

abbrev pub AreParts : List Aggregate → Ty → List Member → Type 0
AreParts rows t = ArePartsOf rows (size_of rows t) (units_of rows t)

-- ---- arrays

sound-Array : (rows : List Aggregate) (element : Ty) (count : ℕ) → is_sound rows (ty.Array element count) ≡ true → is_sound rows element ≡ true
unfolding hidden-the_row-Ty-0 hidden
sound-Array rows element count h = (and_parts _ _ (and_parts _ _ (and_parts _ _ h).0).0).0

repeated-size : (count : ℕ) (l : Layout) → (repeated count l).size ≡ count * l.size
unfolding repeated
repeated-size count l = refl

repeated-units : (count : ℕ) (l : Layout) → (repeated count l).units ≡ flat_map (λ i. moved (i * l.size) l.units) (range_with_len 0 count)
unfolding repeated
repeated-units count l = refl

module _ (rows : List Aggregate) (element : Ty) (count : ℕ) (stored : is_stored rows element ≡ true) where
  element_is : (i : ℕ) → i < count → IsPartOf rows (size_of rows (ty.Array element count)) (units_of rows (ty.Array element count)) (part element (i * size_of rows element))
  element_is i less =
      let l : Layout = layout rows element in
      let is : layout rows (ty.Array element count) ≡ repeated count l = layout-Array rows element count in
      let size : size_of rows (ty.Array element count) ≡ count * l.size = ap (λ (l : Layout). l.size) is ∙ repeated-size count l in
      let units : units_of rows (ty.Array element count) ≡ flat_map (λ i. moved (i * l.size) l.units) (range_with_len 0 count) = ap (λ (l : Layout). l.units) is ∙ repeated-units count l in
      record {
        stored = stored;
        within = subst (λ n. i * l.size + l.size ≤ n) (sym size) (element_within l.size count i less);
        stands = λ u c. subst (λ us. Contains us (unit_at (i * l.size + u.at) u.size)) (sym units)
            (of_one (λ i. moved (i * l.size) l.units) 0 count i (unit_at (i * l.size + u.at) u.size) (omega arith) (omega arith) (contains-moved (i * l.size) l.units u c));
      }

  elements_from : (a n : ℕ) → a + n ≤ count → AreParts rows (ty.Array element count) (map (λ i. part element (i * size_of rows element)) (range_with_len a n))
  elements_from a zero le = tt
  elements_from a (suc n) le = (element_is a (omega arith), elements_from (a + 1) n (omega arith))

  elements_are : AreParts rows (ty.Array element count) (elements (size_of rows element) element count)
  unfolding elements
  elements_are = elements_from 0 count (omega arith)

-- ---- aggrs

grows : (ls : List Layout) (run : Run) → AllFit ls → run.at ≤ (fold followed run ls).at
unfolding followed
grows [] run h = omega arith
grows (l ∷ ls) run h =
    let above = rounded_above run.at l.align h.0.low in
    let rest = grows ls (followed run l) h.1 in
    omega arith

keeps_units : (ls : List Layout) (run : Run) (u : Unit) → Contains run.units u → Contains (fold followed run ls).units u
unfolding followed
keeps_units [] run u c = c
keeps_units (l ∷ ls) run u c = keeps_units ls (followed run l) u (Contains-append_left run.units (moved (rounded run.at l.align) l.units) u c)

members_from : (rows : List Aggregate) (ts : List Ty) (run : Run) → AllByRecursion (λ t. is_stored rows t ≡ true) ts
    → ArePartsOf rows (fold followed run (map (layout rows) ts)).at (fold followed run (map (layout rows) ts)).units (standing ts (offsets_from run.at (map (layout rows) ts)))
unfolding followed
members_from rows [] run h = tt
members_from rows (t ∷ ts) run h =
    let l : Layout = layout rows t in
    let ls : List Layout = map (layout rows) ts in
    let at : ℕ = rounded run.at l.align in
    let next : Run = followed run l in
    let rest = grows ls next (layouts_fit rows ts) in (
      record {
        stored = h.0;
        within = rest;
        stands = λ u c. keeps_units ls next (unit_at (at + u.at) u.size) (Contains-append_right run.units (moved at l.units) (unit_at (at + u.at) u.size) (contains-moved at l.units u c));
      },
      members_from rows ts next h.1,
    )

all_stay : (rows more : List Aggregate) (ts : List Ty) → AllByRecursion (λ t. is_complete rows t ≡ true) ts → map (layout (rows ++ more)) ts ≡ map (layout rows) ts
all_stay rows more [] h = refl
all_stay rows more (t ∷ ts) h = ap (λ l. l ∷ map (layout (rows ++ more)) ts) (layout-stays rows more t h.0) ∙ ap (λ ls. layout rows t ∷ ls) (all_stay rows more ts h.1)

aggr_layout : (rows : List Aggregate) (k : ℕ) (a : Aggregate) (ms : List Ty) → IsLaidOut rows → slice_get rows k ≡ Some a → a.members ≡ Some ms → a.is_union ≡ false
    → layout rows (ty.Aggregate k) ≡ in_order (map (layout rows) ms)
aggr_layout rows k a ms laid e is not =
    let ordered : All (λ t. is_complete (take k rows) t ≡ true) ms = subst (λ (o : Option (List Ty)). All (λ t. is_complete (take k rows) t ≡ true) (unwrap_or o [])) is (laid.ordered k a e) in
    let whole : take k rows ++ drop k rows ≡ rows = take-append-drop k rows in
    let same : map (layout rows) ms ≡ map (layout (take k rows)) ms =
    ap (λ r. map (layout r) ms) (sym whole) ∙ all_stay (take k rows) (drop k rows) ms (recursion_from_All (λ t. is_complete (take k rows) t ≡ true) ms ordered) in
    aggregate-in_order rows k a ms ms e is not refl ∙ ap in_order (sym same)

weaker_within : (rows : List Aggregate) (a b : ℕ) (us : List Unit) (ms : List Member) → a ≤ b → ArePartsOf rows a us ms → ArePartsOf rows b us ms
weaker_within rows a b us [] le h = tt
weaker_within rows a b us (m ∷ ms) le h = (record { stored = h.0.stored; within = (let w = h.0.within in omega arith); stands = h.0.stands }, weaker_within rows a b us ms le h.1)

record IsAggr (rows : List Aggregate) (n : ℕ) (ts : List Ty) : Type 0 where
  row : Aggregate
  is_there : slice_get rows n ≡ Some row
  no_union : row.is_union ≡ false
  members : row.members ≡ Some ts

aggr_if : (rows : List Aggregate) (n : ℕ) (a : Aggregate) (ts : List Ty) (u : Bool) → slice_get rows n ≡ Some a → a.is_union ≡ u → (if u then None else a.members) ≡ Some ts → IsAggr rows n ts
aggr_if rows n a ts false is so e = record { row = a; is_there = is; no_union = so; members = e }
aggr_if rows n a ts true is so e = absurd (cc)

aggr_row : (rows : List Aggregate) (n : ℕ) (ts : List Ty) (o : Option Aggregate) → slice_get rows n ≡ o → unless_union o ≡ Some ts → IsAggr rows n ts
aggr_row rows n ts None is e = absurd (cc)
aggr_row rows n ts (Some a) is e = aggr_if rows n a ts a.is_union is refl e

unless_adt : (rows : List Aggregate) (n : ℕ) (ts : List Ty) (b : Bool) → (if b then None else unless_union (slice_get rows n)) ≡ Some ts → IsAggr rows n ts
unless_adt rows n ts true e = absurd (cc)
unless_adt rows n ts false e = aggr_row rows n ts (slice_get rows n) refl e

an_aggr : (rows : List Aggregate) (adts : List Bool) (n : ℕ) (ts : List Ty) → aggr_members rows adts n ≡ Some ts → IsAggr rows n ts
unfolding aggr_members
an_aggr rows adts n ts e = unless_adt rows n ts (is_adt adts n) e

module _ (rows : List Aggregate) (laid : IsLaidOut rows) (stored : MembersAreStored rows) where
  members_are : (n : ℕ) (ts : List Ty) → IsAggr rows n ts → AreParts rows (ty.Aggregate n) (members rows ts)
  unfolding members
  members_are n ts a =
      let ls : List Layout = map (layout rows) ts in
      let is = aggr_layout rows n a.row ts laid a.is_there a.members a.no_union in
      let each : All (λ t. is_stored rows t ≡ true) ts = subst (λ (o : Option (List Ty)). All (λ t. is_stored rows t ≡ true) (unwrap_or o [])) a.members (stored n a.row a.is_there) in
      let at = members_from rows ts begun (recursion_from_All (λ t. is_stored rows t ≡ true) ts each) in
      let all = weaker_within rows (fold followed begun ls).at (in_order ls).size (fold followed begun ls).units (standing ts (offsets_from 0 ls)) (in_order-end ls) at in
      subst (λ (l : Layout). ArePartsOf rows l.size l.units (standing ts (offsets_from 0 ls))) (sym is)
      (subst (λ us. ArePartsOf rows (in_order ls).size us (standing ts (offsets_from 0 ls))) (sym (in_order-units ls)) all)

  element_stored : (element : Ty) (count : ℕ) → is_stored rows (ty.Array element count) ≡ true → is_stored rows element ≡ true
  element_stored element count h =
      let b = and_parts _ _ h in
      and_from _ _ (sound-Array rows element count b.0) (sym (is_complete-Array rows element count) ∙ b.1)

  mapped : (adts : List Bool) (n : ℕ) (o : Option (List Ty)) (ms : List Member) → aggr_members rows adts n ≡ o → option_map (members rows) o ≡ Some ms → AreParts rows (ty.Aggregate n) ms
  mapped adts n None ms is e = absurd (cc)
  mapped adts n (Some ts) ms is e = subst (AreParts rows (ty.Aggregate n)) (some_is e) (members_are n ts (an_aggr rows adts n ts is))

  pub parts_are : (adts : List Bool) (t : Ty) (ms : List Member) → is_stored rows t ≡ true → parts_of rows adts t ≡ Some ms → AreParts rows t ms
  unfolding parts_of
  parts_are adts t ms h e = on (out-Ty t) (sym (roll-out-Ty t)) e
    where
      on : (y : Ty-F Ty) → t ≡ roll-Ty y → parts_at rows adts y ≡ Some ms → AreParts rows t ms
      on (Ty-F.Array element count) is e =
          let same : t ≡ ty.Array element count = is ∙ ty.rolls-Array element count in
          subst (λ u. AreParts rows u ms) (sym same)
          (subst (AreParts rows (ty.Array element count)) (some_is e)
          (elements_are rows element count (element_stored element count (subst (λ u. is_stored rows u ≡ true) same h))))
      on (Ty-F.Aggregate n) is e = subst (λ u. AreParts rows u ms) (sym (is ∙ ty.rolls-Aggregate n)) (mapped adts n (aggr_members rows adts n) ms refl e)
      on _ is e = absurd (cc)
