-- Members lie in their aggregates, and shared locals in their blocks.
use Rattle.std.proofs.Common.{◌≡◌, ℕ, zero, suc, ◌+◌, ◌≤◌, Bool, true, false, List, [], ◌∷◌, ◌++◌, map, length, take, drop, Option, Some, None, refl, ap, sym, ◌∙◌, subst, arith}
use Rattle.std.specs.Prelude.{if◌then◌else◌, All, slice_get, slice_index, unwrap_or, fold}
use Rattle.std.specs.List.{AllByRecursion}
use Rattle.std.proofs.lemmas.Bool.{and_parts}
use Rattle.std.proofs.lemmas.List.{take-append-drop}
use Rattle.std.proofs.lemmas.List.Elements.{recursion_from_All}
use Rattle.al_typed.specs.declared.ty.Ty.{Ty}
use Rattle.al_typed.specs.declared.ty.Ty.TheOpen.{Ty-F}
use Rattle.al_typed.specs.declared.ty.Ty.TheVariants as ty
use Rattle.al_typed.specs.declared.ty.Ty.TheViews.{out-Ty, roll-Ty, roll-out-Ty}
use Rattle.al_typed.specs.declared.program.Aggregate.{Aggregate}
use Rattle.al_typed.specs.declared.program.Function.{Function as FunctionRow}
use Rattle.al_typed.specs.declared.program.Local.{Local}
use Rattle.al_typed.specs.declared.program.Program.{Program}
use Rattle.al_typed.specs.Types.{is_complete}
use Rattle.al_typed.specs.Layout.{Layout, Run, Extent, Member, IsLaidOut, layout, size_of, members_layout, over_each_other, offsets_from, rounded, followed, widened, begun, member, further, beyond, row_of, row_at, number_at, members_of, member_offsets}
use Rattle.al_typed.specs.WellTyped.{is_sound, is_stored, shared_types}
use Rattle.al_typed.specs.Sound.{HasSoundTypes, IsSoundFunction}
use Rattle.al_typed.proofs.CappedLemmas.{rounded_above}
use Rattle.al_typed.proofs.Completeness.{layout-stays}
use Rattle.al_typed.proofs.Fitting.{AllFit, layouts_fit}
use Rattle.al_typed.proofs.Placing.{aggregate-members, in_order-end}
use Rattle.al_meaning.specs.Places.{block_size, function_at, local_offset, shared_layouts}

-- ---- one after another

grows : (ls : List Layout) (run : Run) → AllFit ls → run.at ≤ (fold followed run ls).at
unfolding followed
grows [] run h = omega arith
grows (l ∷ ls) run h =
    let above = rounded_above run.at l.align h.0.low in
    let rest = grows ls (followed run l) h.1 in
    omega arith

-- a member lies before the end
pub offset_fits : (ls : List Layout) (run : Run) (k at : ℕ) (l : Layout) → AllFit ls → slice_get (offsets_from run.at ls) k ≡ Some at → slice_get ls k ≡ Some l
    → at + l.size ≤ (fold followed run ls).at
unfolding followed
offset_fits [] run k at l h e is = absurd (cc)
offset_fits (x ∷ ls) run zero at l h e is =
    let rest = grows ls (followed run x) h.1 in
    let place : rounded run.at x.align ≡ at = cc in
    let same : x ≡ l = cc in
    let size : x.size ≡ l.size = ap (λ (l : Layout). l.size) same in
    omega arith
offset_fits (x ∷ ls) run (suc k) at l h e is = offset_fits ls (followed run x) k at l h.1 e is

index_fits : (ls : List Layout) (run : Run) (k : ℕ) → AllFit ls → slice_index (offsets_from run.at ls) k ≤ (fold followed run ls).at
unfolding followed
index_fits [] run k h = omega arith
index_fits (x ∷ ls) run zero h = let rest = grows ls (followed run x) h.1 in omega arith
index_fits (x ∷ ls) run (suc k) h = index_fits ls (followed run x) k h.1

-- ---- over each other

widens : (ls : List Layout) (e : Extent) → (e.size ≤ (fold widened e ls).size) × (e.align ≤ (fold widened e ls).align)
widens [] e = (omega arith, omega arith)
widens (l ∷ ls) e = let rest = widens ls (widened e l) in (omega (arith, rest.0), omega (arith, rest.1))

covers : (ls : List Layout) (e : Extent) (k : ℕ) (l : Layout) → slice_get ls k ≡ Some l → l.size ≤ (fold widened e ls).size
covers [] e k l is = absurd (cc)
covers (x ∷ ls) e zero l is =
    let rest = widens ls (widened e x) in
    let same : x ≡ l = cc in
    let size : x.size ≡ l.size = ap (λ (l : Layout). l.size) same in
    omega (arith, rest.0)
covers (x ∷ ls) e (suc k) l is = covers ls (widened e x) k l is

pub union_covers : (ls : List Layout) (k : ℕ) (l : Layout) → slice_get ls k ≡ Some l → l.size ≤ (over_each_other ls).size
unfolding over_each_other
union_covers ls k l is =
    let none : Extent = record { size = 0; align = 1 } in
    let wide = covers ls none k l is in
    let above = rounded_above (fold widened none ls).size (fold widened none ls).align (widens ls none).1 in
    omega arith

-- ---- aggregates

all_stay : (rows more : List Aggregate) (ts : List Ty) → AllByRecursion (λ t. is_complete rows t ≡ true) ts → map (layout (rows ++ more)) ts ≡ map (layout rows) ts
all_stay rows more [] h = refl
all_stay rows more (t ∷ ts) h = ap (λ l. l ∷ map (layout (rows ++ more)) ts) (layout-stays rows more t h.0) ∙ ap (λ ls. layout rows t ∷ ls) (all_stay rows more ts h.1)

get_map : {A B : Type 0} (f : A → B) (xs : List A) (k : ℕ) (x : A) → slice_get xs k ≡ Some x → slice_get (map f xs) k ≡ Some (f x)
get_map f [] k x e = absurd (cc)
get_map f (y ∷ xs) zero x e = let same : y ≡ x = cc in ap (λ y. Some (f y)) same
get_map f (y ∷ xs) (suc k) x e = get_map f xs k x e

zeros : {A : Type 0} (xs : List A) (k at : ℕ) → slice_get (map (λ _. 0) xs) k ≡ Some at → at ≡ 0
zeros [] k at e = absurd (cc)
zeros (x ∷ xs) zero at e = cc
zeros (x ∷ xs) (suc k) at e = zeros xs k at e

-- one of the members of these
member_lies : (rows : List Aggregate) (is_union : Bool) (ms : List Ty) (i at : ℕ) (t : Ty) → slice_get ms i ≡ Some t
    → slice_get (if is_union then map (λ _. 0) ms else offsets_from 0 (map (layout rows) ms)) i ≡ Some at
    → at + size_of rows t ≤ (members_layout is_union (map (layout rows) ms)).size
member_lies rows true ms i at t is e =
    let none = zeros ms i at e in
    let wide = union_covers (map (layout rows) ms) i (layout rows t) (get_map (layout rows) ms i t is) in
    omega arith
member_lies rows false ms i at t is e =
    let ls : List Layout = map (layout rows) ms in
    let before = offset_fits ls begun i at (layout rows t) (layouts_fit rows ms) e (get_map (layout rows) ms i t is) in
    let end = in_order-end ls in
    omega arith

pub aggregate_size : (rows : List Aggregate) (k : ℕ) (a : Aggregate) (ms : List Ty) → IsLaidOut rows → slice_get rows k ≡ Some a → a.members ≡ Some ms
    → size_of rows (ty.Aggregate k) ≡ (members_layout a.is_union (map (layout rows) ms)).size
aggregate_size rows k a ms laid e is =
    let ordered : All (λ t. is_complete (take k rows) t ≡ true) ms = subst (λ (o : Option (List Ty)). All (λ t. is_complete (take k rows) t ≡ true) (unwrap_or o [])) is (laid.ordered k a e) in
    let whole : take k rows ++ drop k rows ≡ rows = take-append-drop k rows in
    let same : map (layout rows) ms ≡ map (layout (take k rows)) ms =
    ap (λ r. map (layout r) ms) (sym whole) ∙ all_stay (take k rows) (drop k rows) ms (recursion_from_All (λ t. is_complete (take k rows) t ≡ true) ms ordered) in
    ap (λ (l : Layout). l.size) (aggregate-members rows k a ms e is) ∙ ap (λ ls. (members_layout a.is_union ls).size) (sym same)

-- ---- what stands at a number

each_at : {A : Type 0} (P : A → Type 0) (xs : List A) (k : ℕ) (x : A) → AllByRecursion P xs → slice_get xs k ≡ Some x → P x
each_at P [] k x h e = absurd (cc)
each_at P (y ∷ xs) zero x h e = let same : y ≡ x = cc in subst P same h.0
each_at P (y ∷ xs) (suc k) x h e = each_at P xs k x h.1 e

pub all_at : {A : Type 0} (P : A → Type 0) (xs : List A) (k : ℕ) (x : A) → All P xs → slice_get xs k ≡ Some x → P x
all_at P xs k x h e = each_at P xs k x (recursion_from_All P xs h) e

pub function_is : (p : Program) → HasSoundTypes p → (number : ℕ) (f : FunctionRow) → function_at p number ≡ Some f → IsSoundFunction p f
function_is p W number f e = all_at (IsSoundFunction p) p.functions number f W.functions e

-- ---- paths

row_is : (rows : List Aggregate) (t : Ty) (a : Aggregate) → row_of rows t ≡ Some a → (k : ℕ) × ((t ≡ ty.Aggregate k) × (slice_get rows k ≡ Some a))
unfolding row_of
row_is rows t a h = on (out-Ty t) (sym (roll-out-Ty t)) h
  where
    on : (y : Ty-F Ty) → t ≡ roll-Ty y → row_at rows (number_at y) ≡ Some a → (k : ℕ) × ((t ≡ ty.Aggregate k) × (slice_get rows k ≡ Some a))
    on (Ty-F.Aggregate k) e h = (k, (e ∙ ty.rolls-Aggregate k, h))
    on _ e h = absurd (cc)

-- a member lies in what a path leads to it from, and is of a sound type if that is
abbrev pub Lies : Program → Ty → Member → Type 0
Lies p t m = (m.at + size_of p.aggregates m.ty ≤ size_of p.aggregates t) × (is_sound p.aggregates t ≡ true → is_sound p.aggregates m.ty ≡ true)

module _ (p : Program) (W : HasSoundTypes p) where
  step_lies : (t u : Ty) (a : Aggregate) (i at : ℕ) → row_of p.aggregates t ≡ Some a → slice_get (members_of (Some a)) i ≡ Some u
      → slice_get (member_offsets p.aggregates (Some a)) i ≡ Some at
      → (at + size_of p.aggregates u ≤ size_of p.aggregates t) × (is_sound p.aggregates u ≡ true)
  step_lies t u a i at e is stands =
      let r = row_is p.aggregates t a e in
      let stored = all_at (λ t. is_stored p.aggregates t ≡ true) (members_of (Some a)) i u (W.members r.0 a r.1.1) is in
      (on a.members refl is stands r.0 r.1.0 r.1.1, (and_parts _ _ stored).0)
    where
      on : (o : Option (List Ty)) → a.members ≡ o → slice_get (unwrap_or o []) i ≡ Some u
          → slice_get (if a.is_union then map (λ _. 0) (unwrap_or o []) else offsets_from 0 (map (layout p.aggregates) (unwrap_or o []))) i ≡ Some at
          → (k : ℕ) → t ≡ ty.Aggregate k → slice_get p.aggregates k ≡ Some a → at + size_of p.aggregates u ≤ size_of p.aggregates t
      on (Some ms) b is stands k same row =
          let lies = member_lies p.aggregates a.is_union ms i at u is stands in
          let size = aggregate_size p.aggregates k a ms W.laid_out row b in
          let type : size_of p.aggregates t ≡ size_of p.aggregates (ty.Aggregate k) = ap (size_of p.aggregates) same in
          omega arith
      on None b is stands k same row = absurd (cc)

  further_lies : (t u : Ty) (at : ℕ) (o : Option Member) (m : Member) → (at + size_of p.aggregates u ≤ size_of p.aggregates t) × (is_sound p.aggregates u ≡ true)
      → further at o ≡ Some m → ((n : Member) → o ≡ Some n → Lies p u n) → Lies p t m
  further_lies t u at (Some n) m here e rest =
      let r = rest n refl in
      let same : record { ty = n.ty; at = at + n.at } ≡ m = cc in
      subst (Lies p t) same (omega (arith, here.0, r.0), λ _. r.1 here.1)
  further_lies t u at None m here e rest = absurd (cc)

  beyond_lies : (t : Ty) (o : Option Aggregate) (i : ℕ) (next : Ty → Option Member) (m : Member) → row_of p.aggregates t ≡ o
      → beyond (slice_get (members_of o) i) (slice_get (member_offsets p.aggregates o) i) next ≡ Some m
      → ((u : Ty) (n : Member) → next u ≡ Some n → Lies p u n) → Lies p t m
  beyond_lies t None i next m row e rest = absurd (cc)
  beyond_lies t (Some a) i next m row e rest = on (slice_get (members_of (Some a)) i) (slice_get (member_offsets p.aggregates (Some a)) i) refl refl e
    where
      on : (x : Option Ty) (y : Option ℕ) → slice_get (members_of (Some a)) i ≡ x → slice_get (member_offsets p.aggregates (Some a)) i ≡ y → beyond x y next ≡ Some m → Lies p t m
      on (Some u) (Some at) is stands e = further_lies t u at (next u) m (step_lies t u a i at row is stands) e (rest u)
      on (Some u) None is stands e = absurd (cc)
      on None y is stands e = absurd (cc)

  pub path_lies : (path : List ℕ) (t : Ty) (m : Member) → member p.aggregates path t ≡ Some m → Lies p t m
  unfolding member
  path_lies [] t m e =
      let same : record { ty = t; at = 0 } ≡ m = cc in
      subst (Lies p t) same (omega arith, λ h. h)
  path_lies (i ∷ path) t m e = beyond_lies t (row_of p.aggregates t) i (member p.aggregates path) m refl e (λ u n is. path_lies path u n is)

-- ---- locals

pub local_within : (p : Program) (locals : List Local) (number : ℕ) → local_offset p locals number ≤ block_size p locals
local_within p locals number =
    let ls = shared_layouts p locals in
    let before = index_fits ls begun (length (shared_types (take number locals))) (layouts_fit p.aggregates (shared_types locals)) in
    let end = in_order-end ls in
    omega arith
