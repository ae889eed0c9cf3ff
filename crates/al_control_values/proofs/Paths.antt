-- Where members stand, and where paths of members lead.
use Rattle.std.proofs.Common.{◌≡◌, ℕ, zero, suc, ◌+◌, ◌<◌, ◌≤◌, min, List, [], ◌∷◌, map, take, drop, length, get_or, Option, Some, None, refl, sym, ap, ap₂, ◌∙◌, subst, arith}
use Rattle.std.specs.Prelude.{Bool, true, false, if◌then◌else◌, fold, slice_get, slice_index, unwrap_or}
use Rattle.std.proofs.Math.Seq.{drop-cons}
use Rattle.std.proofs.lemmas.List.{drop_all, get_or-map, length-map}
use Rattle.std.proofs.lemmas.List.Sums.{fold_more}
use Rattle.al_typed.proofs.CappedLemmas.{capped-add, capped-rounded}
use Rattle.std.proofs.lemmas.Option.{slice_get-get_or}
use Rattle.al_typed.specs.declared.program.Aggregate.{Aggregate}
use Rattle.al_typed.specs.declared.ty.Ty.{Ty}
use Rattle.al_typed.specs.declared.ty.Ty.TheVariants as ty
use Rattle.al_typed.specs.declared.ty.Ty.TheViews.{out-Ty}
use denote.Hole.Carrier.{out}
use Rattle.al_typed.specs.Capped.{capped}
use Rattle.al_typed.specs.Layout.{Layout, Member, rounded, layout, offsets_from, member, further, beyond, row_of, members_of, member_offsets}
use Rattle.al_control_values.specs.declared.members.Reached.{Reached}
use Rattle.al_control_values.specs.Reaches.{Finds, places}

pub row_of-number : (rows : List Aggregate) (t : Ty) (n : ℕ) → t ≡ ty.Aggregate n → row_of rows t ≡ slice_get rows n
unfolding row_of out-Ty out
row_of-number rows t n e = ap (row_of rows) e

-- where the member after this one may stand
abbrev pub placed : ℕ → Layout → ℕ
placed at l = rounded at l.align + l.size

pub offset_at : (at : ℕ) (ls : List Layout) (k : ℕ) (d : Layout) → k < length ls
    → slice_index (offsets_from at ls) k ≡ rounded (fold placed at (take k ls)) (get_or ls k d).align
offset_at at [] k d h = absurd (omega arith)
offset_at at (l ∷ ls) zero d h = refl
offset_at at (l ∷ ls) (suc k) d h = offset_at (placed at l) ls k d (omega arith)

-- ---- one member more of a path

beyond-none : (rows : List Aggregate) (x : Option Ty) (y : Option ℕ) (next : Ty → Option Member)
    → beyond x y (member rows []) ≡ None → beyond x y next ≡ None
unfolding member
beyond-none rows (Some t) (Some n) next e = absurd (cc)
beyond-none rows (Some t) None next e = refl
beyond-none rows None y next e = refl

beyond-some : (rows : List Aggregate) (x : Option Ty) (y : Option ℕ) (next : Ty → Option Member) (m : Member)
    → beyond x y (member rows []) ≡ Some m → beyond x y next ≡ further m.at (next m.ty)
unfolding member
beyond-some rows (Some t) (Some n) next m e =
    let is : record { ty = t; at = n + 0 } ≡ m = cc in
    subst (λ (m : Member). further n (next t) ≡ further m.at (next m.ty)) is (ap (λ k. further k (next t)) (omega arith))
beyond-some rows (Some t) None next m e = absurd (cc)
beyond-some rows None y next m e = absurd (cc)

pub member-none : (rows : List Aggregate) (i : ℕ) (path : List ℕ) (t : Ty) → member rows (i ∷ []) t ≡ None → member rows (i ∷ path) t ≡ None
unfolding member
member-none rows i path t e =
    let a = row_of rows t in
    beyond-none rows (slice_get (members_of a) i) (slice_get (member_offsets rows a) i) (member rows path) e

pub member-some : (rows : List Aggregate) (i : ℕ) (path : List ℕ) (t : Ty) (m : Member) → member rows (i ∷ []) t ≡ Some m
    → member rows (i ∷ path) t ≡ further m.at (member rows path m.ty)
unfolding member
member-some rows i path t m e =
    let a = row_of rows t in
    beyond-some rows (slice_get (members_of a) i) (slice_get (member_offsets rows a) i) (member rows path) m e

further_twice : (a b : ℕ) (o : Option Member) → further a (further b o) ≡ further (a + b) o
further_twice a b (Some m) = ap (λ n. Some (record { ty = m.ty; at = n })) (omega arith)
further_twice a b None = refl

-- ---- a path, as far as it was gone

pub record Way (rows : List Aggregate) (path : List ℕ) (from : Ty) (i : ℕ) (here : Ty) (at : ℕ) : Type 0 where
  pub offset : ℕ
  pub capped_at : at ≡ capped offset
  pub leads : member rows path from ≡ further offset (member rows (drop i path) here)

pub way_begins : (rows : List Aggregate) (path : List ℕ) (from : Ty) → Way rows path from 0 from 0
way_begins rows path from = record { offset = 0; capped_at = omega arith; leads = none_further (member rows path from) }
  where
    none_further : (o : Option Member) → o ≡ further 0 o
    none_further (Some m) = ap (λ n. Some (record { ty = m.ty; at = n })) (omega arith)
    none_further None = refl

rest_of : (path : List ℕ) (i number d : ℕ) → i < length path → number ≡ get_or path i d → drop i path ≡ number ∷ drop (i + 1) path
rest_of path i number d h is = drop-cons path i d h ∙ ap (λ n. n ∷ drop (suc i) path) (sym is) ∙ ap (λ (k : ℕ). number ∷ drop k path) (next i)
  where
    next : (i : ℕ) → suc i ≡ i + 1
    next i = omega arith

pub way_goes_on : (rows : List Aggregate) (path : List ℕ) (from : Ty) (i number d : ℕ) (here : Ty) (at new : ℕ) (next : Reached)
    → Way rows path from i here at → i < length path → number ≡ get_or path i d
    → Finds (Some next) (member rows (number ∷ []) here) → new ≡ capped (at + next.at)
    → Way rows path from (i + 1) next.ty.now new
way_goes_on rows path from i number d here at new next w h is found e = on (member rows (number ∷ []) here) refl found
  where
    on : (o : Option Member) → member rows (number ∷ []) here ≡ o → Finds (Some next) o → Way rows path from (i + 1) next.ty.now new
    on (Some m) same found = record {
      offset = w.offset + m.at;
      capped_at = let a = w.capped_at in let b = found.1 in omega arith;
      leads =
          w.leads ∙ ap (λ p. further w.offset (member rows p here)) (rest_of path i number d h is)
          ∙ ap (further w.offset) (member-some rows number (drop (i + 1) path) here m same)
          ∙ further_twice w.offset m.at (member rows (drop (i + 1) path) m.ty)
          ∙ ap (λ t. further (w.offset + m.at) (member rows (drop (i + 1) path) t)) (sym found.0);
    }
    on None same found = absurd found

pub way_breaks : (rows : List Aggregate) (path : List ℕ) (from : Ty) (i number d : ℕ) (here : Ty) (at : ℕ)
    → Way rows path from i here at → i < length path → number ≡ get_or path i d
    → Finds None (member rows (number ∷ []) here) → Finds None (member rows path from)
way_breaks rows path from i number d here at w h is found = on (member rows (number ∷ []) here) refl found
  where
    broken : member rows (number ∷ []) here ≡ None → member rows path from ≡ None
    broken same =
        w.leads ∙ ap (λ p. further w.offset (member rows p here)) (rest_of path i number d h is)
        ∙ ap (further w.offset) (member-none rows number (drop (i + 1) path) here same)

    on : (o : Option Member) → member rows (number ∷ []) here ≡ o → Finds None o → Finds None (member rows path from)
    on (Some m) same found = absurd found
    on None same found = subst (Finds None) (sym (broken same)) tt

pub way_ends : (rows : List Aggregate) (path : List ℕ) (from : Ty) (i : ℕ) (here : Ty) (at : ℕ) (r : Reached)
    → Way rows path from i here at → length path ≤ i → r.ty.now ≡ here → r.at ≡ at → Finds (Some r) (member rows path from)
unfolding member
way_ends rows path from i here at r w h type place =
    subst (Finds (Some r)) (sym (w.leads ∙ ap (λ p. further w.offset (member rows p here)) (drop_all i path h)))
    (type, place ∙ w.capped_at ∙ ap capped (and_none w.offset))
  where
    and_none : (n : ℕ) → n ≡ n + 0
    and_none n = omega arith

-- ---- a member

length-offsets : (at : ℕ) (ls : List Layout) → length (offsets_from at ls) ≡ length ls
length-offsets at [] = refl
length-offsets at (l ∷ ls) = ap suc (length-offsets (placed at l) ls)

pub no_row : (rows : List Aggregate) (t : Ty) (n : ℕ) → row_of rows t ≡ None → member rows (n ∷ []) t ≡ None
unfolding member
no_row rows t n e = ap (λ a. beyond (slice_get (members_of a) n) (slice_get (member_offsets rows a) n) (member rows [])) e

pub no_body : (rows : List Aggregate) (t : Ty) (n : ℕ) (a : Aggregate) → row_of rows t ≡ Some a → a.members ≡ None → member rows (n ∷ []) t ≡ None
unfolding member
no_body rows t n a e b =
    ap (λ a. beyond (slice_get (members_of a) n) (slice_get (member_offsets rows a) n) (member rows [])) e
    ∙ ap (λ ms. beyond (slice_get (unwrap_or ms []) n) (slice_get (member_offsets rows (Some a)) n) (member rows [])) b

pub no_member : (rows : List Aggregate) (t : Ty) (n : ℕ) (a : Aggregate) (ms : List Ty) → row_of rows t ≡ Some a → a.members ≡ Some ms
    → slice_get ms n ≡ None → member rows (n ∷ []) t ≡ None
unfolding member
no_member rows t n a ms e b m =
    ap (λ a. beyond (slice_get (members_of a) n) (slice_get (member_offsets rows a) n) (member rows [])) e
    ∙ ap (λ ms. beyond (slice_get (unwrap_or ms []) n) (slice_get (member_offsets rows (Some a)) n) (member rows [])) b
    ∙ ap (λ x. beyond x (slice_get (member_offsets rows (Some a)) n) (member rows [])) m

-- where a member stands: one of a union at 0
pub a_member : (rows : List Aggregate) (t u : Ty) (n at : ℕ) (a : Aggregate) (ms : List Ty) (r : Reached)
    → row_of rows t ≡ Some a → a.members ≡ Some ms → slice_get ms n ≡ Some u
    → r.ty.now ≡ u → r.at ≡ capped at
    → slice_get (places rows a.is_union ms) n ≡ Some at
    → Finds (Some r) (member rows (n ∷ []) t)
unfolding member
a_member rows t u n at a ms r e b m type place stands =
    subst (Finds (Some r))
    (sym (ap (λ a. beyond (slice_get (members_of a) n) (slice_get (member_offsets rows a) n) (member rows [])) e
    ∙ ap (λ ms. beyond (slice_get (unwrap_or ms []) n)
    (slice_get (if a.is_union then map (λ _. 0) (unwrap_or ms []) else offsets_from 0 (map (layout rows) (unwrap_or ms []))) n) (member rows [])) b
    ∙ ap₂ (λ x y. beyond x y (member rows [])) m stands))
    (type, place ∙ ap capped (and_none at))
  where
    and_none : (n : ℕ) → n ≡ n + 0
    and_none n = omega arith

length-places : (rows : List Aggregate) (is_union : Bool) (ms : List Ty) → length (places rows is_union ms) ≡ length ms
length-places rows true ms = length-map ms (λ _. 0)
length-places rows false ms = length-offsets 0 (map (layout rows) ms) ∙ length-map ms (layout rows)

pub member_place : (rows : List Aggregate) (is_union : Bool) (ms : List Ty) (n : ℕ) → n < length ms
    → slice_get (places rows is_union ms) n ≡ Some (slice_index (places rows is_union ms) n)
member_place rows is_union ms n h =
    let same = length-places rows is_union ms in
    slice_get-get_or (places rows is_union ms) n 0 (omega arith)

union_first : (ms : List Ty) (n : ℕ) → slice_index (map (λ (_ : Ty). 0) ms) n ≡ 0
union_first [] n = refl
union_first (m ∷ ms) zero = refl
union_first (m ∷ ms) (suc n) = union_first ms n

pub union_place : (rows : List Aggregate) (is_union : Bool) (ms : List Ty) (n : ℕ) → is_union ≡ true
    → 0 ≡ capped (slice_index (places rows is_union ms) n)
union_place rows true ms n e = ap capped (sym (union_first ms n))
union_place rows false ms n e = absurd (cc)

pub other_place : (rows : List Aggregate) (is_union : Bool) (ms : List Ty) (n at : ℕ) → is_union ≡ false
    → at ≡ capped (slice_index (offsets_from 0 (map (layout rows) ms)) n) → at ≡ capped (slice_index (places rows is_union ms) n)
other_place rows true ms n at e is = absurd (cc)
other_place rows false ms n at e is = is

-- ---- members one after another, in 64 bits

placed_capped : (x end size align new : ℕ) (l : Layout) → end ≡ capped x → align ≡ l.align → 1 ≤ align → size ≡ capped l.size
    → new ≡ capped (capped (rounded end align) + size) → new ≡ capped (placed x l)
placed_capped x end size align new l e a pos s is =
    is
    ∙ ap (λ n. capped (capped (rounded n align) + size)) e
    ∙ ap (λ n. capped (n + size)) (capped-rounded x align pos)
    ∙ ap (λ n. capped (capped (rounded x align) + n)) s
    ∙ capped-add (rounded x align) l.size
    ∙ ap (λ n. capped (rounded x n + l.size)) a

pub member_placed : (rows : List Aggregate) (ms : List Ty) (i : ℕ) (item : Ty) (end size align new : ℕ) → i < length ms → item ≡ get_or ms i item
    → end ≡ capped (fold placed 0 (take i (map (layout rows) ms))) → align ≡ (layout rows item).align → 1 ≤ align → size ≡ capped (layout rows item).size
    → new ≡ capped (capped (rounded end align) + size) → new ≡ capped (fold placed 0 (take (i + 1) (map (layout rows) ms)))
member_placed rows ms i item end size align new h is e a pos s n =
    placed_capped (fold placed 0 (take i (map (layout rows) ms))) end size align new (layout rows item) e a pos s n
    ∙ ap capped (sym (fold_more placed 0 (map (layout rows) ms) i (layout rows item) (omega (arith, length-map ms (layout rows)))
    ∙ ap (placed (fold placed 0 (take i (map (layout rows) ms)))) (get_or-map (layout rows) ms i item (layout rows item) h ∙ ap (layout rows) (sym is))))

pub member_begins : (rows : List Aggregate) (ms : List Ty) (n : ℕ) (item : Ty) (end align at : ℕ) → n < length ms → item ≡ get_or ms n item
    → end ≡ capped (fold placed 0 (take n (map (layout rows) ms))) → align ≡ (layout rows item).align → 1 ≤ align
    → at ≡ capped (rounded end align) → at ≡ capped (slice_index (offsets_from 0 (map (layout rows) ms)) n)
member_begins rows ms n item end align at h is e a pos r =
    let ls = map (layout rows) ms in
    r ∙ ap (λ x. capped (rounded x align)) e ∙ capped-rounded (fold placed 0 (take n ls)) align pos
    ∙ ap (λ x. capped (rounded (fold placed 0 (take n ls)) x)) (a ∙ ap (λ (l : Layout). l.align) (sym (get_or-map (layout rows) ms n item (layout rows item) h ∙ ap (layout rows) (sym is))))
    ∙ ap capped (sym (offset_at 0 ls n (layout rows item) (omega (arith, length-map ms (layout rows)))))
