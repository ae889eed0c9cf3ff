-- The parts of arrays and aggrs, from each of them on.
use Rattle.std.proofs.Common.{◌≡◌, ℕ, ◌+◌, ◌-◌, ◌*◌, ◌<◌, ◌≤◌, suc, true, List, [], ◌∷◌, ◌++◌, map, length, get_or, drop, arith, refl, ap, ◌∙◌, sym, subst, append_assoc}
use Rattle.std.specs.Prelude.{nat_le, false}
use Rattle.std.specs.List.{range_with_len}
use Rattle.std.proofs.lemmas.Bool.Decides.{nat_tests}
use Rattle.std.proofs.lemmas.List.{append-nil, length-map}
use Rattle.std.proofs.lemmas.List.FromFn.{length-map-range_with_len}
use Rattle.al_base.specs.declared.place.Place.{Place}
use Rattle.al_rules.specs.declared.fault.TypeStop.{TypeStop}
use Rattle.al_rules.specs.Outcome.{Outcome, Good, Bad, ask, judge, and_then, both, preceded, permits}
use Rattle.al_rules.proofs.Permits.{permits-left, permits-preceded, from_here, none_here}
use Rattle.al_tree.specs.declared.item.Initializer.{Initializer}
use Rattle.al_typed.specs.declared.program.Aggregate.{Aggregate}
use Rattle.al_typed.specs.declared.program.StartValue.{StartValue}
use Rattle.al_typed.specs.declared.ty.Ty.{Ty}
use Rattle.al_typed.specs.Capped.{capped}
use Rattle.al_typed.specs.declared.layout.Room.{Room}
use Rattle.al_typed.specs.Layout.{Layout, Measured, Member, layout, offsets_from, rounded}
use Rattle.al_typed.proofs.CappedLemmas.{capped-add, capped-mul, capped-rounded}
use Rattle.al_initial.specs.Rules.{rule_21_has_parts}
use Rattle.al_initial.specs.Initializers.{Way, part, elements, standing, members, all_started, in_parts}

-- ---- the parts that are left

-- the elements of an array from one on
abbrev pub elements_from : (size : ℕ) → Ty → (count from : ℕ) → List Member
elements_from size t count from = map (λ i. part t (i * size)) (range_with_len from (count - from))

pub elements-begin : (size : ℕ) (t : Ty) (count : ℕ) → elements size t count ≡ elements_from size t count 0
unfolding elements
elements-begin size t count = let e : count ≡ count - 0 = omega arith in ap (λ n. map (λ i. part t (i * size)) (range_with_len 0 n)) e

elements-here : (size : ℕ) (t : Ty) (count from : ℕ) → from < count → elements_from size t count from ≡ part t (from * size) ∷ elements_from size t count (from + 1)
elements-here size t count from h =
    let e : count - from ≡ suc (count - (from + 1)) = omega arith in
    ap (λ n. map (λ i. part t (i * size)) (range_with_len from n)) e

elements-end : (size : ℕ) (t : Ty) (count from : ℕ) → count ≤ from → elements_from size t count from ≡ []
elements-end size t count from h =
    let e : count - from ≡ 0 = omega arith in
    ap (λ n. map (λ i. part t (i * size)) (range_with_len from n)) e

pub length-elements : (size : ℕ) (t : Ty) (count : ℕ) → length (elements size t count) ≡ count
unfolding elements
length-elements size t count = length-map-range_with_len (λ i. part t (i * size)) 0 count

-- the members of an aggr from one on, the first of which may stand at `at`
abbrev pub members_from : List Aggregate → (at : ℕ) → List Ty → List Member
members_from rows at ts = standing ts (offsets_from at (map (layout rows) ts))

pub members-begin : (rows : List Aggregate) (ts : List Ty) → members rows ts ≡ members_from rows 0 ts
unfolding members
members-begin rows ts = refl

length-standing : (rows : List Aggregate) (ts : List Ty) (at : ℕ) → length (members_from rows at ts) ≡ length ts
length-standing rows [] at = refl
length-standing rows (t ∷ ts) at = ap suc (length-standing rows ts (rounded at (layout rows t).align + (layout rows t).size))

pub length-members : (rows : List Aggregate) (ts : List Ty) → length (members rows ts) ≡ length ts
unfolding members
length-members rows ts = length-standing rows ts 0

-- ---- values for them

all_started-none : (ws : List Way) (offset : ℕ) → all_started ws [] offset ≡ Good []
unfolding all_started
all_started-none [] offset = refl
all_started-none (w ∷ ws) offset = refl

preceded-joined : (done vs : List StartValue) (o : Outcome (List StartValue)) → preceded done (both (Good vs) o (λ a b. Good (a ++ b))) ≡ preceded (done ++ vs) o
preceded-joined done vs (Good rest) = ap Good (sym (append_assoc done vs rest))
preceded-joined done vs (Bad fs) = refl

preceded-none : (done : List StartValue) → preceded done (Good []) ≡ Good done
preceded-none done = ap Good (append-nil done)

module _ (f : Initializer → Way) (list : List Initializer) where
  -- what the values from one on give
  abbrev pub left_from : (n : ℕ) → List Member → (offset : ℕ) → Outcome (List StartValue)
  left_from n ms offset = all_started (map f (drop n list)) ms offset

  left-here :
      (n : ℕ) (i : Initializer) (m : Member) (ms : List Member) (offset : ℕ) (done vs : List StartValue)
      → n < length list → i ≡ get_or list n i → f i m.ty (capped (offset + m.at)) ≡ Good vs
      → preceded done (left_from n (m ∷ ms) offset) ≡ preceded (done ++ vs) (left_from (n + 1) ms offset)
  unfolding all_started
  left-here n i m ms offset done vs h e good =
      ap (λ ws. preceded done (all_started ws (m ∷ ms) offset)) (from_here f list n i h e)
      ∙ ap (λ o. preceded done (both o (left_from (n + 1) ms offset) (λ a b. Good (a ++ b)))) good
      ∙ preceded-joined done vs (left_from (n + 1) ms offset)

  left-fault :
      (n : ℕ) (i : Initializer) (m : Member) (ms : List Member) (offset : ℕ) (done : List StartValue) (s : TypeStop)
      → n < length list → i ≡ get_or list n i → permits (f i m.ty (capped (offset + m.at))) s ≡ true
      → permits (preceded done (left_from n (m ∷ ms) offset)) s ≡ true
  unfolding all_started
  left-fault n i m ms offset done s h e bad =
      subst (λ ws. permits (preceded done (all_started ws (m ∷ ms) offset)) s ≡ true) (sym (from_here f list n i h e))
      (permits-preceded done (both (f i m.ty (capped (offset + m.at))) (left_from (n + 1) ms offset) (λ a b. Good (a ++ b))) s
      (permits-left (f i m.ty (capped (offset + m.at))) (left_from (n + 1) ms offset) (λ a b. Good (a ++ b)) s bad))

  left-end : (n : ℕ) (ms : List Member) (offset : ℕ) (done : List StartValue) → length list ≤ n → preceded done (left_from n ms offset) ≡ Good done
  unfolding all_started
  left-end n ms offset done h = ap (λ ws. preceded done (all_started ws ms offset)) (none_here f list n h) ∙ preceded-none done

  left-none : (n : ℕ) (offset : ℕ) (done : List StartValue) → preceded done (left_from n [] offset) ≡ Good done
  left-none n offset done = ap (preceded done) (all_started-none (map f (drop n list)) offset) ∙ preceded-none done

-- ---- as many as there are

module _ (f : Initializer → Way) (list : List Initializer) (at : Place) (offset : ℕ) (ms : List Member) where
  refused : length ms < length list → in_parts at (map f list) offset ms ≡ Bad (ask 21 at false)
  unfolding rule_21_has_parts
  refused h =
      let e : nat_le (length (map f list)) (length ms) ≡ false = simp length-map (grind (arith, nat_tests)) in
      ap (λ b. and_then (judge (ask 21 at b) ms) (λ ns. all_started (map f list) ns offset)) e

  taken : length list ≤ length ms → in_parts at (map f list) offset ms ≡ all_started (map f list) ms offset
  unfolding rule_21_has_parts
  taken h =
      let e : nat_le (length (map f list)) (length ms) ≡ true = simp length-map (grind (arith, nat_tests)) in
      ap (λ b. and_then (judge (ask 21 at b) ms) (λ ns. all_started (map f list) ns offset)) e

module _ (f : Initializer → Way) (list : List Initializer) (at : Place) (offset : ℕ) where
  pub array-refused : (size : ℕ) (t : Ty) (count : ℕ) → count < length list → in_parts at (map f list) offset (elements size t count) ≡ Bad (ask 21 at false)
  array-refused size t count h = refused f list at offset (elements size t count) (omega (arith, length-elements size t count))

  pub array-taken : (size : ℕ) (t : Ty) (count : ℕ) → length list ≤ count → in_parts at (map f list) offset (elements size t count) ≡ all_started (map f list) (elements size t count) offset
  array-taken size t count h = taken f list at offset (elements size t count) (omega (arith, length-elements size t count))

  pub aggr-refused : (rows : List Aggregate) (ts : List Ty) → length ts < length list → in_parts at (map f list) offset (members rows ts) ≡ Bad (ask 21 at false)
  aggr-refused rows ts h = refused f list at offset (members rows ts) (omega (arith, length-members rows ts))

  pub aggr-taken : (rows : List Aggregate) (ts : List Ty) → length list ≤ length ts → in_parts at (map f list) offset (members rows ts) ≡ all_started (map f list) (members rows ts) offset
  aggr-taken rows ts h = taken f list at offset (members rows ts) (omega (arith, length-members rows ts))

pub ruleset braces_are = (array-refused, array-taken, aggr-refused, aggr-taken)

-- ---- an array

element-at : (offset n size kept at : ℕ) → kept ≡ capped size → at ≡ capped (offset + capped (n * kept)) → at ≡ capped (offset + n * size)
element-at offset n size kept at is e =
    let m : capped (n * kept) ≡ capped (n * size) = ap (λ k. capped (n * k)) is ∙ capped-mul n size in
    e ∙ ap (λ k. capped (offset + k)) m ∙ omega arith

module _ (f : Initializer → Way) (list : List Initializer) (size : ℕ) (t : Ty) (count offset : ℕ) (whole : Outcome (List StartValue)) where
  pub element-good :
      (n : ℕ) (i : Initializer) (kept at : ℕ) (done vs : List StartValue)
      → n < length list → i ≡ get_or list n i → n < count → kept ≡ capped size → at ≡ capped (offset + capped (n * kept)) → f i t at ≡ Good vs
      → whole ≡ preceded done (left_from f list n (elements_from size t count n) offset)
      → whole ≡ preceded (done ++ vs) (left_from f list (n + 1) (elements_from size t count (n + 1)) offset)
  element-good n i kept at done vs h e within is stands good so_far =
      so_far
      ∙ ap (λ ms. preceded done (left_from f list n ms offset)) (elements-here size t count n within)
      ∙ left-here f list n i (part t (n * size)) (elements_from size t count (n + 1)) offset done vs h e
      (ap (f i t) (sym (element-at offset n size kept at is stands)) ∙ good)

  pub element-fault :
      (n : ℕ) (i : Initializer) (kept at : ℕ) (done : List StartValue) (s : TypeStop)
      → n < length list → i ≡ get_or list n i → n < count → kept ≡ capped size → at ≡ capped (offset + capped (n * kept)) → permits (f i t at) s ≡ true
      → whole ≡ preceded done (left_from f list n (elements_from size t count n) offset)
      → permits whole s ≡ true
  element-fault n i kept at done s h e within is stands bad so_far =
      ap (λ o. permits o s) (so_far ∙ ap (λ ms. preceded done (left_from f list n ms offset)) (elements-here size t count n within))
      ∙ left-fault f list n i (part t (n * size)) (elements_from size t count (n + 1)) offset done s h e
      (ap (λ k. permits (f i t k) s) (sym (element-at offset n size kept at is stands)) ∙ bad)

  pub elements-done : (n : ℕ) (done : List StartValue) → length list ≤ n → whole ≡ preceded done (left_from f list n (elements_from size t count n) offset) → whole ≡ Good done
  elements-done n done h so_far = so_far ∙ left-end f list n (elements_from size t count n) offset done h

  pub elements-past : (n : ℕ) (done : List StartValue) → count ≤ n → whole ≡ preceded done (left_from f list n (elements_from size t count n) offset) → whole ≡ Good done
  elements-past n done h so_far = so_far ∙ ap (λ ms. preceded done (left_from f list n ms offset)) (elements-end size t count n h) ∙ left-none f list n offset done

-- ---- an aggr

-- what is left of an aggr, the next member of which may stand at `front`, of which the code keeps `end`
pub record MembersLeft (f : Initializer → Way) (list : List Initializer) (rows : List Aggregate) (offset : ℕ) (whole : Outcome (List StartValue)) (n end : ℕ) (ts : List Ty) (done : List StartValue) : Type 0 where
  pub front : ℕ
  pub kept : end ≡ capped front
  pub so_far : whole ≡ preceded done (left_from f list n (members_from rows front ts) offset)

member-at : (offset front end align at stands : ℕ) → 1 ≤ align → end ≡ capped front → at ≡ capped (rounded end align) → stands ≡ capped (offset + at) → stands ≡ capped (offset + rounded front align)
member-at offset front end align at stands pos kept is e =
    let r : at ≡ capped (rounded front align) = is ∙ ap (λ k. capped (rounded k align)) kept ∙ capped-rounded front align pos in
    e ∙ ap (λ k. capped (offset + k)) r ∙ omega arith

member-end : (front end align size at next : ℕ) → 1 ≤ align → end ≡ capped front → at ≡ capped (rounded end align) → next ≡ capped (at + capped size) → next ≡ capped (rounded front align + size)
member-end front end align size at next pos kept is e =
    let r : at ≡ capped (rounded front align) = is ∙ ap (λ k. capped (rounded k align)) kept ∙ capped-rounded front align pos in
    e ∙ ap (λ k. capped (k + capped size)) r ∙ capped-add (rounded front align) size

module _ (f : Initializer → Way) (list : List Initializer) (rows : List Aggregate) (offset : ℕ) (whole : Outcome (List StartValue)) where
  abbrev pub Left : (n end : ℕ) → List Ty → List StartValue → Type 0
  Left n end ts done = MembersLeft f list rows offset whole n end ts done

  pub member-good :
      (n end : ℕ) (i : Initializer) (t : Ty) (ts others : List Ty) (room : Room) (at stands next : ℕ) (done vs : List StartValue)
      → n < length list → i ≡ get_or list n i → ts ≡ t ∷ others → Measured room (layout rows t) → 1 ≤ room.align
      → at ≡ capped (rounded end room.align) → stands ≡ capped (offset + at) → next ≡ capped (at + room.size) → f i t stands ≡ Good vs
      → Left n end ts done → Left (n + 1) next others (done ++ vs)
  member-good n end i t ts others room at stands next done vs h e is m pos at_is stands_is next_is good left =
      let l : Layout = layout rows t in
      let pos1 : 1 ≤ l.align = subst (λ a. 1 ≤ a) m.align pos in
      let at1 : at ≡ capped (rounded end l.align) = at_is ∙ ap (λ a. capped (rounded end a)) m.align in
      let next1 : next ≡ capped (at + capped l.size) = next_is ∙ ap (λ k. capped (at + k)) m.size in
      record {
        front = rounded left.front l.align + l.size;
        kept = member-end left.front end l.align l.size at next pos1 left.kept at1 next1;
        so_far =
            left.so_far
            ∙ ap (λ us. preceded done (left_from f list n (members_from rows left.front us) offset)) is
            ∙ left-here f list n i (part t (rounded left.front l.align)) (members_from rows (rounded left.front l.align + l.size) others) offset done vs h e
            (ap (f i t) (sym (member-at offset left.front end l.align at stands pos1 left.kept at1 stands_is)) ∙ good);
      }

  -- the same by the fields of what is left
  pub member-fault :
      (front n end : ℕ) (i : Initializer) (t : Ty) (ts others : List Ty) (room : Room) (at stands : ℕ) (done : List StartValue) (s : TypeStop)
      → n < length list → i ≡ get_or list n i → ts ≡ t ∷ others → Measured room (layout rows t) → 1 ≤ room.align
      → at ≡ capped (rounded end room.align) → stands ≡ capped (offset + at) → permits (f i t stands) s ≡ true
      → end ≡ capped front → whole ≡ preceded done (left_from f list n (members_from rows front ts) offset)
      → permits whole s ≡ true
  member-fault front n end i t ts others room at stands done s h e is m pos at_is stands_is bad kept so_far =
      let l : Layout = layout rows t in
      let pos1 : 1 ≤ l.align = subst (λ a. 1 ≤ a) m.align pos in
      let at1 : at ≡ capped (rounded end l.align) = at_is ∙ ap (λ a. capped (rounded end a)) m.align in
      ap (λ o. permits o s) (so_far ∙ ap (λ us. preceded done (left_from f list n (members_from rows front us) offset)) is)
      ∙ left-fault f list n i (part t (rounded front l.align)) (members_from rows (rounded front l.align + l.size) others) offset done s h e
      (ap (λ k. permits (f i t k) s) (sym (member-at offset front end l.align at stands pos1 kept at1 stands_is)) ∙ bad)

  pub members-done :
      (front n : ℕ) (ts : List Ty) (done : List StartValue) → length list ≤ n
      → whole ≡ preceded done (left_from f list n (members_from rows front ts) offset) → whole ≡ Good done
  members-done front n ts done h so_far = so_far ∙ left-end f list n (members_from rows front ts) offset done h

  pub members-past :
      (front n : ℕ) (ts : List Ty) (done : List StartValue) → length ts ≡ 0
      → whole ≡ preceded done (left_from f list n (members_from rows front ts) offset) → whole ≡ Good done
  members-past front n [] done h so_far = so_far ∙ left-none f list n offset done
  members-past front n (t ∷ ts) done h so_far = absurd (omega arith)

pub ruleset elements_are = (elements-begin, element-good, element-fault, elements-done, elements-past)

pub ruleset members_are = (members-begin, member-good, member-fault, members-done, members-past)
