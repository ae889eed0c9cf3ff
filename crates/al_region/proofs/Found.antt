-- What is found in a tree of blocks that lie one after another.
use Rattle.std.proofs.Common.{◌≡◌, ℕ, suc, ◌+◌, ◌^◌, ◌<◌, ◌≤◌, ◌⊎◌, inl, inr, Bool, true, false, cond, ◌||◌, ltb, leb, List, [], ◌∷◌, ◌++◌, find, Option, Some, None, option_map, unwrap_or, if◌then◌else◌, refl, sym, ap, subst, ◌∙◌, arith}
use Rattle.std.specs.List.{list_any}
use Rattle.std.specs.Option.{option_or}
use Rattle.std.proofs.lemmas.Bool.Decides.{nat_tests}
use Rattle.std.proofs.lemmas.List.Folds.{list_any-append, find-append}
use Rattle.al_event.specs.declared.act.Block.{Block}
use Rattle.al_event.specs.Store.{Span, lies_in, begins_at, same_kind, next_span}
use Rattle.al_run_tree.specs.Tree.{Tree, Leaf, Branch, blocks}
use Rattle.al_run_tree.specs.declared.node.Node.{Node}
use Rattle.al_run_tree.specs.Order.{Rises, found, last_to, first_from}
use Rattle.al_run_tree.specs.Table.{Holds}
use Rattle.al_run_tree.proofs.Places.{rises_le, rises_left, rises_right, apart}
use Rattle.al_region.specs.Region.{IsLaid}
use Rattle.al_region.proofs.Laid.{laid_rises}

-- ---- their places rise

rises_from : (bs : List Span) (from to end : ℕ) → from ≤ to → Rises to bs end → Rises from bs end
rises_from [] from to end le h = omega (arith, h)
rises_from (b ∷ bs) from to end le h = (omega (arith, h.0), h.1)

pub laid-rises : (bs : List Span) (from end : ℕ) → IsLaid from bs end → Rises from bs end
laid-rises [] from end h = h
laid-rises (b ∷ bs) from end h = (h.0, rises_from bs (suc b.at) (b.at + b.size) end (omega (arith, h.2)) (laid-rises bs (b.at + b.size) end h.3))

-- the two sides of a block
pub laid_left : (xs : List Span) (b : Span) (ys : List Span) (from end : ℕ) → IsLaid from (xs ++ b ∷ ys) end → IsLaid from xs b.at
laid_left [] b ys from end h = h.0
laid_left (x ∷ xs) b ys from end h = (h.0, h.1, h.2, laid_left xs b ys (x.at + x.size) end h.3)

pub laid_right : (xs : List Span) (b : Span) (ys : List Span) (from end : ℕ) → IsLaid from (xs ++ b ∷ ys) end → (0 < b.size) × IsLaid (b.at + b.size) ys end
laid_right [] b ys from end h = (h.2, h.3)
laid_right (x ∷ xs) b ys from end h = laid_right xs b ys (x.at + x.size) end h.3

-- ---- the block that begins at a place

none_begins : (bs : List Span) (from end at : ℕ) (kind : Block) → Rises from bs end → (end ≤ at) ⊎ (at < from) → list_any (begins_at at kind) bs ≡ false
none_begins [] from end at kind h out = refl
none_begins (b ∷ bs) from end at kind h out =
    let t : begins_at at kind b ≡ false = apart b at kind (elim out [ inl le ↦ inl (omega (arith, rises_le bs (suc b.at) end h.1)) | inr lt ↦ inr (omega (arith, h.0)) ]) in
    let rest : (end ≤ at) ⊎ (at < suc b.at) = elim out [ inl le ↦ inl le | inr lt ↦ inr (omega (arith, h.0)) ] in
    rw (t, none_begins bs (suc b.at) end at kind h.1 rest) refl

or_false : (a : Bool) → (a || false) ≡ a
or_false true = refl
or_false false = refl

abbrev pub kind_is : Block → Option Span → Bool
kind_is kind o = unwrap_or (option_map (λ (b : Span). same_kind kind b.kind) o) false

pub begins-found : (s : Tree) (from end at : ℕ) (kind : Block) → Rises from (blocks s) end → list_any (begins_at at kind) (blocks s) ≡ kind_is kind (found at s)
unfolding found
begins-found Leaf from end at kind h = refl
begins-found (Branch l j d r) from end at kind h =
    list_any-append (begins_at at kind) (blocks l) (d ∷ blocks r) ∙ on (ltb at d.at) (ltb d.at at) refl refl (begins-found l from d.at at kind left) (begins-found r (suc d.at) end at kind right)
  where
    left : Rises from (blocks l) d.at
    left = rises_left (blocks l) d (blocks r) from end h

    right : Rises (suc d.at) (blocks r) end
    right = rises_right (blocks l) d (blocks r) from end h

    on : (s t : Bool) → ltb at d.at ≡ s → ltb d.at at ≡ t → list_any (begins_at at kind) (blocks l) ≡ kind_is kind (found at l) → list_any (begins_at at kind) (blocks r) ≡ kind_is kind (found at r) → (list_any (begins_at at kind) (blocks l) || (begins_at at kind d || list_any (begins_at at kind) (blocks r))) ≡ kind_is kind (cond s (found at l) (cond t (found at r) (Some d)))
    on true t e f recl recr =
        let lt : at < d.at = grind (arith, nat_tests) in
        let here = apart d at kind (inr lt) in
        let others = none_begins (blocks r) (suc d.at) end at kind right (inr (omega arith)) in
        rw (here, others) (or_false (list_any (begins_at at kind) (blocks l)) ∙ recl)
    on false true e f recl recr =
        let lt : d.at < at = grind (arith, nat_tests) in
        let here = apart d at kind (inl lt) in
        let others = none_begins (blocks l) from d.at at kind left (inl (omega arith)) in
        rw (here, others) recr
    on false false e f recl recr =
        let same : d.at ≡ at = grind (arith, nat_tests) in
        let before = none_begins (blocks l) from d.at at kind left (inl (omega arith)) in
        let behind = none_begins (blocks r) (suc d.at) end at kind right (inr (omega arith)) in
        let here : begins_at at kind d ≡ same_kind kind d.kind = grind (arith, nat_tests) in
        rw (before, behind, here) (or_false (same_kind kind d.kind))

-- where one begins, the tree has it
pub found-some : (s : Tree) (from end at : ℕ) (kind : Block) → Rises from (blocks s) end → list_any (begins_at at kind) (blocks s) ≡ true → (b : Span) × (found at s ≡ Some b)
found-some s from end at kind h there = on (found at s) refl (sym (begins-found s from end at kind h) ∙ there)
  where
    on : (o : Option Span) → found at s ≡ o → kind_is kind o ≡ true → (b : Span) × (found at s ≡ Some b)
    on None e h = absurd (cc)
    on (Some b) e h = (b, e)

found_place : (s : Tree) (at : ℕ) (b : Span) → found at s ≡ Some b → b.at ≡ at
unfolding found
found_place Leaf at b is = absurd (cc)
found_place (Branch l j d r) at b is = on (ltb at d.at) (ltb d.at at) refl refl is (found_place l at b) (found_place r at b)
  where
    on : (s t : Bool) → ltb at d.at ≡ s → ltb d.at at ≡ t → cond s (found at l) (cond t (found at r) (Some d)) ≡ Some b → (found at l ≡ Some b → b.at ≡ at) → (found at r ≡ Some b → b.at ≡ at) → b.at ≡ at
    on true t e f is recl recr = recl is
    on false true e f is recl recr = recr is
    on false false e f is recl recr =
        let same : d ≡ b = cc in
        let place : d.at ≡ at = grind (arith, nat_tests) in
        ap (λ (b : Span). b.at) (sym same) ∙ place

pub found-begins : (s : Tree) (from end at : ℕ) (kind : Block) (b : Span) → Rises from (blocks s) end → list_any (begins_at at kind) (blocks s) ≡ true → found at s ≡ Some b → begins_at at kind b ≡ true
found-begins s from end at kind b h there is =
    let kinds : same_kind kind b.kind ≡ true = ap (kind_is kind) (sym is) ∙ sym (begins-found s from end at kind h) ∙ there in
    let place = found_place s at b is in
    grind (arith, nat_tests)

-- ---- the first block from an address on

none_from : (bs : List Span) (from end at : ℕ) → Rises from bs end → end ≤ at → find (λ b. leb at b.at) bs ≡ None
none_from [] from end at h le = refl
none_from (b ∷ bs) from end at h le =
    let t : leb at b.at ≡ false = grind (arith, nat_tests, rises_le bs (suc b.at) end h.1) in
    rw t (none_from bs (suc b.at) end at h.1 le)

pub next-first : (s : Tree) (from end at : ℕ) → Rises from (blocks s) end → next_span (blocks s) at ≡ first_from at s
unfolding first_from
next-first Leaf from end at h = refl
next-first (Branch l j d r) from end at h =
    find-append (λ b. leb at b.at) (blocks l) (d ∷ blocks r) ∙ on (ltb d.at at) refl (next-first l from d.at at left) (next-first r (suc d.at) end at right)
  where
    left : Rises from (blocks l) d.at
    left = rises_left (blocks l) d (blocks r) from end h

    right : Rises (suc d.at) (blocks r) end
    right = rises_right (blocks l) d (blocks r) from end h

    on : (t : Bool) → ltb d.at at ≡ t → next_span (blocks l) at ≡ first_from at l → next_span (blocks r) at ≡ first_from at r → option_or (find (λ b. leb at b.at) (blocks l)) (cond (leb at d.at) (Some d) (find (λ b. leb at b.at) (blocks r))) ≡ cond t (first_from at r) (option_or (first_from at l) (Some d))
    on true e recl recr =
        let here : leb at d.at ≡ false = grind (arith, nat_tests) in
        let lt : d.at ≤ at = grind (arith, nat_tests) in
        rw (none_from (blocks l) from d.at at left lt, here) recr
    on false e recl recr =
        let here : leb at d.at ≡ true = grind (arith, nat_tests) in
        rw here (ap (λ o. option_or o (Some d)) recl)

-- ---- the block in which bytes lie

-- the bytes from an address on, where they lie in this block
abbrev pub held_by : ℕ → ℕ → Option Span → Option Span
held_by at n None = None
held_by at n (Some b) = if leb (at + n) (b.at + b.size) then Some b else None

none_above : (bs : List Span) (from end at n : ℕ) → IsLaid from bs end → at < from → find (lies_in at n) bs ≡ None
none_above [] from end at n h lt = refl
none_above (b ∷ bs) from end at n h lt =
    let t : lies_in at n b ≡ false = grind (arith, nat_tests, h.0) in
    rw t (none_above bs (b.at + b.size) end at n h.3 (omega (arith, h.0)))

none_below : (bs : List Span) (from end at n : ℕ) → IsLaid from bs end → end ≤ at → 0 < n → find (lies_in at n) bs ≡ None
none_below [] from end at n h le some = refl
none_below (b ∷ bs) from end at n h le some =
    let within = laid_rises bs (b.at + b.size) end h.3 in
    let t : lies_in at n b ≡ false = grind (arith, nat_tests) in
    rw t (none_below bs (b.at + b.size) end at n h.3 le some)

last_place : (s : Tree) (from end at : ℕ) (c : Span) → IsLaid from (blocks s) end → last_to at s ≡ Some c → (from ≤ at) × Unit {0}
unfolding last_to
last_place Leaf from end at c h is = absurd (cc)
last_place (Branch l j d r) from end at c h is = on (ltb at d.at) refl is (last_place l from d.at at c left)
  where
    left : IsLaid from (blocks l) d.at
    left = laid_left (blocks l) d (blocks r) from end h

    on : (t : Bool) → ltb at d.at ≡ t → cond t (last_to at l) (option_or (last_to at r) (Some d)) ≡ Some c → (last_to at l ≡ Some c → (from ≤ at) × Unit {0}) → (from ≤ at) × Unit {0}
    on true e is rec = rec is
    on false e is rec =
        let le : d.at ≤ at = grind (arith, nat_tests) in
        (omega (arith, laid_rises (blocks l) from d.at left), tt)

pub hit-last : (s : Tree) (from end at n : ℕ) → IsLaid from (blocks s) end → 0 < n → find (lies_in at n) (blocks s) ≡ held_by at n (last_to at s)
unfolding last_to
hit-last Leaf from end at n h some = refl
hit-last (Branch l j d r) from end at n h some =
    find-append (lies_in at n) (blocks l) (d ∷ blocks r) ∙ on (ltb at d.at) refl (hit-last l from d.at at n left some) (hit-last r (d.at + d.size) end at n right.1 some) (last_place r (d.at + d.size) end at)
  where
    left : IsLaid from (blocks l) d.at
    left = laid_left (blocks l) d (blocks r) from end h

    right : (0 < d.size) × IsLaid (d.at + d.size) (blocks r) end
    right = laid_right (blocks l) d (blocks r) from end h

    on : (t : Bool) → ltb at d.at ≡ t → find (lies_in at n) (blocks l) ≡ held_by at n (last_to at l) → find (lies_in at n) (blocks r) ≡ held_by at n (last_to at r) → ((c : Span) → IsLaid (d.at + d.size) (blocks r) end → last_to at r ≡ Some c → ((d.at + d.size) ≤ at) × Unit {0}) → option_or (find (lies_in at n) (blocks l)) (cond (lies_in at n d) (Some d) (find (lies_in at n) (blocks r))) ≡ held_by at n (cond t (last_to at l) (option_or (last_to at r) (Some d)))
    on true e recl recr place =
        let lt : at < d.at = grind (arith, nat_tests) in
        let here : lies_in at n d ≡ false = grind (arith, nat_tests) in
        rw (here, none_above (blocks r) (d.at + d.size) end at n right.1 (omega arith), recl) (last_none (held_by at n (last_to at l)))
      where
        last_none : (o : Option Span) → option_or o None ≡ o
        last_none None = refl
        last_none (Some x) = refl
    on false e recl recr place =
        let le : d.at ≤ at = grind (arith, nat_tests) in
        rw (none_below (blocks l) from d.at at n left le some) (behind (last_to at r) refl recr)
      where
        behind : (o : Option Span) → last_to at r ≡ o → find (lies_in at n) (blocks r) ≡ held_by at n o → cond (lies_in at n d) (Some d) (find (lies_in at n) (blocks r)) ≡ held_by at n (option_or o (Some d))
        behind (Some c) is rec =
            let past = (place c right.1 is).0 in
            let here : lies_in at n d ≡ false = grind (arith, nat_tests) in
            rw here rec
        behind None is rec =
            let from_here : leb d.at at ≡ true = grind (arith, nat_tests) in
            rw (rec, from_here) refl

-- each block of a tree that a table holds ends below 2^31
pub last_low : (t : List Node) (s : Tree) (at : ℕ) (c : Span) → Holds t s → last_to at s ≡ Some c → c.at + c.size < 2 ^ 31
unfolding last_to
last_low t Leaf at c h is = absurd (cc)
last_low t (Branch l j d r) at c h is = on (ltb at d.at) is (last_low t l at c h.3) (last_low t r at c h.4)
  where
    on : (w : Bool) → cond w (last_to at l) (option_or (last_to at r) (Some d)) ≡ Some c → (last_to at l ≡ Some c → c.at + c.size < 2 ^ 31) → (last_to at r ≡ Some c → c.at + c.size < 2 ^ 31) → c.at + c.size < 2 ^ 31
    on true is left right = left is
    on false is left right = behind (last_to at r) is right
      where
        behind : (o : Option Span) → option_or o (Some d) ≡ Some c → (o ≡ Some c → c.at + c.size < 2 ^ 31) → c.at + c.size < 2 ^ 31
        behind (Some x) is rec = rec is
        behind None is rec = let same : d ≡ c = cc in subst (λ (b : Span). b.at + b.size < 2 ^ 31) same h.2
