-- What one block more or less makes of a tree.
use Rattle.std.proofs.Common.{◌≡◌, ℕ, suc, ◌+◌, ◌<◌, ◌≤◌, inl, inr, Bool, true, false, cond, not, ltb, max, ◌∷◌, ◌++◌, filter, Some, refl, sym, ap, ◌∙◌, arith}
use Rattle.std.proofs.lemmas.Bool.Decides.{nat_tests}
use Rattle.std.proofs.lemmas.List.{append-nil}
use Rattle.std.proofs.lemmas.List.Elements.{filter-append}
use Rattle.al_event.specs.declared.act.Block.{Block}
use Rattle.al_event.specs.Store.{Span, begins_at, with_span}
use Rattle.al_run_tree.specs.Tree.{Tree, Leaf, Branch, is_leaf, blocks, height, IsBalanced, same, uses}
use Rattle.al_run_tree.specs.Balance.{balanced, inserted, Taken, first_out, merged, taken_out}
use Rattle.al_run_tree.specs.Order.{Rises, found}
use Rattle.al_run_tree.proofs.Turns.{blocks-balanced, uses-balanced, level-balanced}
use Rattle.al_run_tree.proofs.Places.{rises_left, rises_right, with-left, with-right, apart, filter-apart}

-- ---- one block more

pub blocks-inserted : (t : Tree) (new : ℕ) (e : Span) (from end : ℕ) → Rises from (blocks t) end → blocks (inserted new e t) ≡ with_span e (blocks t)
unfolding inserted
blocks-inserted Leaf new e from end h = refl
blocks-inserted (Branch l j b r) new e from end h =
    on (ltb e.at b.at) refl (blocks-inserted l new e from b.at (rises_left (blocks l) b (blocks r) from end h)) (blocks-inserted r new e (suc b.at) end (rises_right (blocks l) b (blocks r) from end h))
  where
    on : (t : Bool) → ltb e.at b.at ≡ t → blocks (inserted new e l) ≡ with_span e (blocks l) → blocks (inserted new e r) ≡ with_span e (blocks r) → blocks (cond t (balanced (inserted new e l) j b r) (balanced l j b (inserted new e r))) ≡ with_span e (blocks l ++ b ∷ blocks r)
    on true is left right =
        let lt : e.at < b.at = grind (arith, nat_tests) in
        blocks-balanced (inserted new e l) j b r ∙ ap (λ xs. xs ++ b ∷ blocks r) left ∙ sym (with-left (blocks l) b (blocks r) e lt)
    on false is left right =
        let ge : b.at ≤ e.at = grind (arith, nat_tests) in
        blocks-balanced l j b (inserted new e r) ∙ ap (λ ys. blocks l ++ b ∷ ys) right ∙ sym (with-right (blocks l) b (blocks r) e from ge (rises_left (blocks l) b (blocks r) from end h))

pub uses-inserted : (q : ℕ) (t : Tree) (new : ℕ) (e : Span) → uses q (inserted new e t) ≡ same q new + uses q t
unfolding inserted
uses-inserted q Leaf new e = omega arith
uses-inserted q (Branch l j b r) new e = on (ltb e.at b.at) (uses-inserted q l new e) (uses-inserted q r new e)
  where
    on : (t : Bool) → uses q (inserted new e l) ≡ same q new + uses q l → uses q (inserted new e r) ≡ same q new + uses q r → uses q (cond t (balanced (inserted new e l) j b r) (balanced l j b (inserted new e r))) ≡ same q new + (same q j + uses q l + uses q r)
    on true left right = omega (arith, uses-balanced q (inserted new e l) j b r)
    on false left right = omega (arith, uses-balanced q l j b (inserted new e r))

-- balanced, and as high as another tree or one level higher
pub record IsGrown (h : ℕ) (t : Tree) : Type 0 where
  pub balanced : IsBalanced t
  pub least : h ≤ height t
  pub most : height t ≤ suc h

pub grown-inserted : (t : Tree) (new : ℕ) (e : Span) → IsBalanced t → IsGrown (height t) (inserted new e t)
unfolding inserted
grown-inserted Leaf new e h = record { balanced = (omega arith, omega arith, tt, tt); least = omega arith; most = omega arith }
grown-inserted (Branch l j b r) new e h = on (ltb e.at b.at) (grown-inserted l new e h.2) (grown-inserted r new e h.3)
  where
    on : (t : Bool) → IsGrown (height l) (inserted new e l) → IsGrown (height r) (inserted new e r) → IsGrown (suc (max (height l) (height r))) (cond t (balanced (inserted new e l) j b r) (balanced l j b (inserted new e r)))
    on true left right =
        let s = level-balanced (inserted new e l) j b r left.balanced h.3 (omega (arith, h.0, h.1, left.most, left.least)) (omega (arith, h.0, h.1, left.most, left.least)) in
        record { balanced = s.balanced; least = omega (arith, h.0, h.1, left.most, left.least, s.least, s.even); most = omega (arith, h.0, h.1, left.most, left.least, s.most) }
    on false left right =
        let s = level-balanced l j b (inserted new e r) h.2 right.balanced (omega (arith, h.0, h.1, right.most, right.least)) (omega (arith, h.0, h.1, right.most, right.least)) in
        record { balanced = s.balanced; least = omega (arith, h.0, h.1, right.most, right.least, s.least, s.even); most = omega (arith, h.0, h.1, right.most, right.least, s.most) }

-- ---- one block less

pub blocks-first_out : (t : Tree) → is_leaf t ≡ false → (first_out t).block ∷ blocks (first_out t).rest ≡ blocks t
unfolding first_out
blocks-first_out Leaf some = absurd (cc)
blocks-first_out (Branch l j b r) some = on l (blocks-first_out l)
  where
    on : (l : Tree) → (is_leaf l ≡ false → (first_out l).block ∷ blocks (first_out l).rest ≡ blocks l) → (first_out (Branch l j b r)).block ∷ blocks (first_out (Branch l j b r)).rest ≡ blocks l ++ b ∷ blocks r
    on Leaf rec = refl
    on (Branch x k d y) rec =
        let out = first_out (Branch x k d y) in
        ap (λ zs. out.block ∷ zs) (blocks-balanced out.rest j b r) ∙ ap (λ zs. zs ++ b ∷ blocks r) (rec refl)

pub uses-first_out : (q : ℕ) (t : Tree) → is_leaf t ≡ false → uses q t ≡ same q (first_out t).index + uses q (first_out t).rest
unfolding first_out
uses-first_out q Leaf some = absurd (cc)
uses-first_out q (Branch l j b r) some = on l (uses-first_out q l)
  where
    on : (l : Tree) → (is_leaf l ≡ false → uses q l ≡ same q (first_out l).index + uses q (first_out l).rest) → same q j + uses q l + uses q r ≡ same q (first_out (Branch l j b r)).index + uses q (first_out (Branch l j b r)).rest
    on Leaf rec = omega arith
    on (Branch x k d y) rec =
        let out = first_out (Branch x k d y) in
        omega (arith, uses-balanced q out.rest j b r, rec refl)

-- balanced, and as high as another tree or one level lower
pub record IsShrunk (h : ℕ) (t : Tree) : Type 0 where
  pub balanced : IsBalanced t
  pub least : h ≤ suc (height t)
  pub most : height t ≤ h

flat : (t : Tree) → is_leaf t ≡ true → height t ≡ 0
flat Leaf e = refl
flat (Branch l j b r) e = absurd (cc)

pub shrunk-first_out : (t : Tree) → IsBalanced t → IsShrunk (height t) (first_out t).rest
unfolding first_out
shrunk-first_out Leaf h = record { balanced = tt; least = omega arith; most = omega arith }
shrunk-first_out (Branch l j b r) h = on (is_leaf l) refl (shrunk-first_out l h.2)
  where
    on : (t : Bool) → is_leaf l ≡ t → IsShrunk (height l) (first_out l).rest → IsShrunk (suc (max (height l) (height r))) (cond {A = Taken} t (record { index = j; block = b; rest = r }) (record { index = (first_out l).index; block = (first_out l).block; rest = balanced (first_out l).rest j b r })).rest
    on true e rec = let z = flat l e in record { balanced = h.3; least = omega (arith, h.0, h.1); most = omega (arith, h.0, h.1) }
    on false e rec =
        let s = level-balanced (first_out l).rest j b r rec.balanced h.3 (omega (arith, h.0, h.1, rec.most, rec.least)) (omega (arith, h.0, h.1, rec.most, rec.least)) in
        record { balanced = s.balanced; least = omega (arith, h.0, h.1, rec.most, rec.least, s.least, s.even); most = omega (arith, h.0, h.1, rec.most, rec.least, s.most) }

blocks-merged : (l r : Tree) → blocks (merged l r) ≡ blocks l ++ blocks r
unfolding merged
blocks-merged l Leaf = sym (append-nil (blocks l))
blocks-merged l (Branch x k d y) =
    let out = first_out (Branch x k d y) in
    blocks-balanced l out.index out.block out.rest ∙ ap (λ zs. blocks l ++ zs) (blocks-first_out (Branch x k d y) refl)

uses-merged : (q : ℕ) (l r : Tree) → uses q (merged l r) ≡ uses q l + uses q r
unfolding merged
uses-merged q l Leaf = omega arith
uses-merged q l (Branch x k d y) =
    let out = first_out (Branch x k d y) in
    omega (arith, uses-balanced q l out.index out.block out.rest, uses-first_out q (Branch x k d y) refl)

shrunk-merged : (l r : Tree) → IsBalanced l → IsBalanced r → height l ≤ suc (height r) → height r ≤ suc (height l) → IsShrunk (suc (max (height l) (height r))) (merged l r)
unfolding merged
shrunk-merged l r hl hr le ge = on (is_leaf r) refl (shrunk-first_out r hr)
  where
    on : (t : Bool) → is_leaf r ≡ t → IsShrunk (height r) (first_out r).rest → IsShrunk (suc (max (height l) (height r))) (cond t l (balanced l (first_out r).index (first_out r).block (first_out r).rest))
    on true e rec = let z = flat r e in record { balanced = hl; least = omega arith; most = omega arith }
    on false e rec =
        let s = level-balanced l (first_out r).index (first_out r).block (first_out r).rest hl rec.balanced (omega (arith, rec.most, rec.least)) (omega (arith, rec.most, rec.least)) in
        record { balanced = s.balanced; least = omega (arith, rec.most, rec.least, s.least, s.even); most = omega (arith, rec.most, rec.least, s.most) }

-- the block at a place
pub block-taken_out : (t : Tree) (at : ℕ) (b : Span) → found at t ≡ Some b → (taken_out at t).block ≡ b
unfolding taken_out found
block-taken_out Leaf at b is = absurd (cc)
block-taken_out (Branch l j d r) at b is = on (ltb at d.at) (ltb d.at at) is (block-taken_out l at b) (block-taken_out r at b)
  where
    on : (s t : Bool) → cond s (found at l) (cond t (found at r) (Some d)) ≡ Some b → (found at l ≡ Some b → (taken_out at l).block ≡ b) → (found at r ≡ Some b → (taken_out at r).block ≡ b) → (cond {A = Taken} s (record { index = (taken_out at l).index; block = (taken_out at l).block; rest = balanced (taken_out at l).rest j d r }) (cond {A = Taken} t (record { index = (taken_out at r).index; block = (taken_out at r).block; rest = balanced l j d (taken_out at r).rest }) (record { index = j; block = d; rest = merged l r }))).block ≡ b
    on true t is left right = left is
    on false true is left right = right is
    on false false is left right = cc

pub blocks-taken_out : (t : Tree) (at : ℕ) (kind : Block) (b : Span) (from end : ℕ) → Rises from (blocks t) end → found at t ≡ Some b → begins_at at kind b ≡ true → blocks (taken_out at t).rest ≡ filter (λ b. not (begins_at at kind b)) (blocks t)
unfolding taken_out found
blocks-taken_out Leaf at kind b from end h is begins = absurd (cc)
blocks-taken_out (Branch l j d r) at kind b from end h is begins =
    on (ltb at d.at) (ltb d.at at) refl refl is (λ is. blocks-taken_out l at kind b from d.at left is begins) (λ is. blocks-taken_out r at kind b (suc d.at) end right is begins)
    ∙ sym (filter-append (λ b. not (begins_at at kind b)) (blocks l) (d ∷ blocks r))
  where
    left : Rises from (blocks l) d.at
    left = rises_left (blocks l) d (blocks r) from end h

    right : Rises (suc d.at) (blocks r) end
    right = rises_right (blocks l) d (blocks r) from end h

    on : (s t : Bool) → ltb at d.at ≡ s → ltb d.at at ≡ t → cond s (found at l) (cond t (found at r) (Some d)) ≡ Some b → (found at l ≡ Some b → blocks (taken_out at l).rest ≡ filter (λ b. not (begins_at at kind b)) (blocks l)) → (found at r ≡ Some b → blocks (taken_out at r).rest ≡ filter (λ b. not (begins_at at kind b)) (blocks r)) → blocks (cond {A = Taken} s (record { index = (taken_out at l).index; block = (taken_out at l).block; rest = balanced (taken_out at l).rest j d r }) (cond {A = Taken} t (record { index = (taken_out at r).index; block = (taken_out at r).block; rest = balanced l j d (taken_out at r).rest }) (record { index = j; block = d; rest = merged l r }))).rest ≡ filter (λ b. not (begins_at at kind b)) (blocks l) ++ filter (λ b. not (begins_at at kind b)) (d ∷ blocks r)
    on true t e f is recl recr =
        let lt : at < d.at = grind (arith, nat_tests) in
        let keeps : begins_at at kind d ≡ false = apart d at kind (inr lt) in
        let others = filter-apart (blocks r) (suc d.at) end at kind right (inr (omega arith)) in
        blocks-balanced (taken_out at l).rest j d r ∙ ap (λ xs. xs ++ d ∷ blocks r) (recl is) ∙ rw (keeps, others) refl
    on false true e f is recl recr =
        let lt : d.at < at = grind (arith, nat_tests) in
        let keeps : begins_at at kind d ≡ false = apart d at kind (inl lt) in
        let others = filter-apart (blocks l) from d.at at kind left (inl (omega arith)) in
        blocks-balanced l j d (taken_out at r).rest ∙ ap (λ ys. blocks l ++ d ∷ ys) (recr is) ∙ rw (keeps, others) refl
    on false false e f is recl recr =
        let here : d.at ≡ at = grind (arith, nat_tests) in
        let same : d ≡ b = cc in
        let goes : begins_at at kind d ≡ true = rw same begins in
        let before = filter-apart (blocks l) from d.at at kind left (inl (omega arith)) in
        let behind = filter-apart (blocks r) (suc d.at) end at kind right (inr (omega arith)) in
        blocks-merged l r ∙ rw (goes, before, behind) refl

pub uses-taken_out : (q : ℕ) (t : Tree) (at : ℕ) (b : Span) → found at t ≡ Some b → uses q t ≡ same q (taken_out at t).index + uses q (taken_out at t).rest
unfolding taken_out found
uses-taken_out q Leaf at b is = absurd (cc)
uses-taken_out q (Branch l j d r) at b is = on (ltb at d.at) (ltb d.at at) is (uses-taken_out q l at b) (uses-taken_out q r at b)
  where
    on : (s t : Bool) → cond s (found at l) (cond t (found at r) (Some d)) ≡ Some b → (found at l ≡ Some b → uses q l ≡ same q (taken_out at l).index + uses q (taken_out at l).rest) → (found at r ≡ Some b → uses q r ≡ same q (taken_out at r).index + uses q (taken_out at r).rest) → same q j + uses q l + uses q r ≡ same q (cond {A = Taken} s (record { index = (taken_out at l).index; block = (taken_out at l).block; rest = balanced (taken_out at l).rest j d r }) (cond {A = Taken} t (record { index = (taken_out at r).index; block = (taken_out at r).block; rest = balanced l j d (taken_out at r).rest }) (record { index = j; block = d; rest = merged l r }))).index + uses q (cond {A = Taken} s (record { index = (taken_out at l).index; block = (taken_out at l).block; rest = balanced (taken_out at l).rest j d r }) (cond {A = Taken} t (record { index = (taken_out at r).index; block = (taken_out at r).block; rest = balanced l j d (taken_out at r).rest }) (record { index = j; block = d; rest = merged l r }))).rest
    on true t is left right = omega (arith, left is, uses-balanced q (taken_out at l).rest j d r)
    on false true is left right = omega (arith, right is, uses-balanced q l j d (taken_out at r).rest)
    on false false is left right = omega (arith, uses-merged q l r)

pub shrunk-taken_out : (t : Tree) (at : ℕ) → IsBalanced t → IsShrunk (height t) (taken_out at t).rest
unfolding taken_out
shrunk-taken_out Leaf at h = record { balanced = tt; least = omega arith; most = omega arith }
shrunk-taken_out (Branch l j d r) at h = on (ltb at d.at) (ltb d.at at) (shrunk-taken_out l at h.2) (shrunk-taken_out r at h.3)
  where
    on : (s t : Bool) → IsShrunk (height l) (taken_out at l).rest → IsShrunk (height r) (taken_out at r).rest → IsShrunk (suc (max (height l) (height r))) (cond {A = Taken} s (record { index = (taken_out at l).index; block = (taken_out at l).block; rest = balanced (taken_out at l).rest j d r }) (cond {A = Taken} t (record { index = (taken_out at r).index; block = (taken_out at r).block; rest = balanced l j d (taken_out at r).rest }) (record { index = j; block = d; rest = merged l r }))).rest
    on true t left right =
        let s = level-balanced (taken_out at l).rest j d r left.balanced h.3 (omega (arith, h.0, h.1, left.most, left.least)) (omega (arith, h.0, h.1, left.most, left.least)) in
        record { balanced = s.balanced; least = omega (arith, h.0, h.1, left.most, left.least, s.least, s.even); most = omega (arith, h.0, h.1, left.most, left.least, s.most) }
    on false true left right =
        let s = level-balanced l j d (taken_out at r).rest h.2 right.balanced (omega (arith, h.0, h.1, right.most, right.least)) (omega (arith, h.0, h.1, right.most, right.least)) in
        record { balanced = s.balanced; least = omega (arith, h.0, h.1, right.most, right.least, s.least, s.even); most = omega (arith, h.0, h.1, right.most, right.least, s.most) }
    on false false left right = shrunk-merged l r h.2 h.3 h.0 h.1
