-- Turns keep the blocks, their order and the indexes of nodes, and mend the balance.
use Rattle.std.proofs.Common.{◌≡◌, ℕ, suc, ◌+◌, ◌-◌, ◌<◌, ◌≤◌, Bool, true, false, cond, ltb, leb, max, ◌∷◌, ◌++◌, append_assoc, refl, arith}
use Rattle.std.proofs.lemmas.Bool.Decides.{nat_tests}
use Rattle.al_event.specs.Store.{Span}
use Rattle.al_run_tree.specs.Tree.{Tree, Leaf, Branch, blocks, height, IsBalanced, same, uses}
use Rattle.al_run_tree.specs.Balance.{twice_right, turned_right, twice_left, turned_left, balanced}

-- ---- the blocks and their order

blocks-twice_right : (ll : Tree) (i : ℕ) (c : Span) (lr : Tree) (j : ℕ) (b : Span) (r : Tree) → blocks (twice_right ll i c lr j b r) ≡ (blocks ll ++ c ∷ blocks lr) ++ b ∷ blocks r
unfolding twice_right
blocks-twice_right ll i c Leaf j b r = refl
blocks-twice_right ll i c (Branch x k d y) j b r = simp append_assoc

blocks-turned_right : (l : Tree) (j : ℕ) (b : Span) (r : Tree) → blocks (turned_right l j b r) ≡ blocks l ++ b ∷ blocks r
unfolding turned_right
blocks-turned_right Leaf j b r = refl
blocks-turned_right (Branch ll i c lr) j b r = on (leb (height lr) (height ll))
  where
    on : (t : Bool) → blocks (cond t (Branch ll i c (Branch lr j b r)) (twice_right ll i c lr j b r)) ≡ (blocks ll ++ c ∷ blocks lr) ++ b ∷ blocks r
    on true = simp append_assoc
    on false = blocks-twice_right ll i c lr j b r

blocks-twice_left : (l : Tree) (j : ℕ) (b : Span) (rl : Tree) (i : ℕ) (c : Span) (rr : Tree) → blocks (twice_left l j b rl i c rr) ≡ blocks l ++ b ∷ (blocks rl ++ c ∷ blocks rr)
unfolding twice_left
blocks-twice_left l j b Leaf i c rr = refl
blocks-twice_left l j b (Branch x k d y) i c rr = simp append_assoc

blocks-turned_left : (l : Tree) (j : ℕ) (b : Span) (r : Tree) → blocks (turned_left l j b r) ≡ blocks l ++ b ∷ blocks r
unfolding turned_left
blocks-turned_left l j b Leaf = refl
blocks-turned_left l j b (Branch rl i c rr) = on (leb (height rl) (height rr))
  where
    on : (t : Bool) → blocks (cond t (Branch (Branch l j b rl) i c rr) (twice_left l j b rl i c rr)) ≡ blocks l ++ b ∷ (blocks rl ++ c ∷ blocks rr)
    on true = simp append_assoc
    on false = blocks-twice_left l j b rl i c rr

pub blocks-balanced : (l : Tree) (j : ℕ) (b : Span) (r : Tree) → blocks (balanced l j b r) ≡ blocks l ++ b ∷ blocks r
unfolding balanced
blocks-balanced l j b r = on (ltb (suc (height r)) (height l)) (ltb (suc (height l)) (height r))
  where
    on : (s t : Bool) → blocks (cond s (turned_right l j b r) (cond t (turned_left l j b r) (Branch l j b r))) ≡ blocks l ++ b ∷ blocks r
    on true t = blocks-turned_right l j b r
    on false true = blocks-turned_left l j b r
    on false false = refl

-- ---- the indexes of nodes

uses-twice_right : (q : ℕ) (ll : Tree) (i : ℕ) (c : Span) (lr : Tree) (j : ℕ) (b : Span) (r : Tree) → uses q (twice_right ll i c lr j b r) ≡ same q j + (same q i + uses q ll + uses q lr) + uses q r
unfolding twice_right
uses-twice_right q ll i c Leaf j b r = omega arith
uses-twice_right q ll i c (Branch x k d y) j b r = omega arith

uses-turned_right : (q : ℕ) (l : Tree) (j : ℕ) (b : Span) (r : Tree) → uses q (turned_right l j b r) ≡ same q j + uses q l + uses q r
unfolding turned_right
uses-turned_right q Leaf j b r = refl
uses-turned_right q (Branch ll i c lr) j b r = on (leb (height lr) (height ll))
  where
    on : (t : Bool) → uses q (cond t (Branch ll i c (Branch lr j b r)) (twice_right ll i c lr j b r)) ≡ same q j + (same q i + uses q ll + uses q lr) + uses q r
    on true = omega arith
    on false = uses-twice_right q ll i c lr j b r

uses-twice_left : (q : ℕ) (l : Tree) (j : ℕ) (b : Span) (rl : Tree) (i : ℕ) (c : Span) (rr : Tree) → uses q (twice_left l j b rl i c rr) ≡ same q j + uses q l + (same q i + uses q rl + uses q rr)
unfolding twice_left
uses-twice_left q l j b Leaf i c rr = omega arith
uses-twice_left q l j b (Branch x k d y) i c rr = omega arith

uses-turned_left : (q : ℕ) (l : Tree) (j : ℕ) (b : Span) (r : Tree) → uses q (turned_left l j b r) ≡ same q j + uses q l + uses q r
unfolding turned_left
uses-turned_left q l j b Leaf = refl
uses-turned_left q l j b (Branch rl i c rr) = on (leb (height rl) (height rr))
  where
    on : (t : Bool) → uses q (cond t (Branch (Branch l j b rl) i c rr) (twice_left l j b rl i c rr)) ≡ same q j + uses q l + (same q i + uses q rl + uses q rr)
    on true = omega arith
    on false = uses-twice_left q l j b rl i c rr

pub uses-balanced : (q : ℕ) (l : Tree) (j : ℕ) (b : Span) (r : Tree) → uses q (balanced l j b r) ≡ same q j + uses q l + uses q r
unfolding balanced
uses-balanced q l j b r = on (ltb (suc (height r)) (height l)) (ltb (suc (height l)) (height r))
  where
    on : (s t : Bool) → uses q (cond s (turned_right l j b r) (cond t (turned_left l j b r) (Branch l j b r))) ≡ same q j + uses q l + uses q r
    on true t = uses-turned_right q l j b r
    on false true = uses-turned_left q l j b r
    on false false = refl

-- ---- the balance

-- balanced, and at most one level higher than the higher of two sides
pub record IsLevel (m n : ℕ) (t : Tree) : Type 0 where
  pub balanced : IsBalanced t
  pub least : max m n ≤ height t
  pub most : height t ≤ suc (max m n)
  -- one level higher where the two differ by at most one
  pub even : suc (max m n) ≤ height t + (m - suc n) + (n - suc m)

level-turned_right : (l : Tree) (j : ℕ) (b : Span) (r : Tree) → IsBalanced l → IsBalanced r → height l ≡ height r + 2 → IsLevel (height l) (height r) (turned_right l j b r)
unfolding turned_right twice_right
level-turned_right Leaf j b r hl hr two = absurd (omega arith)
level-turned_right (Branch ll i c lr) j b r hl hr two = on (leb (height lr) (height ll)) refl
  where
    twice : (lr : Tree) → height lr ≡ height r + 1 → height ll ≡ height r → IsBalanced ll → IsBalanced lr → IsLevel (height r + 2) (height r) (twice_right ll i c lr j b r)
    twice Leaf e f bl br = absurd (omega arith)
    twice (Branch x k d y) e f bl br =
        record {
          balanced = (omega (arith, br.0, br.1), omega (arith, br.0, br.1), (omega (arith, br.0, br.1), omega (arith, br.0, br.1), bl, br.2), (omega (arith, br.0, br.1), omega (arith, br.0, br.1), br.3, hr));
          least = omega (arith, br.0, br.1);
          most = omega (arith, br.0, br.1);
          even = omega (arith, br.0, br.1);
        }

    on : (t : Bool) → leb (height lr) (height ll) ≡ t → IsLevel (suc (max (height ll) (height lr))) (height r) (cond t (Branch ll i c (Branch lr j b r)) (twice_right ll i c lr j b r))
    on true e =
        let le : height lr ≤ height ll = grind (arith, nat_tests) in
        record {
          balanced = (omega (arith, hl.0, hl.1), omega (arith, hl.0, hl.1), hl.2, (omega (arith, hl.0, hl.1), omega (arith, hl.0, hl.1), hl.3, hr));
          least = omega (arith, hl.0, hl.1);
          most = omega (arith, hl.0, hl.1);
          even = omega (arith, hl.0, hl.1);
        }
    on false e =
        let gt : height ll < height lr = grind (arith, nat_tests) in
        let is : suc (max (height ll) (height lr)) ≡ height r + 2 = omega arith in
        rw is (twice lr (omega (arith, hl.0, hl.1)) (omega (arith, hl.0, hl.1)) hl.2 hl.3)

level-turned_left : (l : Tree) (j : ℕ) (b : Span) (r : Tree) → IsBalanced l → IsBalanced r → height r ≡ height l + 2 → IsLevel (height l) (height r) (turned_left l j b r)
unfolding turned_left twice_left
level-turned_left l j b Leaf hl hr two = absurd (omega arith)
level-turned_left l j b (Branch rl i c rr) hl hr two = on (leb (height rl) (height rr)) refl
  where
    twice : (rl : Tree) → height rl ≡ height l + 1 → height rr ≡ height l → IsBalanced rl → IsBalanced rr → IsLevel (height l) (height l + 2) (twice_left l j b rl i c rr)
    twice Leaf e f bl br = absurd (omega arith)
    twice (Branch x k d y) e f bl br =
        record {
          balanced = (omega (arith, bl.0, bl.1), omega (arith, bl.0, bl.1), (omega (arith, bl.0, bl.1), omega (arith, bl.0, bl.1), hl, bl.2), (omega (arith, bl.0, bl.1), omega (arith, bl.0, bl.1), bl.3, br));
          least = omega (arith, bl.0, bl.1);
          most = omega (arith, bl.0, bl.1);
          even = omega (arith, bl.0, bl.1);
        }

    on : (t : Bool) → leb (height rl) (height rr) ≡ t → IsLevel (height l) (suc (max (height rl) (height rr))) (cond t (Branch (Branch l j b rl) i c rr) (twice_left l j b rl i c rr))
    on true e =
        let le : height rl ≤ height rr = grind (arith, nat_tests) in
        record {
          balanced = (omega (arith, hr.0, hr.1), omega (arith, hr.0, hr.1), (omega (arith, hr.0, hr.1), omega (arith, hr.0, hr.1), hl, hr.2), hr.3);
          least = omega (arith, hr.0, hr.1);
          most = omega (arith, hr.0, hr.1);
          even = omega (arith, hr.0, hr.1);
        }
    on false e =
        let gt : height rr < height rl = grind (arith, nat_tests) in
        let is : suc (max (height rl) (height rr)) ≡ height l + 2 = omega arith in
        rw is (twice rl (omega (arith, hr.0, hr.1)) (omega (arith, hr.0, hr.1)) hr.2 hr.3)

pub level-balanced : (l : Tree) (j : ℕ) (b : Span) (r : Tree) → IsBalanced l → IsBalanced r → height l ≤ height r + 2 → height r ≤ height l + 2 → IsLevel (height l) (height r) (balanced l j b r)
unfolding balanced
level-balanced l j b r hl hr le ge = on (ltb (suc (height r)) (height l)) (ltb (suc (height l)) (height r)) refl refl
  where
    on : (s t : Bool) → ltb (suc (height r)) (height l) ≡ s → ltb (suc (height l)) (height r) ≡ t → IsLevel (height l) (height r) (cond s (turned_right l j b r) (cond t (turned_left l j b r) (Branch l j b r)))
    on true t e f = level-turned_right l j b r hl hr (let gt : suc (height r) < height l = grind (arith, nat_tests) in omega arith)
    on false true e f = level-turned_left l j b r hl hr (let gt : suc (height l) < height r = grind (arith, nat_tests) in omega arith)
    on false false e f =
        let below : height l ≤ suc (height r) = grind (arith, nat_tests) in
        let above : height r ≤ suc (height l) = grind (arith, nat_tests) in
        record { balanced = (below, above, hl, hr); least = omega arith; most = omega arith; even = omega arith }
