-- What a table that holds a tree has at an index, and what a write leaves of the tree.
use Rattle.std.proofs.Common.{◌≡◌, ◌≢◌, ℕ, zero, suc, ◌+◌, ◌<◌, ◌≤◌, true, false, eqb, List, length, set, refl, sym, ap, ◌∙◌, arith}
use Rattle.std.proofs.lemmas.Bool.Decides.{nat_tests}
use Rattle.std.proofs.lemmas.List.{get_or-set_same, get_or-set_other, length-set}
use Rattle.al_event.specs.Store.{Span}
use Rattle.al_run_tree.specs.declared.node.Node.{Node}
use Rattle.al_run_tree.specs.Tree.{Tree, Leaf, Branch, is_leaf, height, index, same, uses}
use Rattle.al_run_tree.specs.Runs.{blank, over, node}
use Rattle.al_run_tree.specs.Table.{cell, Holds, IsTree, AreSides, Became}
use Rattle.al_run_tree.proofs.Room.{height-node}

pub held-within : (t : List Node) (s : Tree) → Holds t s → index s < length t
held-within t Leaf h = h.0
held-within t (Branch l j b r) h = h.0

pub held-cell : (t : List Node) (s : Tree) → Holds t s → cell t (index s) ≡ node s
held-cell t Leaf h = h.1
held-cell t (Branch l j b r) h = h.1

pub held-height : (t : List Node) (s : Tree) → Holds t s → (cell t (index s)).height ≡ height s
held-height t s h = ap (λ (x : Node). x.height) (held-cell t s h) ∙ height-node s

pub held-blank : (t : List Node) (s : Tree) → Holds t s → cell t 0 ≡ blank
held-blank t Leaf h = h.1
held-blank t (Branch l j b r) h = held-blank t l h.3

-- no block stands at 0
pub held-some : (t : List Node) (l : Tree) (j : ℕ) (b : Span) (r : Tree) → Holds t (Branch l j b r) → 0 < j
held-some t l zero b r h =
    let none : 0 ≡ height (Branch l 0 b r) = sym (ap (λ (x : Node). x.height) (held-blank t (Branch l 0 b r) h)) ∙ held-height t (Branch l 0 b r) h in
    absurd (omega arith)
held-some t l (suc j) b r h = omega arith

pub held-zero : (t : List Node) (s : Tree) → Holds t s → uses 0 s ≡ 0
held-zero t Leaf h = refl
held-zero t (Branch l j b r) h =
    let apart : eqb 0 j ≡ false = grind (arith, nat_tests, held-some t l j b r h) in
    rw (apart, held-zero t l h.3, held-zero t r h.4) refl

pub is_leaf-index : (t : List Node) (s : Tree) → Holds t s → eqb (index s) 0 ≡ is_leaf s
is_leaf-index t Leaf h = refl
is_leaf-index t (Branch l j b r) h = grind (arith, nat_tests, held-some t l j b r h)

same_self : (j : ℕ) → same j j ≡ 1
same_self j = let e : eqb j j ≡ true = grind (arith, nat_tests) in rw e refl

pub same_is : (i j : ℕ) → i ≡ j → same i j ≡ 1
same_is i j h = let e : eqb i j ≡ true = grind (arith, nat_tests) in rw e refl

pub same_apart : (i j : ℕ) → i ≢ j → same i j ≡ 0
same_apart i j h = let e : eqb i j ≡ false = grind (arith, nat_tests) in rw e refl

-- a tree that is not written to is still held
pub held-kept : (t new : List Node) (s : Tree) → length new ≡ length t → ((i : ℕ) → 0 < uses i s → cell new i ≡ cell t i) → cell new 0 ≡ cell t 0 → Holds t s → Holds new s
held-kept t new Leaf size kept none h = (omega (arith, h.0), none ∙ h.1)
held-kept t new (Branch l j b r) size kept none h =
    (omega (arith, h.0), kept j (omega (arith, same_self j)) ∙ h.1, h.2, held-kept t new l size (λ i u. kept i (omega arith)) none h.3, held-kept t new r size (λ i u. kept i (omega arith)) none h.4)

-- beside a tree that was changed
pub held-beside : (t new : List Node) (s u : Tree) → Became t new s → ((i : ℕ) → uses i s + uses i u ≤ 1) → Holds t u → Holds new u
held-beside t new s u b apart h = held-kept t new u b.size (λ i some. b.others i (omega (arith, apart i))) (b.others 0 (held-zero new s b.holds)) h

-- ---- one node is written

written-same : (t : List Node) (j : ℕ) (x : Node) → j < length t → cell (set t j x) j ≡ x
written-same t j x lt = get_or-set_same t j x blank lt

written-other : (t : List Node) (j i : ℕ) (x : Node) → i ≢ j → cell (set t j x) i ≡ cell t i
written-other t j i x ne = get_or-set_other t j i x blank ne

-- a block joins two trees
pub joins : (t new : List Node) (j : ℕ) (b : Span) (left right : ℕ) (l r : Tree) → AreSides t j b left right l r → new ≡ set t j (over left (cell t left) b right (cell t right)) → Became t new (Branch l j b r)
joins t new j b left right l r s is =
    let x : Node = over left (cell t left) b right (cell t right) in
    let size : length new ≡ length t = ap length is ∙ length-set t j x in
    let here : cell new j ≡ x = ap (λ (ns : List Node). cell ns j) is ∙ written-same t j x s.within in
    let other : (i : ℕ) → i ≢ j → cell new i ≡ cell t i = λ i ne. ap (λ (ns : List Node). cell ns i) is ∙ written-other t j i x ne in
    let told : x ≡ node (Branch l j b r) = rw (s.left_is, s.right_is, held-cell t l s.left_holds, held-cell t r s.right_holds) refl in
    let apart_left : (i : ℕ) → 0 < uses i l → i ≢ j = λ i u e. omega (arith, s.apart i, same_is i j e) in
    let apart_right : (i : ℕ) → 0 < uses i r → i ≢ j = λ i u e. omega (arith, s.apart i, same_is i j e) in
    let none : cell new 0 ≡ cell t 0 = other 0 (λ e. omega (arith, s.some)) in
    record {
      holds = (omega (arith, s.within), here ∙ told, s.low, held-kept t new l size (λ i u. other i (apart_left i u)) none s.left_holds, held-kept t new r size (λ i u. other i (apart_right i u)) none s.right_holds);
      others = λ i u. other i (λ e. omega (arith, u, same_is i j e));
      size = size;
    }

-- ---- trees below a tree

pub below-left : (t : List Node) (top : ℕ) (l : Tree) (j : ℕ) (b : Span) (r : Tree) → IsTree t top (Branch l j b r) → IsTree t (cell t top).left l
below-left t top l j b r s = record {
  holds = s.holds.3;
  top_is = ap (λ (i : ℕ). (cell t i).left) s.top_is ∙ ap (λ (x : Node). x.left) s.holds.1;
  apart = λ i. omega (arith, s.apart i);
  balanced = s.balanced.2;
  short = omega (arith, s.short);
}

pub below-right : (t : List Node) (top : ℕ) (l : Tree) (j : ℕ) (b : Span) (r : Tree) → IsTree t top (Branch l j b r) → IsTree t (cell t top).right r
below-right t top l j b r s = record {
  holds = s.holds.4;
  top_is = ap (λ (i : ℕ). (cell t i).right) s.top_is ∙ ap (λ (x : Node). x.right) s.holds.1;
  apart = λ i. omega (arith, s.apart i);
  balanced = s.balanced.3;
  short = omega (arith, s.short);
}
