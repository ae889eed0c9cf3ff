-- A region's table, and the indexes of its nodes, with one block more or less.
use Rattle.std.proofs.Common.{◌≡◌, ◌≢◌, ℕ, zero, suc, ◌+◌, ◌<◌, ◌≤◌, inl, inr, Bool, true, false, cond, eqb, List, [], ◌∷◌, ◌++◌, length, length-append, Some, refl, sym, ap, ◌∙◌, arith}
use Rattle.std.proofs.lemmas.Bool.{cases_lt}
use Rattle.std.proofs.lemmas.Bool.Decides.{nat_tests}
use Rattle.al_event.specs.Store.{Span}
use Rattle.al_run_tree.specs.declared.node.Node.{Node}
use Rattle.al_run_tree.specs.Tree.{Tree, Leaf, Branch, height, index, same, uses}
use Rattle.al_run_tree.specs.Balance.{inserted, taken_out}
use Rattle.al_run_tree.specs.Order.{found}
use Rattle.al_run_tree.specs.Table.{Holds, IsTree, IsNow, IsOut}
use Rattle.al_run_tree.proofs.Changes.{uses-inserted, grown-inserted, uses-taken_out, shrunk-taken_out}
use Rattle.al_run_tree.proofs.Sizes.{length-inserted, length-taken_out}
use Rattle.al_run_tree.proofs.Heights.{height_most}
use Rattle.al_run_tree.proofs.Held.{held-some, held-zero, same_is}
use Rattle.al_region.specs.Kept.{tree_from, tree_at, uses_in, IsKept, IsFresh}

from_is : (d : ℕ) (t : List Node) (s : Tree) → Holds t s → height s ≤ d → tree_from d t (index s) ≡ s
unfolding tree_from
from_is zero t Leaf h le = refl
from_is zero t (Branch l j b r) h le = absurd (omega arith)
from_is (suc d) t Leaf h le = refl
from_is (suc d) t (Branch l j b r) h le =
    let some : eqb j 0 ≡ false = grind (arith, nat_tests, held-some t l j b r h) in
    rw (some, h.1, from_is d t l h.3 (omega arith), from_is d t r h.4 (omega arith)) refl

pub at_is : (t : List Node) (top : ℕ) (s : Tree) → IsTree t top s → tree_at t top ≡ s
unfolding tree_at
at_is t top s is = ap (tree_from 40 t) is.top_is ∙ from_is 40 t s is.holds is.short

pub low : (t : List Node) (top live used : ℕ) (free : List ℕ) (s : Tree) → IsKept t top live used free s → live ≤ 65536 → height s ≤ 22
low t top live used free s k few = height_most s k.is.balanced (omega (arith, k.live_is))

uses_end : (i j : ℕ) (xs : List ℕ) → uses_in i (xs ++ j ∷ []) ≡ uses_in i xs + same i j
uses_end i j [] = omega arith
uses_end i j (x ∷ xs) = omega (arith, uses_end i j xs)

-- ---- an index for one block more

pub record IsPlaced (t : List Node) (s : Tree) (live i used : ℕ) (free : List ℕ) : Type 0 where
  pub fresh : uses i s ≡ 0
  pub some : 0 < i
  pub within : i < length t
  pub apart : (k : ℕ) → same k i + uses k s + uses_in k free ≤ 1
  pub unused : (k : ℕ) → used ≤ k → same k i + uses k s + uses_in k free ≡ 0
  pub none : uses_in 0 free ≡ 0
  pub used_is : used ≡ suc live + length free + 1
  pub most : used ≤ 65537

same_other : (k i : ℕ) → k ≢ i → same k i ≡ 0
same_other k i ne = let e : eqb k i ≡ false = grind (arith, nat_tests) in rw e refl

pub placed : (t : List Node) (top live used : ℕ) (free : List ℕ) (s : Tree) (i new : ℕ) (left : List ℕ) → IsKept t top live used free s → live < 65536 → IsFresh used free i new left → IsPlaced t s live i new left
placed t top live used free s i new left k few (inl again) =
    let parts : (q : ℕ) → uses_in q free ≡ uses_in q left + same q i = λ q. ap (uses_in q) again.taken ∙ uses_end q i left in
    let one : same i i ≡ 1 = same_is i i refl in
    let size : length free ≡ length left + 1 = ap length again.taken ∙ length-append left (i ∷ []) in
    record {
      fresh = omega (arith, k.apart i, parts i);
      some = positive i one parts k.some;
      within = below i one parts;
      apart = λ q. omega (arith, k.apart q, parts q);
      unused = λ q le. omega (arith, k.unused q (omega (arith, again.kept)), parts q);
      none = omega (arith, k.some, parts 0);
      used_is = omega (arith, again.kept, k.used_is, size);
      most = omega (arith, again.kept, k.most);
    }
  where
    positive : (i : ℕ) → same i i ≡ 1 → ((q : ℕ) → uses_in q free ≡ uses_in q left + same q i) → uses_in 0 free ≡ 0 → 0 < i
    positive zero one parts none = absurd (omega (arith, parts 0))
    positive (suc i) one parts none = omega arith

    below : (i : ℕ) → same i i ≡ 1 → ((q : ℕ) → uses_in q free ≡ uses_in q left + same q i) → i < length t
    below i one parts = elim (cases_lt i used) [
      | inl lt ↦ omega (arith, k.size, k.most)
      | inr le ↦ absurd (omega (arith, k.unused i le, parts i))
    ]
placed t top live used free s i new left k few (inr first) =
    let unused : (q : ℕ) → used ≤ q → uses q s ≡ 0 = λ q le. omega (arith, k.unused q le) in
    let size : length free ≡ 0 = ap length first.none in
    record {
      fresh = omega (arith, k.unused i (omega (arith, first.taken)));
      some = omega (arith, first.taken, k.used_is);
      within = omega (arith, first.taken, k.used_is, k.size, size);
      apart = λ q. apart q;
      unused = λ q le. past q le;
      none = ap (uses_in 0) first.left_none;
      used_is = omega (arith, first.next, k.used_is, size, ap length first.left_none);
      most = omega (arith, first.next, k.used_is, size);
    }
  where
    left_uses : (q : ℕ) → uses_in q left ≡ 0
    left_uses q = ap (uses_in q) first.left_none

    apart : (q : ℕ) → same q i + uses q s + uses_in q left ≤ 1
    apart q = on (eqb q i) refl
      where
        on : (w : Bool) → eqb q i ≡ w → cond w 1 0 + uses q s + uses_in q left ≤ 1
        on true e =
            let is : q ≡ i = grind (arith, nat_tests) in
            let none : uses q s ≡ 0 = ap (λ j. uses j s) is ∙ (let z : uses i s ≡ 0 = omega (arith, k.unused i (omega (arith, first.taken))) in z) in
            omega (arith, left_uses q)
        on false e = omega (arith, left_uses q, k.apart q)

    past : (q : ℕ) → new ≤ q → same q i + uses q s + uses_in q left ≡ 0
    past q le =
        let other : same q i ≡ 0 = same_other q i (λ e. omega (arith, first.taken, first.next)) in
        omega (arith, left_uses q, k.unused q (omega (arith, first.next)))

-- ---- one block more

pub kept_with : (t u : List Node) (top p live used : ℕ) (free : List ℕ) (s : Tree) (i : ℕ) (e : Span) (first : ℕ) (old : List ℕ) → IsKept t top live first old s → live < 65536 → IsPlaced t s live i used free → IsNow t u p (inserted i e s) → IsKept u p (live + 1) used free (inserted i e s)
kept_with t u top p live used free s i e first old k few placed now =
    let g = grown-inserted s i e k.is.balanced in
    let size = length-inserted s i e in
    record {
      is = record {
        holds = now.became.holds;
        top_is = now.top_is;
        apart = λ q. omega (arith, placed.apart q, uses-inserted q s i e);
        balanced = g.balanced;
        short = omega (arith, height_most (inserted i e s) g.balanced (omega (arith, size, k.live_is)));
      };
      live_is = omega (arith, size, k.live_is);
      size = now.became.size ∙ k.size;
      apart = λ q. omega (arith, placed.apart q, uses-inserted q s i e);
      unused = λ q le. omega (arith, placed.unused q le, uses-inserted q s i e);
      some = placed.none;
      used_is = omega (arith, placed.used_is);
      most = placed.most;
    }

-- ---- one block less

pub kept_without : (t u : List Node) (top p live used : ℕ) (free more : List ℕ) (s : Tree) (at i : ℕ) (b c : Span) → IsKept t top (live + 1) used free s → live + 1 ≤ 65536 → found at s ≡ Some b → IsOut t u i c p (taken_out at s) → more ≡ free ++ i ∷ [] → IsKept u p live used more (taken_out at s).rest
kept_without t u top p live used free more s at i b c k few is out more_is =
    let rest = (taken_out at s).rest in
    let g = shrunk-taken_out s at k.is.balanced in
    let size = length-taken_out s at b is in
    let parts : (q : ℕ) → uses_in q more ≡ uses_in q free + same q i = λ q. ap (uses_in q) more_is ∙ uses_end q i free in
    let split : (q : ℕ) → uses q s ≡ same q i + uses q rest = λ q. uses-taken_out q s at b is ∙ ap (λ j. same q j + uses q rest) (sym out.index_is) in
    let zero_in : uses 0 s ≡ 0 = held-zero t s k.is.holds in
    record {
      is = record {
        holds = out.became.holds;
        top_is = out.top_is;
        apart = λ q. omega (arith, k.is.apart q, split q);
        balanced = g.balanced;
        short = omega (arith, g.most, k.is.short);
      };
      live_is = omega (arith, size, k.live_is);
      size = out.became.size ∙ k.size;
      apart = λ q. omega (arith, k.apart q, split q, parts q);
      unused = λ q le. omega (arith, k.unused q le, split q, parts q);
      some = omega (arith, k.some, split 0, parts 0, zero_in);
      used_is = omega (arith, k.used_is, ap length more_is ∙ length-append free (i ∷ []));
      most = k.most;
    }
