-- A table in which a block is put into a tree or taken out of it.
use Rattle.std.proofs.Common.{◌≡◌, ◌≢◌, ℕ, ◌+◌, ◌<◌, ◌≤◌, ◌^◌, Bool, true, false, cond, eqb, ltb, List, length, Option, Some, None, IsSome, refl, sym, ap, subst, ◌∙◌, arith}
use Rattle.std.proofs.lemmas.Bool.Decides.{nat_tests}
use Rattle.al_event.specs.Store.{Span}
use Rattle.al_run_tree.specs.declared.node.Node.{Node}
use Rattle.al_run_tree.specs.Tree.{Tree, Leaf, Branch, is_leaf, index, same, uses}
use Rattle.al_run_tree.specs.Balance.{balanced, inserted, Taken, first_out, merged, taken_out}
use Rattle.al_run_tree.specs.Order.{found}
use Rattle.al_run_tree.specs.Runs.{node}
use Rattle.al_run_tree.specs.Table.{block_of, cell, Holds, IsTree, HasSome, HasBlock, AreSides, AreTwo, Became, IsNow, IsOut}
use Rattle.al_run_tree.proofs.Turns.{uses-balanced}
use Rattle.al_run_tree.proofs.Changes.{uses-inserted, grown-inserted, uses-first_out, shrunk-first_out, uses-taken_out, shrunk-taken_out}
use Rattle.al_run_tree.proofs.Held.{held-blank, held-some, held-beside}
use Rattle.al_run_tree.proofs.Joins.{became_trans}
use Rattle.al_run_tree.proofs.Reading.{leaf_at, some_at, top_open, whole, left_tree, right_tree, left_changed, right_changed, found_left, found_right}

fits_with : (w : Tree) (new k : ℕ) → uses new w ≡ 0 → uses k w ≤ 1 → same k new + uses k w ≤ 1
fits_with w new k fresh one = on (eqb k new) refl
  where
    on : (t : Bool) → eqb k new ≡ t → cond t 1 0 + uses k w ≤ 1
    on true e =
        let is : k ≡ new = grind (arith, nat_tests) in
        let none : uses k w ≡ 0 = ap (λ q. uses q w) is ∙ fresh in
        omega arith
    on false e = omega arith

inserted-leaf : (new : ℕ) (e : Span) → inserted new e Leaf ≡ Branch Leaf new e Leaf
unfolding inserted
inserted-leaf new e = refl

pub leaf_sides : (t : List Node) (top new : ℕ) (e : Span) (s : Tree) → IsTree t top s → 0 < new → new < length t → e.at + e.size < 2 ^ 31 → AreSides t new e 0 0 Leaf Leaf
leaf_sides t top new e s is some within low =
    record {
      left_is = refl;
      right_is = refl;
      left_holds = (omega arith, held-blank t s is.holds);
      right_holds = (omega arith, held-blank t s is.holds);
      apart = λ k. omega (arith, fits_with Leaf new k refl (omega arith));
      some = some;
      within = within;
      low = low;
      left_short = omega arith;
      right_short = omega arith;
    }

pub leaf_now : (t u : List Node) (top new : ℕ) (e : Span) (s : Tree) → IsTree t top s → top ≡ 0 → Became t u (Branch Leaf new e Leaf) → IsNow t u new (inserted new e s)
leaf_now t u top new e s is none b =
    let now : IsNow t u new (Branch Leaf new e Leaf) = record { became = b; top_is = refl } in
    subst (λ w. IsNow t u new w) (sym (ap (inserted new e) (leaf_at t top s is none) ∙ inserted-leaf new e)) now

-- ---- one block more

module _ (t : List Node) (top : ℕ) (s : Tree) (is : IsTree t top s) (some : is_leaf s ≡ false) (x : Node) (read : x ≡ cell t top) (new : ℕ) (e : Span) (fresh : uses new s ≡ 0) where
  fresh_whole : uses new (Branch (top_open t top s is some x read).left top (block_of x) (top_open t top s is some x read).right) ≡ 0
  fresh_whole = ap (λ w. uses new w) (sym (top_open t top s is some x read).is) ∙ fresh

  pub fresh_left : uses new (top_open t top s is some x read).left ≡ 0
  fresh_left = omega (arith, fresh_whole)

  pub fresh_right : uses new (top_open t top s is some x read).right ≡ 0
  fresh_right = omega (arith, fresh_whole)

  fits_whole : (k : ℕ) → same k new + uses k (Branch (top_open t top s is some x read).left top (block_of x) (top_open t top s is some x read).right) ≤ 1
  fits_whole k = fits_with (Branch (top_open t top s is some x read).left top (block_of x) (top_open t top s is some x read).right) new k fresh_whole ((whole t top s is some x read).apart k)

  pub insert_left : (u : List Node) (m : ℕ) → IsNow t u m (inserted new e (top_open t top s is some x read).left) → AreSides u top (block_of x) m x.right (inserted new e (top_open t top s is some x read).left) (top_open t top s is some x read).right
  insert_left u m now =
      let w = whole t top s is some x read in
      let g = grown-inserted (top_open t top s is some x read).left new e w.balanced.2 in
      left_changed t top s is some x read u (inserted new e (top_open t top s is some x read).left) m now.became now.top_is (λ k. omega (arith, fits_whole k, uses-inserted k (top_open t top s is some x read).left new e)) (omega (arith, g.most, w.short))

  pub insert_right : (u : List Node) (m : ℕ) → IsNow t u m (inserted new e (top_open t top s is some x read).right) → AreSides u top (block_of x) x.left m (top_open t top s is some x read).left (inserted new e (top_open t top s is some x read).right)
  insert_right u m now =
      let w = whole t top s is some x read in
      let g = grown-inserted (top_open t top s is some x read).right new e w.balanced.3 in
      right_changed t top s is some x read u (inserted new e (top_open t top s is some x read).right) m now.became now.top_is (λ k. omega (arith, fits_whole k, uses-inserted k (top_open t top s is some x read).right new e)) (omega (arith, g.most, w.short))

  inserted_left : e.at < x.at → inserted new e s ≡ balanced (inserted new e (top_open t top s is some x read).left) top (block_of x) (top_open t top s is some x read).right
  unfolding inserted
  inserted_left lt = let d : ltb e.at x.at ≡ true = grind (arith, nat_tests) in ap (inserted new e) (top_open t top s is some x read).is ∙ rw d refl

  inserted_right : x.at ≤ e.at → inserted new e s ≡ balanced (top_open t top s is some x read).left top (block_of x) (inserted new e (top_open t top s is some x read).right)
  unfolding inserted
  inserted_right le = let d : ltb e.at x.at ≡ false = grind (arith, nat_tests) in ap (inserted new e) (top_open t top s is some x read).is ∙ rw d refl

  pub now_left : e.at < x.at → (u v : List Node) (m p : ℕ) → IsNow t u m (inserted new e (top_open t top s is some x read).left) → IsNow u v p (balanced (inserted new e (top_open t top s is some x read).left) top (block_of x) (top_open t top s is some x read).right) → IsNow t v p (inserted new e s)
  now_left lt u v m p first second =
      let l = inserted new e (top_open t top s is some x read).left in
      let b = became_trans t u v l (balanced l top (block_of x) (top_open t top s is some x read).right) first.became second.became (λ k. omega (arith, uses-balanced k l top (block_of x) (top_open t top s is some x read).right)) in
      let now : IsNow t v p (balanced l top (block_of x) (top_open t top s is some x read).right) = record { became = b; top_is = second.top_is } in
      subst (λ w. IsNow t v p w) (sym (inserted_left lt)) now

  pub now_right : x.at ≤ e.at → (u v : List Node) (m p : ℕ) → IsNow t u m (inserted new e (top_open t top s is some x read).right) → IsNow u v p (balanced (top_open t top s is some x read).left top (block_of x) (inserted new e (top_open t top s is some x read).right)) → IsNow t v p (inserted new e s)
  now_right le u v m p first second =
      let r = inserted new e (top_open t top s is some x read).right in
      let b = became_trans t u v r (balanced (top_open t top s is some x read).left top (block_of x) r) first.became second.became (λ k. omega (arith, uses-balanced k (top_open t top s is some x read).left top (block_of x) r)) in
      let now : IsNow t v p (balanced (top_open t top s is some x read).left top (block_of x) r) = record { became = b; top_is = second.top_is } in
      subst (λ w. IsNow t v p w) (sym (inserted_right le)) now

-- ---- one block less

same_now : (t : List Node) (s : Tree) → Holds t s → Became t t s
same_now t s h = record { holds = h; others = λ k none. refl; size = refl }

-- the first block of a tree stands in the table
pub record IsIn (t : List Node) (o : Taken) : Type 0 where
  pub some : 0 < o.index
  pub within : o.index < length t
  pub low : o.block.at + o.block.size < 2 ^ 31

first_in : (t : List Node) (s : Tree) → Holds t s → is_leaf s ≡ false → IsIn t (first_out s)
unfolding first_out
first_in t Leaf h some = absurd (cc)
first_in t (Branch l j b r) h some = on l h (first_in t l h.3)
  where
    on : (l : Tree) → Holds t (Branch l j b r) → (is_leaf l ≡ false → IsIn t (first_out l)) → IsIn t (first_out (Branch l j b r))
    on Leaf h rec = record { some = held-some t Leaf j b r h; within = h.0; low = h.2 }
    on (Branch x k d y) h rec = let i = rec refl in record { some = i.some; within = i.within; low = i.low }

first_end : (l : Tree) (j : ℕ) (b : Span) (r : Tree) → l ≡ Leaf → first_out (Branch l j b r) ≡ record { index = j; block = b; rest = r }
unfolding first_out
first_end l j b r e = rw e refl

first_more : (l : Tree) (j : ℕ) (b : Span) (r : Tree) → is_leaf l ≡ false → first_out (Branch l j b r) ≡ record { index = (first_out l).index; block = (first_out l).block; rest = balanced (first_out l).rest j b r }
unfolding first_out
first_more l j b r e = rw e refl

merged_none : (l r : Tree) → r ≡ Leaf → merged l r ≡ l
unfolding merged
merged_none l r e = rw e refl

merged_more : (l r : Tree) → is_leaf r ≡ false → merged l r ≡ balanced l (first_out r).index (first_out r).block (first_out r).rest
unfolding merged
merged_more l r e = rw e refl

module _ (t : List Node) (top : ℕ) (s : Tree) (is : IsTree t top s) (some : is_leaf s ≡ false) (x : Node) (read : x ≡ cell t top) where
  abbrev lo : Tree
  lo = (top_open t top s is some x read).left

  abbrev hi : Tree
  hi = (top_open t top s is some x read).right

  pub out_end : (e : Span) → e ≡ block_of x → x.left ≡ 0 → IsOut t t top e x.right (first_out s)
  out_end e block none =
      let told : first_out s ≡ record { index = top; block = block_of x; rest = hi } = ap first_out (top_open t top s is some x read).is ∙ first_end lo top (block_of x) hi (leaf_at t x.left lo (left_tree t top s is some x read) none) in
      let out : IsOut t t top e x.right (record { index = top; block = block_of x; rest = hi }) = record { became = same_now t hi (right_tree t top s is some x read).holds; index_is = refl; block_is = block; top_is = (top_open t top s is some x read).right_is } in
      subst (λ o. IsOut t t top e x.right o) (sym told) out

  pub out_first : x.left ≢ 0 → HasSome t x.left
  out_first ne = record { tree = lo; is = left_tree t top s is some x read; some = some_at t x.left lo (left_tree t top s is some x read) ne }

  pub out_sides : x.left ≢ 0 → (u : List Node) (i : ℕ) (e : Span) (m : ℕ) → IsOut t u i e m (first_out lo) → AreSides u top (block_of x) m x.right (first_out lo).rest hi
  out_sides ne u i e m o =
      let w = whole t top s is some x read in
      let g = shrunk-first_out lo w.balanced.2 in
      left_changed t top s is some x read u (first_out lo).rest m o.became o.top_is (λ k. omega (arith, w.apart k, uses-first_out k lo (some_at t x.left lo (left_tree t top s is some x read) ne))) (omega (arith, g.most, w.short))

  pub out_more : x.left ≢ 0 → (u v : List Node) (i : ℕ) (e : Span) (m p : ℕ) → IsOut t u i e m (first_out lo) → IsNow u v p (balanced (first_out lo).rest top (block_of x) hi) → IsOut t v i e p (first_out s)
  out_more ne u v i e m p first second =
      let rest = (first_out lo).rest in
      let told = ap first_out (top_open t top s is some x read).is ∙ first_more lo top (block_of x) hi (some_at t x.left lo (left_tree t top s is some x read) ne) in
      let b = became_trans t u v rest (balanced rest top (block_of x) hi) first.became second.became (λ k. omega (arith, uses-balanced k rest top (block_of x) hi)) in
      let out : IsOut t v i e p (record { index = (first_out lo).index; block = (first_out lo).block; rest = balanced rest top (block_of x) hi }) = record { became = b; index_is = first.index_is; block_is = first.block_is; top_is = second.top_is } in
      subst (λ o. IsOut t v i e p o) (sym told) out

  -- the block at a place

  some_is : (o : Option Span) → IsSome o → (b : Span) × (o ≡ Some b)
  some_is None h = absurd (cc)
  some_is (Some b) h = (b, refl)

  pub there_left : (at : ℕ) → at < x.at → IsSome (found at s) → IsSome (found at lo)
  there_left at lt there = subst IsSome (found_left t top s is some x read at lt) there

  pub there_right : (at : ℕ) → x.at < at → IsSome (found at s) → IsSome (found at hi)
  there_right at lt there = subst IsSome (found_right t top s is some x read at lt) there

  pub take_left : (at : ℕ) → at < x.at → IsSome (found at s) → HasBlock t x.left at
  take_left at lt there = record { tree = lo; is = left_tree t top s is some x read; there = there_left at lt there }

  pub take_right : (at : ℕ) → x.at < at → IsSome (found at s) → HasBlock t x.right at
  take_right at lt there = record { tree = hi; is = right_tree t top s is some x read; there = there_right at lt there }

  pub take_sides_left : (at : ℕ) → at < x.at → IsSome (found at s) → (u : List Node) (i : ℕ) (e : Span) (m : ℕ) → IsOut t u i e m (taken_out at lo) → AreSides u top (block_of x) m x.right (taken_out at lo).rest hi
  take_sides_left at lt there u i e m o =
      let w = whole t top s is some x read in
      let f = some_is (found at lo) (subst IsSome (found_left t top s is some x read at lt) there) in
      let g = shrunk-taken_out lo at w.balanced.2 in
      left_changed t top s is some x read u (taken_out at lo).rest m o.became o.top_is (λ k. omega (arith, w.apart k, uses-taken_out k lo at f.0 f.1)) (omega (arith, g.most, w.short))

  pub take_sides_right : (at : ℕ) → x.at < at → IsSome (found at s) → (u : List Node) (i : ℕ) (e : Span) (m : ℕ) → IsOut t u i e m (taken_out at hi) → AreSides u top (block_of x) x.left m lo (taken_out at hi).rest
  take_sides_right at lt there u i e m o =
      let w = whole t top s is some x read in
      let f = some_is (found at hi) (subst IsSome (found_right t top s is some x read at lt) there) in
      let g = shrunk-taken_out hi at w.balanced.3 in
      right_changed t top s is some x read u (taken_out at hi).rest m o.became o.top_is (λ k. omega (arith, w.apart k, uses-taken_out k hi at f.0 f.1)) (omega (arith, g.most, w.short))

  pub taken_left : (at : ℕ) → at < x.at → (u v : List Node) (i : ℕ) (e : Span) (m p : ℕ) → IsOut t u i e m (taken_out at lo) → IsNow u v p (balanced (taken_out at lo).rest top (block_of x) hi) → IsOut t v i e p (taken_out at s)
  unfolding taken_out
  taken_left at lt u v i e m p first second =
      let rest = (taken_out at lo).rest in
      let d : ltb at x.at ≡ true = grind (arith, nat_tests) in
      let told : taken_out at s ≡ record { index = (taken_out at lo).index; block = (taken_out at lo).block; rest = balanced rest top (block_of x) hi } = ap (taken_out at) (top_open t top s is some x read).is ∙ rw d refl in
      let b = became_trans t u v rest (balanced rest top (block_of x) hi) first.became second.became (λ k. omega (arith, uses-balanced k rest top (block_of x) hi)) in
      let out : IsOut t v i e p (record { index = (taken_out at lo).index; block = (taken_out at lo).block; rest = balanced rest top (block_of x) hi }) = record { became = b; index_is = first.index_is; block_is = first.block_is; top_is = second.top_is } in
      subst (λ o. IsOut t v i e p o) (sym told) out

  pub taken_right : (at : ℕ) → x.at < at → (u v : List Node) (i : ℕ) (e : Span) (m p : ℕ) → IsOut t u i e m (taken_out at hi) → IsNow u v p (balanced lo top (block_of x) (taken_out at hi).rest) → IsOut t v i e p (taken_out at s)
  unfolding taken_out
  taken_right at lt u v i e m p first second =
      let rest = (taken_out at hi).rest in
      let c : ltb at x.at ≡ false = grind (arith, nat_tests) in
      let d : ltb x.at at ≡ true = grind (arith, nat_tests) in
      let told : taken_out at s ≡ record { index = (taken_out at hi).index; block = (taken_out at hi).block; rest = balanced lo top (block_of x) rest } = ap (taken_out at) (top_open t top s is some x read).is ∙ rw (c, d) refl in
      let b = became_trans t u v rest (balanced lo top (block_of x) rest) first.became second.became (λ k. omega (arith, uses-balanced k lo top (block_of x) rest)) in
      let out : IsOut t v i e p (record { index = (taken_out at hi).index; block = (taken_out at hi).block; rest = balanced lo top (block_of x) rest }) = record { became = b; index_is = first.index_is; block_is = first.block_is; top_is = second.top_is } in
      subst (λ o. IsOut t v i e p o) (sym told) out

  pub taken_here : (at : ℕ) → at ≤ x.at → x.at ≤ at → (v : List Node) (e : Span) (p : ℕ) → e ≡ block_of x → IsNow t v p (merged lo hi) → IsOut t v top e p (taken_out at s)
  unfolding taken_out
  taken_here at le ge v e p block now =
      let c : ltb at x.at ≡ false = grind (arith, nat_tests) in
      let d : ltb x.at at ≡ false = grind (arith, nat_tests) in
      let told : taken_out at s ≡ record { index = top; block = block_of x; rest = merged lo hi } = ap (taken_out at) (top_open t top s is some x read).is ∙ rw (c, d) refl in
      let out : IsOut t v top e p (record { index = top; block = block_of x; rest = merged lo hi }) = record { became = now.became; index_is = refl; block_is = block; top_is = now.top_is } in
      subst (λ o. IsOut t v top e p o) (sym told) out

module _ (t : List Node) (left right : ℕ) (l r : Tree) (two : AreTwo t left right l r) where
  pub merge_none : right ≡ 0 → IsNow t t left (merged l r)
  merge_none none =
      let now : IsNow t t left l = record { became = same_now t l two.left_is.holds; top_is = two.left_is.top_is } in
      subst (λ w. IsNow t t left w) (sym (merged_none l r (leaf_at t right r two.right_is none))) now

  pub merge_first : right ≢ 0 → HasSome t right
  merge_first ne = record { tree = r; is = two.right_is; some = some_at t right r two.right_is ne }

  merge_whole : right ≢ 0 → (u : List Node) (m : ℕ) → Became t u (first_out r).rest → m ≡ index (first_out r).rest → AreSides u (first_out r).index (first_out r).block left m l (first_out r).rest
  merge_whole ne u m b ms =
      let some = some_at t right r two.right_is ne in
      let i = first_in t r two.right_is.holds some in
      let g = shrunk-first_out r two.right_is.balanced in
      record {
        left_is = two.left_is.top_is;
        right_is = ms;
        left_holds = held-beside t u (first_out r).rest l b (λ k. omega (arith, two.apart k, uses-first_out k r some)) two.left_is.holds;
        right_holds = b.holds;
        apart = λ k. omega (arith, two.apart k, uses-first_out k r some);
        some = i.some;
        within = omega (arith, i.within, b.size);
        low = i.low;
        left_short = omega (arith, two.left_is.short);
        right_short = omega (arith, g.most, two.right_is.short);
      }

  pub merge_sides : right ≢ 0 → (u : List Node) (i : ℕ) (e : Span) (m : ℕ) → IsOut t u i e m (first_out r) → AreSides u i e left m l (first_out r).rest
  merge_sides ne u i e m o = subst (λ i. AreSides u i e left m l (first_out r).rest) (sym o.index_is) (subst (λ e. AreSides u (first_out r).index e left m l (first_out r).rest) (sym o.block_is) (merge_whole ne u m o.became o.top_is))

  pub merge_now : right ≢ 0 → (u v : List Node) (i : ℕ) (e : Span) (m p : ℕ) → IsOut t u i e m (first_out r) → IsNow u v p (balanced l i e (first_out r).rest) → IsNow t v p (merged l r)
  merge_now ne u v i e m p o now =
      let rest = (first_out r).rest in
      let b = became_trans t u v rest (balanced l i e rest) o.became now.became (λ k. omega (arith, uses-balanced k l i e rest)) in
      let told : balanced l i e rest ≡ merged l r = ap (λ i. balanced l i e rest) o.index_is ∙ ap (λ e. balanced l (first_out r).index e rest) o.block_is ∙ sym (merged_more l r (some_at t right r two.right_is ne)) in
      let done : IsNow t v p (balanced l i e rest) = record { became = b; top_is = now.top_is } in
      subst (λ w. IsNow t v p w) told done

-- a table has one tree below an index
same_tree : (t : List Node) (s w : Tree) → Holds t s → Holds t w → index s ≡ index w → s ≡ w
same_tree t Leaf Leaf h i e = refl
same_tree t Leaf (Branch l j b r) h i e = absurd (omega (arith, held-some t l j b r i))
same_tree t (Branch l j b r) Leaf h i e = absurd (omega (arith, held-some t l j b r h))
same_tree t (Branch l j b r) (Branch m k c q) h i e =
    let cells : node (Branch l j b r) ≡ node (Branch m k c q) = sym h.1 ∙ ap (cell t) e ∙ i.1 in
    let left = same_tree t l m h.3 i.3 (ap (λ (x : Node). x.left) cells) in
    let right = same_tree t r q h.4 i.4 (ap (λ (x : Node). x.right) cells) in
    let block : b ≡ c = ap block_of cells in
    cc (left, right, block, e)

pub one_tree : (t : List Node) (top : ℕ) (s w : Tree) → IsTree t top s → IsTree t top w → s ≡ w
one_tree t top s w is also = same_tree t s w is.holds also.holds (sym is.top_is ∙ also.top_is)

pub same_some : (t : List Node) (top : ℕ) (s w : Tree) → IsTree t top s → IsTree t top w → is_leaf s ≡ false → is_leaf w ≡ false
same_some t top s w is also some = subst (λ z. is_leaf z ≡ false) (one_tree t top s w is also) some

pub same_there : (t : List Node) (top : ℕ) (s w : Tree) (at : ℕ) → IsTree t top s → IsTree t top w → IsSome (found at s) → IsSome (found at w)
same_there t top s w at is also there = subst (λ z. IsSome (found at z)) (one_tree t top s w is also) there

pub there_some : (s : Tree) (at : ℕ) → IsSome (found at s) → is_leaf s ≡ false
unfolding found
there_some Leaf at h = absurd (cc)
there_some (Branch l j b r) at h = refl
