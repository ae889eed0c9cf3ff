-- A tree of which the top node is read.
use Rattle.std.proofs.Common.{◌≡◌, ◌≢◌, ℕ, suc, ◌+◌, ◌<◌, ◌≤◌, true, false, eqb, ltb, max, List, Option, Some, None, option_map, refl, sym, ap, subst, ◌∙◌, arith}
use Rattle.std.specs.Option.{option_or}
use Rattle.std.proofs.lemmas.Bool.Decides.{nat_tests}
use Rattle.al_run_tree.specs.declared.node.Node.{Node}
use Rattle.al_run_tree.specs.Tree.{Tree, Leaf, Branch, is_leaf, blocks, height, index, same, uses}
use Rattle.al_run_tree.specs.Balance.{balanced}
use Rattle.al_run_tree.specs.Order.{found, last_to, first_from}
use Rattle.al_run_tree.specs.Runs.{round_up, first_gap, node, has_room}
use Rattle.al_run_tree.specs.Table.{block_of, cell, IsTree, AreSides, AreTwo, Became}
use Rattle.al_run_tree.proofs.Room.{gap_left, gap_right}
use Rattle.al_run_tree.proofs.Held.{held-cell, held-height, held-some, held-beside, is_leaf-index}
use Rattle.al_run_tree.proofs.Joins.{IsOpen, opened}

leaf_is : (s : Tree) → is_leaf s ≡ true → s ≡ Leaf
leaf_is Leaf h = refl
leaf_is (Branch l j b r) h = absurd (cc)

pub leaf_at : (t : List Node) (top : ℕ) (s : Tree) → IsTree t top s → top ≡ 0 → s ≡ Leaf
leaf_at t top s is none =
    let z : index s ≡ 0 = sym is.top_is ∙ none in
    let e : eqb (index s) 0 ≡ true = grind (arith, nat_tests) in
    leaf_is s (sym (is_leaf-index t s is.holds) ∙ e)

pub some_at : (t : List Node) (top : ℕ) (s : Tree) → IsTree t top s → top ≢ 0 → is_leaf s ≡ false
some_at t top s is some =
    let ne : index s ≢ 0 = λ z. some (is.top_is ∙ z) in
    let e : eqb (index s) 0 ≡ false = grind (arith, nat_tests) in
    sym (is_leaf-index t s is.holds) ∙ e

module _ (t : List Node) (top : ℕ) (s : Tree) (is : IsTree t top s) (some : is_leaf s ≡ false) (x : Node) (read : x ≡ cell t top) where
  abbrev pub top_open : IsOpen s top x (block_of x)
  top_open = opened t s top x (block_of x) is.holds is.top_is some read refl

  pub whole : IsTree t top (Branch top_open.left top (block_of x) top_open.right)
  whole = subst (λ w. IsTree t top w) top_open.is is

  pub left_tree : IsTree t x.left top_open.left
  left_tree = record { holds = whole.holds.3; top_is = top_open.left_is; apart = λ k. omega (arith, whole.apart k); balanced = whole.balanced.2; short = omega (arith, whole.short) }

  pub right_tree : IsTree t x.right top_open.right
  right_tree = record { holds = whole.holds.4; top_is = top_open.right_is; apart = λ k. omega (arith, whole.apart k); balanced = whole.balanced.3; short = omega (arith, whole.short) }

  pub height_is : height s ≡ suc (max (height top_open.left) (height top_open.right))
  height_is = ap height top_open.is

  top_height : (cell t top).height ≡ height s
  top_height = ap (λ (i : ℕ). (cell t i).height) is.top_is ∙ held-height t s is.holds

  pub left_lower : (cell t x.left).height < (cell t top).height
  left_lower =
      let l : (cell t x.left).height ≡ height top_open.left = ap (λ (i : ℕ). (cell t i).height) top_open.left_is ∙ held-height t top_open.left left_tree.holds in
      omega (arith, top_height, height_is)

  pub right_lower : (cell t x.right).height < (cell t top).height
  right_lower =
      let r : (cell t x.right).height ≡ height top_open.right = ap (λ (i : ℕ). (cell t i).height) top_open.right_is ∙ held-height t top_open.right right_tree.holds in
      omega (arith, top_height, height_is)

  pub two : AreTwo t x.left x.right top_open.left top_open.right
  two = record { left_is = left_tree; right_is = right_tree; apart = λ k. omega (arith, whole.apart k) }

  -- one side was changed
  pub left_changed : (u : List Node) (l : Tree) (m : ℕ) → Became t u l → m ≡ index l → ((k : ℕ) → same k top + uses k l + uses k top_open.right ≤ 1) → height l ≤ 41 → AreSides u top (block_of x) m x.right l top_open.right
  left_changed u l m b ms apart short = record {
    left_is = ms;
    right_is = top_open.right_is;
    left_holds = b.holds;
    right_holds = held-beside t u l top_open.right b (λ k. omega (arith, apart k)) right_tree.holds;
    apart = apart;
    some = held-some t top_open.left top (block_of x) top_open.right whole.holds;
    within = omega (arith, b.size, whole.holds.0);
    low = whole.holds.2;
    left_short = short;
    right_short = omega (arith, whole.short);
  }

  pub right_changed : (u : List Node) (r : Tree) (m : ℕ) → Became t u r → m ≡ index r → ((k : ℕ) → same k top + uses k top_open.left + uses k r ≤ 1) → height r ≤ 41 → AreSides u top (block_of x) x.left m top_open.left r
  right_changed u r m b ms apart short = record {
    left_is = top_open.left_is;
    right_is = ms;
    left_holds = held-beside t u r top_open.left b (λ k. omega (arith, apart k)) left_tree.holds;
    right_holds = b.holds;
    apart = apart;
    some = held-some t top_open.left top (block_of x) top_open.right whole.holds;
    within = omega (arith, b.size, whole.holds.0);
    low = whole.holds.2;
    left_short = omega (arith, whole.short);
    right_short = short;
  }

  -- ---- what is found

  pub found_left : (at : ℕ) → at < x.at → found at s ≡ found at top_open.left
  unfolding found
  found_left at lt = let e : ltb at x.at ≡ true = grind (arith, nat_tests) in ap (found at) top_open.is ∙ rw e refl

  pub found_right : (at : ℕ) → x.at < at → found at s ≡ found at top_open.right
  unfolding found
  found_right at lt =
      let d : ltb at x.at ≡ false = grind (arith, nat_tests) in
      let e : ltb x.at at ≡ true = grind (arith, nat_tests) in
      ap (found at) top_open.is ∙ rw (d, e) refl

  pub found_here : (at : ℕ) → x.at ≤ at → at ≤ x.at → found at s ≡ Some (block_of x)
  unfolding found
  found_here at le ge =
      let d : ltb at x.at ≡ false = grind (arith, nat_tests) in
      let e : ltb x.at at ≡ false = grind (arith, nat_tests) in
      ap (found at) top_open.is ∙ rw (d, e) refl

  pub last_left : (at : ℕ) → at < x.at → last_to at s ≡ last_to at top_open.left
  unfolding last_to
  last_left at lt = let e : ltb at x.at ≡ true = grind (arith, nat_tests) in ap (last_to at) top_open.is ∙ rw e refl

  pub last_right : (at : ℕ) → x.at ≤ at → last_to at s ≡ option_or (last_to at top_open.right) (Some (block_of x))
  unfolding last_to
  last_right at le = let e : ltb at x.at ≡ false = grind (arith, nat_tests) in ap (last_to at) top_open.is ∙ rw e refl

  pub first_right : (at : ℕ) → x.at < at → first_from at s ≡ first_from at top_open.right
  unfolding first_from
  first_right at lt = let e : ltb x.at at ≡ true = grind (arith, nat_tests) in ap (first_from at) top_open.is ∙ rw e refl

  pub first_left : (at : ℕ) → at ≤ x.at → first_from at s ≡ option_or (first_from at top_open.left) (Some (block_of x))
  unfolding first_from
  first_left at le = let e : ltb x.at at ≡ false = grind (arith, nat_tests) in ap (first_from at) top_open.is ∙ rw e refl

  pub room_of_left : (y : Node) → y ≡ cell t x.left → y ≡ node top_open.left
  room_of_left y ys = ys ∙ ap (cell t) top_open.left_is ∙ held-cell t top_open.left left_tree.holds

  pub gap_in_left : (y : Node) (from until n : ℕ) → y ≡ cell t x.left → 0 < n → has_room y from x.at n ≡ true → first_gap from (blocks s) until n ≡ first_gap from (blocks top_open.left) x.at n
  gap_in_left y from until n ys n_some room =
      ap (λ w. first_gap from (blocks w) until n) top_open.is ∙ gap_left top_open.left (block_of x) top_open.right from until n n_some (ap (λ (y : Node). has_room y from x.at n) (sym (room_of_left y ys)) ∙ room)

  pub gap_in_right : (y : Node) (from until n : ℕ) → y ≡ cell t x.left → 0 < n → has_room y from x.at n ≡ false → first_gap from (blocks s) until n ≡ first_gap (round_up (x.at + x.size)) (blocks top_open.right) until n
  gap_in_right y from until n ys n_some room =
      ap (λ w. first_gap from (blocks w) until n) top_open.is ∙ gap_right top_open.left (block_of x) top_open.right from until n n_some (ap (λ (y : Node). has_room y from x.at n) (sym (room_of_left y ys)) ∙ room)

pub found-leaf : (at : ℕ) → found at Leaf ≡ None
unfolding found
found-leaf at = refl

pub last-leaf : (at : ℕ) → last_to at Leaf ≡ None
unfolding last_to
last-leaf at = refl

pub first-leaf : (at : ℕ) → first_from at Leaf ≡ None
unfolding first_from
first-leaf at = refl

pub option_map-or : {A B : Type 0} (f : A → B) (o : Option A) (y : A) → option_map f (option_or o (Some y)) ≡ option_or (option_map f o) (Some (f y))
option_map-or f None y = refl
option_map-or f (Some x) y = refl
