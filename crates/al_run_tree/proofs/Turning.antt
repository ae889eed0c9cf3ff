-- The turns that a table makes, step by step.
use Rattle.std.proofs.Common.{◌≡◌, ℕ, suc, ◌+◌, ◌<◌, ◌≤◌, true, false, leb, ltb, List, length, refl, sym, ap, subst, ◌∙◌, arith}
use Rattle.std.proofs.lemmas.Bool.Decides.{nat_tests}
use Rattle.al_event.specs.Store.{Span}
use Rattle.al_run_tree.specs.declared.node.Node.{Node}
use Rattle.al_run_tree.specs.Tree.{Tree, Branch, height}
use Rattle.al_run_tree.specs.Balance.{twice_right, turned_right, twice_left, turned_left, balanced}
use Rattle.al_run_tree.specs.Table.{block_of, cell, AreSides, HasSides, Became, IsNow}
use Rattle.al_run_tree.proofs.Held.{held-within, held-height}
use Rattle.al_run_tree.proofs.Joins.{IsOpen, opened, high_some, became_trans, single_right-first, single_right-second, double_right-first, double_right-second, double_right-third, single_left-first, single_left-second, double_left-first, double_left-second, double_left-third}

pub left-height : (t : List Node) (j : ℕ) (b : Span) (left right : ℕ) (l r : Tree) → AreSides t j b left right l r → (cell t left).height ≡ height l
left-height t j b left right l r s = ap (λ (i : ℕ). (cell t i).height) s.left_is ∙ held-height t l s.left_holds

pub right-height : (t : List Node) (j : ℕ) (b : Span) (left right : ℕ) (l r : Tree) → AreSides t j b left right l r → (cell t right).height ≡ height r
right-height t j b left right l r s = ap (λ (i : ℕ). (cell t i).height) s.right_is ∙ held-height t r s.right_holds

pub balanced-right : (l : Tree) (j : ℕ) (b : Span) (r : Tree) → suc (height r) < height l → balanced l j b r ≡ turned_right l j b r
unfolding balanced
balanced-right l j b r h = let e : ltb (suc (height r)) (height l) ≡ true = grind (arith, nat_tests) in rw e refl

pub balanced-left : (l : Tree) (j : ℕ) (b : Span) (r : Tree) → suc (height l) < height r → balanced l j b r ≡ turned_left l j b r
unfolding balanced
balanced-left l j b r h =
    let d : ltb (suc (height r)) (height l) ≡ false = grind (arith, nat_tests) in
    let e : ltb (suc (height l)) (height r) ≡ true = grind (arith, nat_tests) in
    rw (d, e) refl

pub balanced-even : (l : Tree) (j : ℕ) (b : Span) (r : Tree) → height l ≤ suc (height r) → height r ≤ suc (height l) → balanced l j b r ≡ Branch l j b r
unfolding balanced
balanced-even l j b r le ge =
    let d : ltb (suc (height r)) (height l) ≡ false = grind (arith, nat_tests) in
    let e : ltb (suc (height l)) (height r) ≡ false = grind (arith, nat_tests) in
    rw (d, e) refl

right-single : (ll : Tree) (i : ℕ) (c : Span) (lr : Tree) (j : ℕ) (b : Span) (r : Tree) → height lr ≤ height ll → turned_right (Branch ll i c lr) j b r ≡ Branch ll i c (Branch lr j b r)
unfolding turned_right
right-single ll i c lr j b r h = let e : leb (height lr) (height ll) ≡ true = grind (arith, nat_tests) in rw e refl

right-double : (ll : Tree) (i : ℕ) (c : Span) (x : Tree) (k : ℕ) (d : Span) (y : Tree) (j : ℕ) (b : Span) (r : Tree) → height ll < height (Branch x k d y) → turned_right (Branch ll i c (Branch x k d y)) j b r ≡ Branch (Branch ll i c x) k d (Branch y j b r)
unfolding turned_right twice_right
right-double ll i c x k d y j b r h = let e : leb (height (Branch x k d y)) (height ll) ≡ false = grind (arith, nat_tests) in rw e refl

left-single : (l : Tree) (j : ℕ) (b : Span) (rl : Tree) (i : ℕ) (c : Span) (rr : Tree) → height rl ≤ height rr → turned_left l j b (Branch rl i c rr) ≡ Branch (Branch l j b rl) i c rr
unfolding turned_left
left-single l j b rl i c rr h = let e : leb (height rl) (height rr) ≡ true = grind (arith, nat_tests) in rw e refl

left-double : (l : Tree) (j : ℕ) (b : Span) (x : Tree) (k : ℕ) (d : Span) (y : Tree) (i : ℕ) (c : Span) (rr : Tree) → height rr < height (Branch x k d y) → turned_left l j b (Branch (Branch x k d y) i c rr) ≡ Branch (Branch l j b x) k d (Branch y i c rr)
unfolding turned_left twice_left
left-double l j b x k d y i c rr h = let e : leb (height (Branch x k d y)) (height rr) ≡ false = grind (arith, nat_tests) in rw e refl

-- ---- to the right

module _ (t : List Node) (j : ℕ) (b : Span) (left right : ℕ) (l r : Tree) (s : AreSides t j b left right l r) (leans : height r + 2 ≤ height l) (x : Node) (read : x ≡ cell t left) (e : Span) (block : e ≡ block_of x) where
  open_right : IsOpen l left x e
  open_right = opened t l left x e s.left_holds s.left_is (high_some l (omega arith)) read block

  sides_right : AreSides t j b left right (Branch open_right.left left e open_right.right) r
  sides_right = subst (λ l. AreSides t j b left right l r) open_right.is s

  leans_right : height r + 2 ≤ height (Branch open_right.left left e open_right.right)
  leans_right = subst (λ l. height r + 2 ≤ height l) open_right.is leans

  inner_right : (cell t x.right).height ≡ height open_right.right
  inner_right = ap (λ (i : ℕ). (cell t i).height) open_right.right_is ∙ held-height t open_right.right sides_right.left_holds.4

  outer_right : (cell t x.left).height ≡ height open_right.left
  outer_right = ap (λ (i : ℕ). (cell t i).height) open_right.left_is ∙ held-height t open_right.left sides_right.left_holds.3

  pub child-outer_right : x.left < length t
  child-outer_right = rw open_right.left_is (held-within t open_right.left sides_right.left_holds.3)

  pub child-inner_right : x.right < length t
  child-inner_right = rw open_right.right_is (held-within t open_right.right sides_right.left_holds.4)

  single_right-zero : AreSides t j b x.right right open_right.right r
  single_right-zero = single_right-first t j b left right open_right.left left e open_right.right r x.right sides_right open_right.right_is

  pub single_right-a : HasSides t j b x.right right
  single_right-a = record { l = open_right.right; r = r; are = single_right-zero }

  single_right-one : (u : List Node) → ((p q : Tree) → AreSides t j b x.right right p q → Became t u (Branch p j b q)) → Became t u (Branch open_right.right j b r)
  single_right-one u first = first open_right.right r single_right-zero

  single_right-two : (u : List Node) → ((p q : Tree) → AreSides t j b x.right right p q → Became t u (Branch p j b q)) → AreSides u left e x.left j open_right.left (Branch open_right.right j b r)
  single_right-two u first = single_right-second t u j b left right open_right.left left e open_right.right r x.left sides_right leans_right (single_right-one u first) open_right.left_is

  pub single_right-b : (u : List Node) → ((p q : Tree) → AreSides t j b x.right right p q → Became t u (Branch p j b q)) → HasSides u left e x.left j
  single_right-b u first = record { l = open_right.left; r = Branch open_right.right j b r; are = single_right-two u first }

  pub single_right-c : (u v : List Node) → ((p q : Tree) → AreSides t j b x.right right p q → Became t u (Branch p j b q)) → ((p q : Tree) → AreSides u left e x.left j p q → Became u v (Branch p left e q)) → (cell t x.right).height ≤ (cell t x.left).height → IsNow t v left (turned_right l j b r)
  single_right-c u v first second test =
      let le : height open_right.right ≤ height open_right.left = omega (arith, inner_right, outer_right) in
      let became = became_trans t u v (Branch open_right.right j b r) (Branch open_right.left left e (Branch open_right.right j b r)) (single_right-one u first) (second open_right.left (Branch open_right.right j b r) (single_right-two u first)) (λ k. omega arith) in
      let now : IsNow t v left (Branch open_right.left left e (Branch open_right.right j b r)) = record { became = became; top_is = refl } in
      subst (λ w. IsNow t v left w) (sym (right-single open_right.left left e open_right.right j b r le) ∙ ap (λ l. turned_right l j b r) (sym open_right.is)) now

  module _ (test : (cell t x.left).height < (cell t x.right).height) (y : Node) (read2 : y ≡ cell t x.right) (f : Span) (block2 : f ≡ block_of y) where
    middle_right : IsOpen open_right.right x.right y f
    middle_right = opened t open_right.right x.right y f sides_right.left_holds.4 open_right.right_is (high_some open_right.right (omega (arith, inner_right))) read2 block2

    whole_right : AreSides t j b left right (Branch open_right.left left e (Branch middle_right.left x.right f middle_right.right)) r
    whole_right = subst (λ w. AreSides t j b left right (Branch open_right.left left e w) r) middle_right.is sides_right

    tall_right : height r + 2 ≤ height (Branch open_right.left left e (Branch middle_right.left x.right f middle_right.right))
    tall_right = subst (λ w. height r + 2 ≤ height (Branch open_right.left left e w)) middle_right.is leans_right

    double_right-one : AreSides t left e x.left y.left open_right.left middle_right.left
    double_right-one = double_right-first t j b left right open_right.left left e middle_right.left x.right f middle_right.right r x.left y.left whole_right open_right.left_is middle_right.left_is

    pub double_right-a : HasSides t left e x.left y.left
    double_right-a = record { l = open_right.left; r = middle_right.left; are = double_right-one }

    module _ (u : List Node) (first : (p q : Tree) → AreSides t left e x.left y.left p q → Became t u (Branch p left e q)) where
      double_right-two : AreSides u j b y.right right middle_right.right r
      double_right-two = double_right-second t u j b left right open_right.left left e middle_right.left x.right f middle_right.right r y.right whole_right (first open_right.left middle_right.left double_right-one) middle_right.right_is

      pub double_right-b : HasSides u j b y.right right
      double_right-b = record { l = middle_right.right; r = r; are = double_right-two }

      module _ (v : List Node) (second : (p q : Tree) → AreSides u j b y.right right p q → Became u v (Branch p j b q)) where
        double_right-three : AreSides v x.right f left j (Branch open_right.left left e middle_right.left) (Branch middle_right.right j b r)
        double_right-three = double_right-third t u v j b left right open_right.left left e middle_right.left x.right f middle_right.right r whole_right tall_right (first open_right.left middle_right.left double_right-one) (second middle_right.right r double_right-two)

        pub double_right-c : HasSides v x.right f left j
        double_right-c = record { l = Branch open_right.left left e middle_right.left; r = Branch middle_right.right j b r; are = double_right-three }

        pub double_right-d : (w : List Node) → ((p q : Tree) → AreSides v x.right f left j p q → Became v w (Branch p x.right f q)) → IsNow t w x.right (turned_right l j b r)
        double_right-d w third =
            let lt : height open_right.left < height (Branch middle_right.left x.right f middle_right.right) = subst (λ m. height open_right.left < height m) middle_right.is (omega (arith, inner_right, outer_right)) in
            let done : Tree = Branch (Branch open_right.left left e middle_right.left) x.right f (Branch middle_right.right j b r) in
            let one = first open_right.left middle_right.left double_right-one in
            let two = second middle_right.right r double_right-two in
            let three = third (Branch open_right.left left e middle_right.left) (Branch middle_right.right j b r) double_right-three in
            let last = became_trans u v w (Branch middle_right.right j b r) done two three (λ k. omega arith) in
            let became : Became t w done = became_trans t u w (Branch open_right.left left e middle_right.left) done one last (λ k. omega arith) in
            let now : IsNow t w x.right done = record { became = became; top_is = refl } in
            subst (λ z. IsNow t w x.right z) (sym (right-double open_right.left left e middle_right.left x.right f middle_right.right j b r lt) ∙ ap (λ m. turned_right (Branch open_right.left left e m) j b r) (sym middle_right.is) ∙ ap (λ l. turned_right l j b r) (sym open_right.is)) now

-- ---- to the left

module _ (t : List Node) (j : ℕ) (b : Span) (left right : ℕ) (l r : Tree) (s : AreSides t j b left right l r) (leans : height l + 2 ≤ height r) (x : Node) (read : x ≡ cell t right) (e : Span) (block : e ≡ block_of x) where
  open_left : IsOpen r right x e
  open_left = opened t r right x e s.right_holds s.right_is (high_some r (omega arith)) read block

  sides_left : AreSides t j b left right l (Branch open_left.left right e open_left.right)
  sides_left = subst (λ r. AreSides t j b left right l r) open_left.is s

  leans_left : height l + 2 ≤ height (Branch open_left.left right e open_left.right)
  leans_left = subst (λ r. height l + 2 ≤ height r) open_left.is leans

  inner_left : (cell t x.left).height ≡ height open_left.left
  inner_left = ap (λ (i : ℕ). (cell t i).height) open_left.left_is ∙ held-height t open_left.left sides_left.right_holds.3

  outer_left : (cell t x.right).height ≡ height open_left.right
  outer_left = ap (λ (i : ℕ). (cell t i).height) open_left.right_is ∙ held-height t open_left.right sides_left.right_holds.4

  pub child-outer_left : x.right < length t
  child-outer_left = rw open_left.right_is (held-within t open_left.right sides_left.right_holds.4)

  pub child-inner_left : x.left < length t
  child-inner_left = rw open_left.left_is (held-within t open_left.left sides_left.right_holds.3)

  single_left-zero : AreSides t j b left x.left l open_left.left
  single_left-zero = single_left-first t j b left right l open_left.left right e open_left.right x.left sides_left open_left.left_is

  pub single_left-a : HasSides t j b left x.left
  single_left-a = record { l = l; r = open_left.left; are = single_left-zero }

  single_left-one : (u : List Node) → ((p q : Tree) → AreSides t j b left x.left p q → Became t u (Branch p j b q)) → Became t u (Branch l j b open_left.left)
  single_left-one u first = first l open_left.left single_left-zero

  single_left-two : (u : List Node) → ((p q : Tree) → AreSides t j b left x.left p q → Became t u (Branch p j b q)) → AreSides u right e j x.right (Branch l j b open_left.left) open_left.right
  single_left-two u first = single_left-second t u j b left right l open_left.left right e open_left.right x.right sides_left leans_left (single_left-one u first) open_left.right_is

  pub single_left-b : (u : List Node) → ((p q : Tree) → AreSides t j b left x.left p q → Became t u (Branch p j b q)) → HasSides u right e j x.right
  single_left-b u first = record { l = Branch l j b open_left.left; r = open_left.right; are = single_left-two u first }

  pub single_left-c : (u v : List Node) → ((p q : Tree) → AreSides t j b left x.left p q → Became t u (Branch p j b q)) → ((p q : Tree) → AreSides u right e j x.right p q → Became u v (Branch p right e q)) → (cell t x.left).height ≤ (cell t x.right).height → IsNow t v right (turned_left l j b r)
  single_left-c u v first second test =
      let le : height open_left.left ≤ height open_left.right = omega (arith, inner_left, outer_left) in
      let became = became_trans t u v (Branch l j b open_left.left) (Branch (Branch l j b open_left.left) right e open_left.right) (single_left-one u first) (second (Branch l j b open_left.left) open_left.right (single_left-two u first)) (λ k. omega arith) in
      let now : IsNow t v right (Branch (Branch l j b open_left.left) right e open_left.right) = record { became = became; top_is = refl } in
      subst (λ w. IsNow t v right w) (sym (left-single l j b open_left.left right e open_left.right le) ∙ ap (λ r. turned_left l j b r) (sym open_left.is)) now

  module _ (test : (cell t x.right).height < (cell t x.left).height) (y : Node) (read2 : y ≡ cell t x.left) (f : Span) (block2 : f ≡ block_of y) where
    middle_left : IsOpen open_left.left x.left y f
    middle_left = opened t open_left.left x.left y f sides_left.right_holds.3 open_left.left_is (high_some open_left.left (omega (arith, inner_left))) read2 block2

    whole_left : AreSides t j b left right l (Branch (Branch middle_left.left x.left f middle_left.right) right e open_left.right)
    whole_left = subst (λ w. AreSides t j b left right l (Branch w right e open_left.right)) middle_left.is sides_left

    tall_left : height l + 2 ≤ height (Branch (Branch middle_left.left x.left f middle_left.right) right e open_left.right)
    tall_left = subst (λ w. height l + 2 ≤ height (Branch w right e open_left.right)) middle_left.is leans_left

    double_left-one : AreSides t j b left y.left l middle_left.left
    double_left-one = double_left-first t j b left right l middle_left.left x.left f middle_left.right right e open_left.right y.left whole_left middle_left.left_is

    pub double_left-a : HasSides t j b left y.left
    double_left-a = record { l = l; r = middle_left.left; are = double_left-one }

    module _ (u : List Node) (first : (p q : Tree) → AreSides t j b left y.left p q → Became t u (Branch p j b q)) where
      double_left-two : AreSides u right e y.right x.right middle_left.right open_left.right
      double_left-two = double_left-second t u j b left right l middle_left.left x.left f middle_left.right right e open_left.right y.right x.right whole_left (first l middle_left.left double_left-one) middle_left.right_is open_left.right_is

      pub double_left-b : HasSides u right e y.right x.right
      double_left-b = record { l = middle_left.right; r = open_left.right; are = double_left-two }

      module _ (v : List Node) (second : (p q : Tree) → AreSides u right e y.right x.right p q → Became u v (Branch p right e q)) where
        double_left-three : AreSides v x.left f j right (Branch l j b middle_left.left) (Branch middle_left.right right e open_left.right)
        double_left-three = double_left-third t u v j b left right l middle_left.left x.left f middle_left.right right e open_left.right whole_left tall_left (first l middle_left.left double_left-one) (second middle_left.right open_left.right double_left-two)

        pub double_left-c : HasSides v x.left f j right
        double_left-c = record { l = Branch l j b middle_left.left; r = Branch middle_left.right right e open_left.right; are = double_left-three }

        pub double_left-d : (w : List Node) → ((p q : Tree) → AreSides v x.left f j right p q → Became v w (Branch p x.left f q)) → IsNow t w x.left (turned_left l j b r)
        double_left-d w third =
            let lt : height open_left.right < height (Branch middle_left.left x.left f middle_left.right) = subst (λ m. height open_left.right < height m) middle_left.is (omega (arith, inner_left, outer_left)) in
            let done : Tree = Branch (Branch l j b middle_left.left) x.left f (Branch middle_left.right right e open_left.right) in
            let one = first l middle_left.left double_left-one in
            let two = second middle_left.right open_left.right double_left-two in
            let three = third (Branch l j b middle_left.left) (Branch middle_left.right right e open_left.right) double_left-three in
            let last = became_trans u v w (Branch middle_left.right right e open_left.right) done two three (λ k. omega arith) in
            let became : Became t w done = became_trans t u w (Branch l j b middle_left.left) done one last (λ k. omega arith) in
            let now : IsNow t w x.left done = record { became = became; top_is = refl } in
            subst (λ z. IsNow t w x.left z) (sym (left-double l j b middle_left.left x.left f middle_left.right right e open_left.right lt) ∙ ap (λ m. turned_left l j b (Branch m right e open_left.right)) (sym middle_left.is) ∙ ap (λ r. turned_left l j b r) (sym open_left.is)) now
