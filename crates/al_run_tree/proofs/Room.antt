-- The runs of a tree, as its top node tells of them.
use Rattle.std.proofs.Common.{◌≡◌, ℕ, suc, ◌+◌, ◌-◌, ◌<◌, Bool, true, false, cond, ◌||◌, eqb, leb, max, Option, Some, None, List, [], ◌∷◌, ◌++◌, refl, ap, ◌∙◌, arith}
use Rattle.std.specs.Option.{is_some, option_or}
use Rattle.std.proofs.lemmas.Bool.Decides.{nat_tests}
use Rattle.al_event.specs.Store.{Span}
use Rattle.al_run_tree.specs.Tree.{Tree, Leaf, Branch, blocks, height}
use Rattle.al_run_tree.specs.Runs.{round_up, first_gap, node, has_room}

pub height-node : (t : Tree) → (node t).height ≡ height t
height-node Leaf = refl
height-node (Branch l j b r) = rw (height-node l, height-node r) refl

gap-append : (xs : List Span) (b : Span) (ys : List Span) (from until n : ℕ) → first_gap from (xs ++ b ∷ ys) until n ≡ option_or (first_gap from xs b.at n) (first_gap (round_up (b.at + b.size)) ys until n)
gap-append [] b ys from until n = on (leb (from + n) b.at)
  where
    on : (t : Bool) → cond t (Some from) (first_gap (round_up (b.at + b.size)) ys until n) ≡ option_or (cond t (Some from) None) (first_gap (round_up (b.at + b.size)) ys until n)
    on true = refl
    on false = refl
gap-append (x ∷ xs) b ys from until n = on (leb (from + n) x.at) (gap-append xs b ys (round_up (x.at + x.size)) until n)
  where
    on : (t : Bool) → first_gap (round_up (x.at + x.size)) (xs ++ b ∷ ys) until n ≡ option_or (first_gap (round_up (x.at + x.size)) xs b.at n) (first_gap (round_up (b.at + b.size)) ys until n) → cond t (Some from) (first_gap (round_up (x.at + x.size)) (xs ++ b ∷ ys) until n) ≡ option_or (cond t (Some from) (first_gap (round_up (x.at + x.size)) xs b.at n)) (first_gap (round_up (b.at + b.size)) ys until n)
    on true rec = refl
    on false rec = rec

either : {A : Type 0} (a b : Option A) → is_some (option_or a b) ≡ (is_some a || is_some b)
either None b = refl
either (Some x) b = refl

or_max : (n p q : ℕ) → leb n (max p q) ≡ (leb n p || leb n q)
or_max n p q = grind (arith, nat_tests)

or_gap : (n x e : ℕ) → 0 < n → leb n (x - e) ≡ leb (e + n) x
or_gap n x e some = grind (arith, nat_tests)

no_room : (n : ℕ) → 0 < n → leb n 0 ≡ false
no_room n some = grind (arith, nat_tests)

high : (m : ℕ) → eqb (suc m) 0 ≡ false
high m = grind (arith, nat_tests)

or_false : (a : Bool) → (a || false) ≡ a
or_false true = refl
or_false false = refl

or_assoc : (a b c : Bool) → ((a || b) || c) ≡ (a || (b || c))
or_assoc true b c = refl
or_assoc false b c = refl

-- the tests of two sides are the test of the whole
joined : (l r : Tree) (b : Span) (j from until n : ℕ) → 0 < n → (has_room (node l) from b.at n || has_room (node r) (round_up (b.at + b.size)) until n) ≡ has_room (node (Branch l j b r)) from until n
joined l r b j from until n some =
    let gap : (x e : ℕ) → leb n (x - e) ≡ leb (e + n) x = λ x e. or_gap n x e some in
    let none : leb n 0 ≡ false = no_room n some in
    on l r gap none
  where
    on : (l r : Tree) → ((x e : ℕ) → leb n (x - e) ≡ leb (e + n) x) → leb n 0 ≡ false → (has_room (node l) from b.at n || has_room (node r) (round_up (b.at + b.size)) until n) ≡ has_room (node (Branch l j b r)) from until n
    on Leaf Leaf gap none = simp (or_max, none) (sides (leb (from + n) b.at) (leb (round_up (b.at + b.size) + n) until))
      where
        sides : (a f : Bool) → (a || f) ≡ (a || false || f)
        sides true f = refl
        sides false f = refl
    on Leaf (Branch x k d y) gap none = simp (high, or_max, none, gap) (simp (or_assoc, or_false))
    on (Branch u i c v) Leaf gap none = simp (high, or_max, none, gap) (simp (or_assoc, or_false))
    on (Branch u i c v) (Branch x k d y) gap none = simp (high, or_max, gap) (simp or_assoc)

pub room : (t : Tree) (from until n : ℕ) → 0 < n → is_some (first_gap from (blocks t) until n) ≡ has_room (node t) from until n
room Leaf from until n some = on (leb (from + n) until)
  where
    on : (t : Bool) → is_some (cond t (Some from) None) ≡ t
    on true = refl
    on false = refl
room (Branch l j b r) from until n some =
    ap is_some (gap-append (blocks l) b (blocks r) from until n) ∙ either (first_gap from (blocks l) b.at n) (first_gap (round_up (b.at + b.size)) (blocks r) until n)
    ∙ rw (room l from b.at n some, room r (round_up (b.at + b.size)) until n some) (joined l r b j from until n some)

-- where the left side has room, its first run is the first of all; else it is the first on the right
pub gap_left : (l : Tree) (b : Span) (r : Tree) (from until n : ℕ) → 0 < n → has_room (node l) from b.at n ≡ true → first_gap from (blocks l ++ b ∷ blocks r) until n ≡ first_gap from (blocks l) b.at n
gap_left l b r from until n some h = gap-append (blocks l) b (blocks r) from until n ∙ on (first_gap from (blocks l) b.at n) (room l from b.at n some ∙ h)
  where
    on : (o : Option ℕ) → is_some o ≡ true → option_or o (first_gap (round_up (b.at + b.size)) (blocks r) until n) ≡ o
    on None h = absurd (cc)
    on (Some x) h = refl

pub gap_right : (l : Tree) (b : Span) (r : Tree) (from until n : ℕ) → 0 < n → has_room (node l) from b.at n ≡ false → first_gap from (blocks l ++ b ∷ blocks r) until n ≡ first_gap (round_up (b.at + b.size)) (blocks r) until n
gap_right l b r from until n some h = gap-append (blocks l) b (blocks r) from until n ∙ on (first_gap from (blocks l) b.at n) (room l from b.at n some ∙ h)
  where
    on : (o : Option ℕ) → is_some o ≡ false → option_or o (first_gap (round_up (b.at + b.size)) (blocks r) until n) ≡ first_gap (round_up (b.at + b.size)) (blocks r) until n
    on None h = refl
    on (Some x) h = absurd (cc)
