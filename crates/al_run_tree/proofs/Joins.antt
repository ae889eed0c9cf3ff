-- Trees that are joined and turned in a table.
use Rattle.std.proofs.Common.{◌≡◌, ℕ, ◌+◌, ◌<◌, ◌≤◌, false, List, refl, sym, ap, ap₂, ◌∙◌, arith}
use Rattle.al_event.specs.Store.{Span}
use Rattle.al_run_tree.specs.declared.node.Node.{Node}
use Rattle.al_run_tree.specs.Tree.{Tree, Leaf, Branch, is_leaf, height, index, same, uses}
use Rattle.al_run_tree.specs.Runs.{node}
use Rattle.al_run_tree.specs.Table.{block_of, cell, Holds, AreSides, Became}
use Rattle.al_run_tree.proofs.Held.{held-some, held-beside}

-- a tree of which the top node was read
pub record IsOpen (s : Tree) (p : ℕ) (x : Node) (e : Span) : Type 0 where
  pub left : Tree
  pub right : Tree
  pub is : s ≡ Branch left p e right
  pub left_is : x.left ≡ index left
  pub right_is : x.right ≡ index right

pub opened : (t : List Node) (s : Tree) (p : ℕ) (x : Node) (e : Span) → Holds t s → p ≡ index s → is_leaf s ≡ false → x ≡ cell t p → e ≡ block_of x → IsOpen s p x e
opened t Leaf p x e h at some read block = absurd (cc)
opened t (Branch l j b r) p x e h at some read block =
    let told : x ≡ node (Branch l j b r) = read ∙ ap (cell t) at ∙ h.1 in
    let same : e ≡ b = block ∙ ap block_of told in
    record { left = l; right = r; is = ap₂ (λ j b. Branch l j b r) (sym at) (sym same); left_is = ap (λ (x : Node). x.left) told; right_is = ap (λ (x : Node). x.right) told }

pub high_some : (s : Tree) → 0 < height s → is_leaf s ≡ false
high_some Leaf h = absurd (omega arith)
high_some (Branch l j b r) h = refl

-- one change after another
pub became_trans : (t u v : List Node) (s w : Tree) → Became t u s → Became u v w → ((k : ℕ) → uses k s ≤ uses k w) → Became t v w
became_trans t u v s w first then within = record {
  holds = then.holds;
  others = λ k none. then.others k none ∙ first.others k (omega (arith, within k));
  size = then.size ∙ first.size;
}

-- ---- a turn to the right

pub single_right-first : (t : List Node) (j : ℕ) (b : Span) (left right : ℕ) (ll : Tree) (i : ℕ) (e : Span) (lr r : Tree) (m : ℕ) → AreSides t j b left right (Branch ll i e lr) r → m ≡ index lr → AreSides t j b m right lr r
single_right-first t j b left right ll i e lr r m s is = record {
  left_is = is;
  right_is = s.right_is;
  left_holds = s.left_holds.4;
  right_holds = s.right_holds;
  apart = λ k. omega (arith, s.apart k);
  some = s.some;
  within = s.within;
  low = s.low;
  left_short = omega (arith, s.left_short);
  right_short = s.right_short;
}

pub single_right-second : (t u : List Node) (j : ℕ) (b : Span) (left right : ℕ) (ll : Tree) (i : ℕ) (e : Span) (lr r : Tree) (m : ℕ) → AreSides t j b left right (Branch ll i e lr) r → height r + 2 ≤ height (Branch ll i e lr) → Became t u (Branch lr j b r) → m ≡ index ll → AreSides u i e m j ll (Branch lr j b r)
single_right-second t u j b left right ll i e lr r m s leans first is = record {
  left_is = is;
  right_is = refl;
  left_holds = held-beside t u (Branch lr j b r) ll first (λ k. omega (arith, s.apart k)) s.left_holds.3;
  right_holds = first.holds;
  apart = λ k. omega (arith, s.apart k);
  some = held-some t ll i e lr s.left_holds;
  within = omega (arith, first.size, s.left_holds.0);
  low = s.left_holds.2;
  left_short = omega (arith, s.left_short);
  right_short = omega (arith, s.left_short);
}

pub double_right-first : (t : List Node) (j : ℕ) (b : Span) (left right : ℕ) (ll : Tree) (i : ℕ) (e : Span) (x : Tree) (k : ℕ) (d : Span) (y r : Tree) (m n : ℕ) → AreSides t j b left right (Branch ll i e (Branch x k d y)) r → m ≡ index ll → n ≡ index x → AreSides t i e m n ll x
double_right-first t j b left right ll i e x k d y r m n s ms ns = record {
  left_is = ms;
  right_is = ns;
  left_holds = s.left_holds.3;
  right_holds = s.left_holds.4.3;
  apart = λ q. omega (arith, s.apart q);
  some = held-some t ll i e (Branch x k d y) s.left_holds;
  within = s.left_holds.0;
  low = s.left_holds.2;
  left_short = omega (arith, s.left_short);
  right_short = omega (arith, s.left_short);
}

pub double_right-second : (t u : List Node) (j : ℕ) (b : Span) (left right : ℕ) (ll : Tree) (i : ℕ) (e : Span) (x : Tree) (k : ℕ) (d : Span) (y r : Tree) (m : ℕ) → AreSides t j b left right (Branch ll i e (Branch x k d y)) r → Became t u (Branch ll i e x) → m ≡ index y → AreSides u j b m right y r
double_right-second t u j b left right ll i e x k d y r m s first ms = record {
  left_is = ms;
  right_is = s.right_is;
  left_holds = held-beside t u (Branch ll i e x) y first (λ q. omega (arith, s.apart q)) s.left_holds.4.4;
  right_holds = held-beside t u (Branch ll i e x) r first (λ q. omega (arith, s.apart q)) s.right_holds;
  apart = λ q. omega (arith, s.apart q);
  some = s.some;
  within = omega (arith, first.size, s.within);
  low = s.low;
  left_short = omega (arith, s.left_short);
  right_short = s.right_short;
}

pub double_right-third : (t u v : List Node) (j : ℕ) (b : Span) (left right : ℕ) (ll : Tree) (i : ℕ) (e : Span) (x : Tree) (k : ℕ) (d : Span) (y r : Tree) → AreSides t j b left right (Branch ll i e (Branch x k d y)) r → height r + 2 ≤ height (Branch ll i e (Branch x k d y)) → Became t u (Branch ll i e x) → Became u v (Branch y j b r) → AreSides v k d i j (Branch ll i e x) (Branch y j b r)
double_right-third t u v j b left right ll i e x k d y r s leans first second = record {
  left_is = refl;
  right_is = refl;
  left_holds = held-beside u v (Branch y j b r) (Branch ll i e x) second (λ q. omega (arith, s.apart q)) first.holds;
  right_holds = second.holds;
  apart = λ q. omega (arith, s.apart q);
  some = held-some t x k d y s.left_holds.4;
  within = omega (arith, first.size, second.size, s.left_holds.4.0);
  low = s.left_holds.4.2;
  left_short = omega (arith, s.left_short);
  right_short = omega (arith, s.left_short);
}

-- ---- a turn to the left

pub single_left-first : (t : List Node) (j : ℕ) (b : Span) (left right : ℕ) (l rl : Tree) (i : ℕ) (e : Span) (rr : Tree) (m : ℕ) → AreSides t j b left right l (Branch rl i e rr) → m ≡ index rl → AreSides t j b left m l rl
single_left-first t j b left right l rl i e rr m s is = record {
  left_is = s.left_is;
  right_is = is;
  left_holds = s.left_holds;
  right_holds = s.right_holds.3;
  apart = λ k. omega (arith, s.apart k);
  some = s.some;
  within = s.within;
  low = s.low;
  left_short = s.left_short;
  right_short = omega (arith, s.right_short);
}

pub single_left-second : (t u : List Node) (j : ℕ) (b : Span) (left right : ℕ) (l rl : Tree) (i : ℕ) (e : Span) (rr : Tree) (m : ℕ) → AreSides t j b left right l (Branch rl i e rr) → height l + 2 ≤ height (Branch rl i e rr) → Became t u (Branch l j b rl) → m ≡ index rr → AreSides u i e j m (Branch l j b rl) rr
single_left-second t u j b left right l rl i e rr m s leans first is = record {
  left_is = refl;
  right_is = is;
  left_holds = first.holds;
  right_holds = held-beside t u (Branch l j b rl) rr first (λ k. omega (arith, s.apart k)) s.right_holds.4;
  apart = λ k. omega (arith, s.apart k);
  some = held-some t rl i e rr s.right_holds;
  within = omega (arith, first.size, s.right_holds.0);
  low = s.right_holds.2;
  left_short = omega (arith, s.right_short);
  right_short = omega (arith, s.right_short);
}

pub double_left-first : (t : List Node) (j : ℕ) (b : Span) (left right : ℕ) (l x : Tree) (k : ℕ) (d : Span) (y : Tree) (i : ℕ) (e : Span) (rr : Tree) (m : ℕ) → AreSides t j b left right l (Branch (Branch x k d y) i e rr) → m ≡ index x → AreSides t j b left m l x
double_left-first t j b left right l x k d y i e rr m s ms = record {
  left_is = s.left_is;
  right_is = ms;
  left_holds = s.left_holds;
  right_holds = s.right_holds.3.3;
  apart = λ q. omega (arith, s.apart q);
  some = s.some;
  within = s.within;
  low = s.low;
  left_short = s.left_short;
  right_short = omega (arith, s.right_short);
}

pub double_left-second : (t u : List Node) (j : ℕ) (b : Span) (left right : ℕ) (l x : Tree) (k : ℕ) (d : Span) (y : Tree) (i : ℕ) (e : Span) (rr : Tree) (m n : ℕ) → AreSides t j b left right l (Branch (Branch x k d y) i e rr) → Became t u (Branch l j b x) → m ≡ index y → n ≡ index rr → AreSides u i e m n y rr
double_left-second t u j b left right l x k d y i e rr m n s first ms ns = record {
  left_is = ms;
  right_is = ns;
  left_holds = held-beside t u (Branch l j b x) y first (λ q. omega (arith, s.apart q)) s.right_holds.3.4;
  right_holds = held-beside t u (Branch l j b x) rr first (λ q. omega (arith, s.apart q)) s.right_holds.4;
  apart = λ q. omega (arith, s.apart q);
  some = held-some t (Branch x k d y) i e rr s.right_holds;
  within = omega (arith, first.size, s.right_holds.0);
  low = s.right_holds.2;
  left_short = omega (arith, s.right_short);
  right_short = omega (arith, s.right_short);
}

pub double_left-third : (t u v : List Node) (j : ℕ) (b : Span) (left right : ℕ) (l x : Tree) (k : ℕ) (d : Span) (y : Tree) (i : ℕ) (e : Span) (rr : Tree) → AreSides t j b left right l (Branch (Branch x k d y) i e rr) → height l + 2 ≤ height (Branch (Branch x k d y) i e rr) → Became t u (Branch l j b x) → Became u v (Branch y i e rr) → AreSides v k d j i (Branch l j b x) (Branch y i e rr)
double_left-third t u v j b left right l x k d y i e rr s leans first second = record {
  left_is = refl;
  right_is = refl;
  left_holds = held-beside u v (Branch y i e rr) (Branch l j b x) second (λ q. omega (arith, s.apart q)) first.holds;
  right_holds = second.holds;
  apart = λ q. omega (arith, s.apart q);
  some = held-some t x k d y s.right_holds.3;
  within = omega (arith, first.size, second.size, s.right_holds.3.0);
  low = s.right_holds.3.2;
  left_short = omega (arith, s.right_short);
  right_short = omega (arith, s.right_short);
}
