-- Blocks in the order of their places, as a binary tree whose nodes have indexes.
use Rattle.std.specs.Prelude.{ℕ, suc, ◌+◌, ◌≤◌, Bool, true, false, if◌then◌else◌, ◌==◌, max, ◌++◌, List, [], ◌∷◌}
use Rattle.al_event.specs.Store.{Span}

pub data Tree : Type 0 where
  Leaf : Tree
  Branch : (left : Tree) (index : ℕ) (block : Span) (right : Tree) → Tree

abbrev pub is_leaf : Tree → Bool
is_leaf Leaf = true
is_leaf (Branch l j b r) = false

-- the blocks in their order
abbrev pub blocks : Tree → List Span
blocks Leaf = []
blocks (Branch l j b r) = blocks l ++ b ∷ blocks r

-- the most nodes on a way down
abbrev pub height : Tree → ℕ
height Leaf = 0
height (Branch l j b r) = suc (max (height l) (height r))

-- the two sides of a node differ by at most one in height
abbrev pub IsBalanced : Tree → Type 0
IsBalanced Leaf = Unit {0}
IsBalanced (Branch l j b r) = (height l ≤ suc (height r)) × (height r ≤ suc (height l)) × IsBalanced l × IsBalanced r

-- one where two numbers are the same
abbrev pub same : ℕ → ℕ → ℕ
same i j = if i == j then 1 else 0

-- how many nodes have an index
abbrev pub uses : ℕ → Tree → ℕ
uses i Leaf = 0
uses i (Branch l j b r) = same i j + uses i l + uses i r

-- the index of the top node; 0 where there is none
abbrev pub index : Tree → ℕ
index Leaf = 0
index (Branch l j b r) = j
