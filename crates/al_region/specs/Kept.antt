-- How a region keeps its blocks: as a tree in a table of nodes, beside the indexes that no node has.
use Rattle.std.specs.Prelude.{◌≡◌, ℕ, zero, suc, ◌+◌, ◌≤◌, ◌⊎◌, if◌then◌else◌, ◌==◌, List, [], ◌∷◌, ◌++◌, length}
use Rattle.al_run_tree.specs.declared.node.Node.{Node}
use Rattle.al_run_tree.specs.Tree.{Tree, Leaf, Branch, blocks, same, uses}
use Rattle.al_run_tree.specs.Table.{block_of, cell, IsTree}

-- the tree of at most so many levels below an index
unfoldable pub tree_from : ℕ → List Node → ℕ → Tree
tree_from zero t i = Leaf
tree_from (suc d) t i =
    if i == 0 then Leaf else Branch (tree_from d t (cell t i).left) i (block_of (cell t i)) (tree_from d t (cell t i).right)

-- the tree below an index
unfoldable pub tree_at : List Node → ℕ → Tree
tree_at t top = tree_from 40 t top

-- how often a list has an index
abbrev pub uses_in : ℕ → List ℕ → ℕ
uses_in i [] = 0
uses_in i (f ∷ fs) = same i f + uses_in i fs

-- a table, the index of its tree's top node, the number of blocks, the first index that was never taken, and those
-- that were given back
pub record IsKept (t : List Node) (top live used : ℕ) (free : List ℕ) (s : Tree) : Type 0 where
  pub is : IsTree t top s
  pub live_is : live ≡ length (blocks s)
  pub size : length t ≡ 65537
  pub apart : (i : ℕ) → uses i s + uses_in i free ≤ 1
  pub unused : (i : ℕ) → used ≤ i → uses i s + uses_in i free ≡ 0
  pub some : uses_in 0 free ≡ 0
  pub used_is : used ≡ live + length free + 1
  pub most : used ≤ 65537

-- an index was taken of those that were given back, or is the first that never was taken
pub record IsAgain (used : ℕ) (free : List ℕ) (i new : ℕ) (left : List ℕ) : Type 0 where
  pub taken : free ≡ left ++ i ∷ []
  pub kept : new ≡ used

pub record IsFirst (used : ℕ) (free : List ℕ) (i new : ℕ) (left : List ℕ) : Type 0 where
  pub none : free ≡ []
  pub left_none : left ≡ []
  pub taken : i ≡ used
  pub next : new ≡ used + 1

abbrev pub IsFresh : ℕ → List ℕ → ℕ → ℕ → List ℕ → Type 0
IsFresh used free i new left = IsAgain used free i new left ⊎ IsFirst used free i new left
