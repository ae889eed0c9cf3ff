-- A table of nodes that holds a tree.
use Rattle.std.specs.Prelude.{◌≡◌, ℕ, ◌+◌, ◌<◌, ◌≤◌, ◌^◌, slice_index_or, List, length, false, IsSome}
use Rattle.al_event.specs.Store.{Span}
use Rattle.al_run_tree.specs.declared.node.Node.{Node}
use Rattle.al_run_tree.specs.declared.node.Extent.{Extent}
use Rattle.al_run_tree.specs.Tree.{Tree, Leaf, Branch, is_leaf, height, index, same, uses, IsBalanced}
use Rattle.al_run_tree.specs.Balance.{Taken}
use Rattle.al_run_tree.specs.Order.{found}
use Rattle.al_run_tree.specs.Runs.{blank, node}

-- the block that a node has
abbrev pub block_of : Node → Span
block_of x = record { at = x.at; size = x.size; kind = x.kind }

abbrev pub span_of : Extent → Span
span_of b = record { at = b.at; size = b.size; kind = b.kind }

-- the node of an index
abbrev pub cell : List Node → ℕ → Node
cell t i = slice_index_or t i blank

-- each node of the tree stands in the table at its index, and the node of no block at 0
abbrev pub Holds : List Node → Tree → Type 0
Holds t Leaf = (0 < length t) × (cell t 0 ≡ blank)
Holds t (Branch l j b r) = (j < length t) × (cell t j ≡ node (Branch l j b r)) × (b.at + b.size < 2 ^ 31) × Holds t l × Holds t r

-- the table has this tree below an index
pub record IsTree (t : List Node) (top : ℕ) (s : Tree) : Type 0 where
  pub holds : Holds t s
  pub top_is : top ≡ index s
  pub apart : (i : ℕ) → uses i s ≤ 1
  pub balanced : IsBalanced s
  pub short : height s ≤ 40

-- the table has a tree below an index
pub record HasTree (t : List Node) (top : ℕ) : Type 0 where
  pub tree : Tree
  pub is : IsTree t top tree

-- the table has two trees that a block in the node of another index may join
pub record AreSides (t : List Node) (j : ℕ) (b : Span) (left right : ℕ) (l r : Tree) : Type 0 where
  pub left_is : left ≡ index l
  pub right_is : right ≡ index r
  pub left_holds : Holds t l
  pub right_holds : Holds t r
  pub apart : (i : ℕ) → same i j + uses i l + uses i r ≤ 1
  pub some : 0 < j
  pub within : j < length t
  pub low : b.at + b.size < 2 ^ 31
  pub left_short : height l ≤ 41
  pub right_short : height r ≤ 41

pub record HasSides (t : List Node) (j : ℕ) (b : Span) (left right : ℕ) : Type 0 where
  pub l : Tree
  pub r : Tree
  pub are : AreSides t j b left right l r

-- the table changed to hold a tree, and nothing but its nodes
pub record Became (t new : List Node) (s : Tree) : Type 0 where
  pub holds : Holds new s
  pub others : (i : ℕ) → uses i s ≡ 0 → cell new i ≡ cell t i
  pub size : length new ≡ length t

-- the table changed to hold a tree below an index, and nothing but its nodes
pub record IsNow (t new : List Node) (top : ℕ) (s : Tree) : Type 0 where
  pub became : Became t new s
  pub top_is : top ≡ index s

-- the left side is at least two levels higher
pub record LeansLeft (t : List Node) (j : ℕ) (b : Span) (left right : ℕ) : Type 0 where
  pub l : Tree
  pub r : Tree
  pub are : AreSides t j b left right l r
  pub leans : height r + 2 ≤ height l

-- the right side is at least two levels higher
pub record LeansRight (t : List Node) (j : ℕ) (b : Span) (left right : ℕ) : Type 0 where
  pub l : Tree
  pub r : Tree
  pub are : AreSides t j b left right l r
  pub leans : height l + 2 ≤ height r

-- the table has a tree below an index, and a node of another index for one block more
pub record HasPlace (t : List Node) (top new : ℕ) (b : Span) : Type 0 where
  pub tree : Tree
  pub is : IsTree t top tree
  pub fresh : uses new tree ≡ 0
  pub some : 0 < new
  pub within : new < length t
  pub low : b.at + b.size < 2 ^ 31

-- the table has a tree with a block below an index
pub record HasSome (t : List Node) (top : ℕ) : Type 0 where
  pub tree : Tree
  pub is : IsTree t top tree
  pub some : is_leaf tree ≡ false

-- the table has a tree below an index, and in it a block that begins at a place
pub record HasBlock (t : List Node) (top at : ℕ) : Type 0 where
  pub tree : Tree
  pub is : IsTree t top tree
  pub there : IsSome (found at tree)

-- the table has two trees without common nodes
pub record AreTwo (t : List Node) (left right : ℕ) (l r : Tree) : Type 0 where
  pub left_is : IsTree t left l
  pub right_is : IsTree t right r
  pub apart : (i : ℕ) → uses i l + uses i r ≤ 1

pub record HasTwo (t : List Node) (left right : ℕ) : Type 0 where
  pub l : Tree
  pub r : Tree
  pub are : AreTwo t left right l r

-- a block was taken out of the table
pub record IsOut (t new : List Node) (i : ℕ) (b : Span) (top : ℕ) (o : Taken) : Type 0 where
  pub became : Became t new o.rest
  pub index_is : i ≡ o.index
  pub block_is : b ≡ o.block
  pub top_is : top ≡ index o.rest
