-- A tree with one block more or less, balanced by turns.
use Rattle.std.specs.Prelude.{ℕ, suc, if◌then◌else◌, nat_lt, nat_le}
use Rattle.al_event.specs.Store.{Span}
use Rattle.al_event.specs.declared.act.Block.TheVariants.{Heap}
use Rattle.al_run_tree.specs.Tree.{Tree, Leaf, Branch, is_leaf, height}

-- ---- turns

unfoldable pub twice_right : Tree → ℕ → Span → Tree → ℕ → Span → Tree → Tree
twice_right ll i c Leaf j b r = Branch (Branch ll i c Leaf) j b r
twice_right ll i c (Branch x k d y) j b r = Branch (Branch ll i c x) k d (Branch y j b r)

-- the left side is two levels higher
unfoldable pub turned_right : Tree → ℕ → Span → Tree → Tree
turned_right Leaf j b r = Branch Leaf j b r
turned_right (Branch ll i c lr) j b r =
    if nat_le (height lr) (height ll) then Branch ll i c (Branch lr j b r) else twice_right ll i c lr j b r

unfoldable pub twice_left : Tree → ℕ → Span → Tree → ℕ → Span → Tree → Tree
twice_left l j b Leaf i c rr = Branch l j b (Branch Leaf i c rr)
twice_left l j b (Branch x k d y) i c rr = Branch (Branch l j b x) k d (Branch y i c rr)

-- the right side is two levels higher
unfoldable pub turned_left : Tree → ℕ → Span → Tree → Tree
turned_left l j b Leaf = Branch l j b Leaf
turned_left l j b (Branch rl i c rr) =
    if nat_le (height rl) (height rr) then Branch (Branch l j b rl) i c rr else twice_left l j b rl i c rr

-- a block between two trees that differ by at most two levels
unfoldable pub balanced : Tree → ℕ → Span → Tree → Tree
balanced l j b r =
    if nat_lt (suc (height r)) (height l) then turned_right l j b r
    else (if nat_lt (suc (height l)) (height r) then turned_left l j b r else Branch l j b r)

-- ---- one block more

-- with a block in the node of an index, behind those that do not begin past it
unfoldable pub inserted : ℕ → Span → Tree → Tree
inserted new e Leaf = Branch Leaf new e Leaf
inserted new e (Branch l j b r) =
    if nat_lt e.at b.at then balanced (inserted new e l) j b r else balanced l j b (inserted new e r)

-- ---- one block less

-- a block that is taken out, the index of its node, and the tree that is left
pub record Taken : Type 0 where
  pub index : ℕ
  pub block : Span
  pub rest : Tree

abbrev pub nothing : Taken
nothing = record { index = 0; block = record { at = 0; size = 0; kind = Heap }; rest = Leaf }

-- the first block is taken out
unfoldable pub first_out : Tree → Taken
first_out Leaf = nothing
first_out (Branch l j b r) =
    if is_leaf l then record { index = j; block = b; rest = r }
    else record { index = (first_out l).index; block = (first_out l).block; rest = balanced (first_out l).rest j b r }

-- the two sides of a block that is taken out: the first block on the right takes its place
unfoldable pub merged : Tree → Tree → Tree
merged l r = if is_leaf r then l else balanced l (first_out r).index (first_out r).block (first_out r).rest

-- the block that begins at a place is taken out
unfoldable pub taken_out : ℕ → Tree → Taken
taken_out at Leaf = nothing
taken_out at (Branch l j b r) =
    if nat_lt at b.at then record { index = (taken_out at l).index; block = (taken_out at l).block; rest = balanced (taken_out at l).rest j b r }
    else (if nat_lt b.at at then record { index = (taken_out at r).index; block = (taken_out at r).block; rest = balanced l j b (taken_out at r).rest }
    else record { index = j; block = b; rest = merged l r })
