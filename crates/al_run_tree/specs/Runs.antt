-- The runs of free addresses between blocks, and what a node tells of them.
use Rattle.std.specs.Prelude.{ℕ, suc, ◌+◌, ◌-◌, ◌*◌, ◌/◌, ◌==◌, Bool, ◌||◌, if◌then◌else◌, nat_le, max, Option, Some, None, List, [], ◌∷◌}
use Rattle.al_event.specs.declared.act.Block.TheVariants.{Heap}
use Rattle.al_event.specs.Store.{Span}
use Rattle.al_run_tree.specs.declared.node.Node.{Node}
use Rattle.al_run_tree.specs.Tree.{Tree, Leaf, Branch, index}

-- the next multiple of 8
abbrev pub round_up : ℕ → ℕ
round_up n = (n + 7) / 8 * 8

-- the beginning of the first run that has room for n bytes, of those before, between and behind blocks
abbrev pub first_gap : ℕ → List Span → ℕ → ℕ → Option ℕ
first_gap from [] end n = if nat_le (from + n) end then Some from else None
first_gap from (b ∷ bs) end n = if nat_le (from + n) b.at then Some from else first_gap (round_up (b.at + b.size)) bs end n

-- ---- nodes

-- the node of no block
abbrev pub blank : Node
blank = record { at = 0; size = 0; kind = Heap; left = 0; right = 0; height = 0; first = 0; end = 0; widest = 0 }

-- where the blocks from a node down begin, with those on its left
abbrev pub first_with : Node → ℕ → ℕ
first_with x at = if x.height == 0 then at else x.first

-- the run between the blocks on the left of a node and its own
abbrev pub gap_before : Node → ℕ → ℕ
gap_before x at = if x.height == 0 then 0 else at - x.end

-- where the blocks from a node down end, with those on its right
abbrev pub end_with : Node → ℕ → ℕ
end_with y end = if y.height == 0 then end else y.end

-- the run between the block of a node and those on its right
abbrev pub gap_behind : Node → ℕ → ℕ
gap_behind y end = if y.height == 0 then 0 else y.first - end

-- a block over two nodes of these indexes
abbrev pub over : ℕ → Node → Span → ℕ → Node → Node
over i x b j y = record {
  at = b.at;
  size = b.size;
  kind = b.kind;
  left = i;
  right = j;
  height = suc (max x.height y.height);
  first = first_with x b.at;
  end = end_with y (round_up (b.at + b.size));
  widest = max (max x.widest (gap_before x b.at)) (max (gap_behind y (round_up (b.at + b.size))) y.widest);
}

-- the top node of a tree
abbrev pub node : Tree → Node
node Leaf = blank
node (Branch l j b r) = over (index l) (node l) b (index r) (node r)

-- whether n bytes fit before, between or behind the blocks from a node down
abbrev pub has_room : Node → ℕ → ℕ → ℕ → Bool
has_room x from until n =
    if x.height == 0 then nat_le (from + n) until
    else (nat_le (from + n) x.first || nat_le n x.widest || nat_le (x.end + n) until)
