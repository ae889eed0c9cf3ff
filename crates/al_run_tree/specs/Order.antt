-- Blocks that are told apart by their places.
use Rattle.std.specs.Prelude.{ℕ, suc, ◌≤◌, if◌then◌else◌, nat_lt, Option, Some, None, List, [], ◌∷◌}
use Rattle.std.specs.Option.{option_or}
use Rattle.al_event.specs.Store.{Span}
use Rattle.al_run_tree.specs.Tree.{Tree, Leaf, Branch}

-- the places rise from one address to before another
abbrev pub Rises : ℕ → List Span → ℕ → Type 0
Rises from [] end = from ≤ end
Rises from (b ∷ bs) end = (from ≤ b.at) × Rises (suc b.at) bs end

-- the block that begins at a place
unfoldable pub found : ℕ → Tree → Option Span
found at Leaf = None
found at (Branch l j b r) = if nat_lt at b.at then found at l else (if nat_lt b.at at then found at r else Some b)

-- the last block that begins at an address or below
unfoldable pub last_to : ℕ → Tree → Option Span
last_to at Leaf = None
last_to at (Branch l j b r) = if nat_lt at b.at then last_to at l else option_or (last_to at r) (Some b)

-- the first block that begins at an address or above
unfoldable pub first_from : ℕ → Tree → Option Span
first_from at Leaf = None
first_from at (Branch l j b r) = if nat_lt b.at at then first_from at r else option_or (first_from at l) (Some b)
