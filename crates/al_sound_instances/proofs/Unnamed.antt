-- Types that other crates do not export by name: they are those of values.
use Rattle.std.proofs.Common.{[]}
use Rattle.al_layout.specs.Order.{begun as unplaced}

abbrev pub TypeOf : (A : Type 0) → A → Type 0
TypeOf A x = A

-- what has come in an order
abbrev pub Placed : Type 0
Placed = TypeOf _ (unplaced [])
