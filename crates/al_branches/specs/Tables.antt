-- Tables by items, as code keeps them.
use Rattle.std.specs.Prelude.{ℕ, List, length, map}
use Rattle.std.specs.List.{range_with_len}
use Rattle.al_tree.specs.declared.item.Item.{Item}
use Rattle.al_declare.specs.declared.function.Defined.{Defined}
use Rattle.al_typed.specs.Capped.{capped}
use Rattle.al_branches.specs.declared.table.Tables.{Tables}
use Rattle.al_branches.specs.Numbers.{branches_of, uses, first}

-- how many functions each of so many items is
abbrev pub all_uses : List Defined → ℕ → List ℕ
all_uses ds n = map (uses ds) (range_with_len 0 n)

-- the numbers of the first branches of so many items
abbrev pub all_firsts : List Item → List Defined → ℕ → List ℕ
all_firsts items ds n = map (λ i. capped (first items ds i)) (range_with_len 0 n)

abbrev pub tables : List Item → List Defined → Tables
tables items ds = record {
  places = map branches_of items;
  uses = all_uses ds (length items);
  firsts = all_firsts items ds (length items);
}
