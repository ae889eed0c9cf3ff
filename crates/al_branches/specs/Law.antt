-- The numbers of branches one by one.
use Rattle.std.specs.Prelude.{ℕ, ◌≡◌, ◌+◌, ◌*◌, ◌<◌, List, length, take, slice_get, Some}
use Rattle.std.specs.List.{sum_by}
use Rattle.al_tree.specs.declared.item.Item.{Item}
use Rattle.al_declare.specs.declared.function.Defined.{Defined}
use Rattle.al_branches.specs.Numbers.{branches_at, uses, first}

-- function number k is that one, and has a branch number j
pub record IsBranch (items : List Item) (ds : List Defined) (k : ℕ) (d : Defined) (j : ℕ) : Type 0 where
  pub is : slice_get ds k ≡ Some d
  pub has : j < length (branches_at items d.item)

-- the number of branch j of function number k, which is that one
abbrev pub number_of : List Item → List Defined → (k : ℕ) → Defined → (j : ℕ) → ℕ
number_of items ds k d j = first items ds d.item + uses (take k ds) d.item + j * uses ds d.item

-- how many branches all functions have
abbrev pub branch_count : List Item → List Defined → ℕ
branch_count items ds = sum_by (λ (d : Defined). length (branches_at items d.item)) ds

-- the branch of a number
pub record Found (items : List Item) (ds : List Defined) (n : ℕ) : Type 0 where
  pub k : ℕ
  pub d : Defined
  pub j : ℕ
  pub branch : IsBranch items ds k d j
  pub number : number_of items ds k d j ≡ n
