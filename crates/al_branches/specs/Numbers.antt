-- The numbers of the par branches of a program.
--
-- A program numbers its functions, and behind them the branches in text order, those at one place in the order of the
-- functions that have them: a definition of an adt with parameters is one function for each instance, which has each branch of
-- it.
use Rattle.std.specs.Prelude.{ℕ, ◌+◌, ◌*◌, ◌==◌, nat_le, if◌then◌else◌, List, [], ◌∷◌, ◌++◌, length, take, slice_get, Option, Some, None}
use Rattle.std.specs.List.{count_by, sum_by, range_with_len}
use Rattle.al_base.specs.declared.place.Place.{Place}
use Rattle.al_tree.specs.declared.item.Item.{Item}
use Rattle.al_tree.specs.declared.item.Item.TheVariants as item
use Rattle.al_declare.specs.declared.function.Defined.{Defined}
use Rattle.al_environment.specs.declared.numbered.Numbered.{Numbered}
use Rattle.al_branches.specs.Statements.{branch_places}

-- the places of the branches in an item, in text order
unfoldable pub branches_of : Item → List Place
branches_of (item.Function at scope base head body) = branch_places body
branches_of _ = []

abbrev pub branches_if : Option Item → List Place
branches_if None = []
branches_if (Some i) = branches_of i

-- those in the item of that number
abbrev pub branches_at : List Item → ℕ → List Place
branches_at items i = branches_if (slice_get items i)

-- how many functions the item of that number is
unfoldable pub uses : List Defined → ℕ → ℕ
uses ds i = count_by (λ (d : Defined). d.item == i) ds

-- how many branches an item gives the program
abbrev pub given : List Item → List Defined → ℕ → ℕ
given items ds i = length (branches_at items i) * uses ds i

-- the number of the first branch of the item of that number, if it has any: behind the functions and the branches of the items
-- before it
unfoldable pub first : List Item → List Defined → ℕ → ℕ
first items ds i = length ds + sum_by (given items ds) (range_with_len 0 i)

-- a program numbers by 32 bits
abbrev pub numbered_at : ℕ → Place → List Numbered
numbered_at n at = if nat_le n 4294967295 then record { at = at; number = n } ∷ [] else []

-- branches with their numbers, of which the first is `from`, and each is so far above the one before
unfoldable pub numbered : (from apart : ℕ) → List Place → List Numbered
numbered from apart [] = []
numbered from apart (at ∷ ats) = numbered_at from at ++ numbered (from + apart) apart ats

-- The branches of function number k with their numbers, in text order. At each place stand first the branches of the functions
-- before it that are of the same item.
unfoldable pub numbers_of : List Item → List Defined → (k : ℕ) → Defined → List Numbered
numbers_of items ds k d = numbered (first items ds d.item + uses (take k ds) d.item) (uses ds d.item) (branches_at items d.item)

-- those of functions, where the first of the list has the number `from`
unfoldable pub numbers_from : List Item → List Defined → (from : ℕ) → List Defined → List (List Numbered)
numbers_from items all from [] = []
numbers_from items all from (d ∷ ds) = numbers_of items all from d ∷ numbers_from items all (from + 1) ds

-- the branches of each function of a program with their numbers
unfoldable pub branch_numbers : List Item → List Defined → List (List Numbered)
branch_numbers items ds = numbers_from items ds 0 ds
