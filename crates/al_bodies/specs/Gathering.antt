-- What is found of the functions of a text, one after the other.
use Rattle.std.specs.Prelude.{ℕ, ◌+◌, List, [], ◌∷◌, ◌++◌, length, slice_get, Option, Some}
use Rattle.al_tree.specs.declared.type_tree.TypeTree.{TypeTree}
use Rattle.al_tree.specs.declared.statement.Stmt.{Stmt}
use Rattle.al_tree.specs.declared.item.Head.{Head}
use Rattle.al_tree.specs.declared.item.Item.{Item}
use Rattle.al_tree.specs.declared.item.Item.TheVariants as item
use Rattle.al_rules.specs.Outcome.{Outcome, Good, and_then}
use Rattle.al_declare.specs.declared.function.Defined.{Defined}
use Rattle.al_typed.specs.Capped.{capped}
use Rattle.al_environment.specs.declared.numbered.Numbered.{Numbered}
use Rattle.al_environment.specs.declared.environment.Environment.{Environment}
use Rattle.al_type_function.specs.declared.numbers.FunctionNumbers.{FunctionNumbers}
use Rattle.al_type_function.specs.declared.function.TypedFunction.{TypedFunction}
use Rattle.al_type_function.specs.Functions.{function}
use Rattle.al_bodies.specs.declared.found.Gathered.{Gathered}

abbrev pub none : Gathered
none = record { functions = []; branches = []; texts = []; types = [] }

-- one function more
abbrev pub with_function : Gathered → TypedFunction → Gathered
with_function g t = record {
  functions = g.functions ++ t.function ∷ [];
  branches = g.branches ++ t.branches;
  texts = g.texts ++ t.texts;
  types = g.types ++ t.types;
}

-- what the next function has as numbers of its branches, and what those behind it have
abbrev pub first_of : List (List Numbered) → List Numbered
first_of [] = []
first_of (n ∷ ns) = n

abbrev pub rest_of : List (List Numbered) → List (List Numbered)
rest_of [] = []
rest_of (n ∷ ns) = ns

-- the numbers of the k-th function, before which so many string constants stand beside those of the functions before it
abbrev pub numbers_for : (texts k : ℕ) → Defined → Gathered → FunctionNumbers
numbers_for texts k d g = record { number = k; instance = d.instance; texts = capped (texts + length g.texts) }

module _ (env : Environment) (names : List (List ℕ)) where
  -- with the function of a head
  abbrev pub with_head : FunctionNumbers → (branches : List Numbered) → TypeTree → Head → Stmt → Gathered → Outcome Gathered
  with_head numbers branches base head body g = and_then (function env names numbers branches base head body) (λ t. Good (with_function g t))

  -- with the function that an item is; an item that is none adds nothing
  abbrev pub with_item : FunctionNumbers → (branches : List Numbered) → Option Item → Gathered → Outcome Gathered
  with_item numbers branches (Some (item.Function at scope base head body)) g = with_head numbers branches base head body g
  with_item numbers branches _ g = Good g

  module _ (items : List Item) (texts : ℕ) where
    unfoldable pub next : (k : ℕ) → Defined → (branches : List Numbered) → Gathered → Outcome Gathered
    next k d branches g = with_item (numbers_for texts k d g) branches (slice_get items d.item) g

    -- with functions that have these numbers of their branches, where the first of the list has the number k
    unfoldable pub gathered : (k : ℕ) → List Defined → List (List Numbered) → Gathered → Outcome Gathered
    gathered k [] ns g = Good g
    gathered k (d ∷ ds) ns g = and_then (next k d (first_of ns) g) (gathered (k + 1) ds (rest_of ns))
