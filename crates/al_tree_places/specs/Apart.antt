-- Places in the tree of a text that differ.
use Rattle.std.specs.Prelude.{◌≡◌, ℕ, List, slice_get, Option, Some, false}
use Rattle.std.specs.List.{AllPairs}
use Rattle.al_base.specs.declared.place.Place.{Place}
use Rattle.al_lex.specs.declared.token.Token.{Token}
use Rattle.al_lex.specs.Written.{IsCutInto}
use Rattle.al_tree.specs.Tree.{IsTree}
use Rattle.al_tree.specs.declared.type_tree.TypeTree.{TypeTree}
use Rattle.al_tree.specs.declared.statement.Stmt.{Stmt}
use Rattle.al_tree.specs.declared.item.Scope.{Scope}
use Rattle.al_tree.specs.declared.item.Head.{Head}
use Rattle.al_tree.specs.declared.item.Item.TheVariants as item
use Rattle.al_tree.specs.declared.item.Tree.{Tree}
use Rattle.al_rules.specs.Outcome.{same_place}
use Rattle.al_branches.specs.Statements.{branch_places}
use Rattle.al_tree_places.specs.Names.{resolved_places}
use Rattle.al_tree_places.specs.Jumps.{jump_places}

-- no two of them are the same
abbrev pub AreApart : List Place → Type 0
AreApart = AllPairs (λ p q. same_place p q ≡ false)

-- item number k is a function with that body
pub record HasBody (tree : Tree) (k : ℕ) (body : Stmt) : Type 0 where
  pub at : Place
  pub scope : Option Scope
  pub base : TypeTree
  pub head : Head
  pub is : slice_get tree.items k ≡ Some (item.Function at scope base head body)

pub record IsApart (tree : Tree) : Type 0 where
  pub names : AreApart (resolved_places tree)
  pub jumps : (k : ℕ) (body : Stmt) → HasBody tree k body → AreApart (jump_places body)
  pub branches : (k : ℕ) (body : Stmt) → HasBody tree k body → AreApart (branch_places body)

abbrev pub PlacesAreApart : Type 0
PlacesAreApart = (text : List ℕ) (tokens : List Token) (tree : Tree) (height : ℕ) → IsCutInto text tokens
    → IsTree (record { list = tokens; text = text }) tree height → IsApart tree
