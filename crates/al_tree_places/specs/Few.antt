-- The functions of a text, and the branches of pars in them, are no more than its tokens.
use Rattle.std.specs.Prelude.{ℕ, ◌≤◌, List, [], length}
use Rattle.std.specs.List.{flat_map}
use Rattle.al_base.specs.declared.place.Place.{Place}
use Rattle.al_lex.specs.TokenList.{TokenList}
use Rattle.al_tree.specs.Tree.{IsTree}
use Rattle.al_tree.specs.declared.statement.Stmt.{Stmt}
use Rattle.al_tree.specs.declared.item.Item.{Item}
use Rattle.al_tree.specs.declared.item.Item.TheVariants as item
use Rattle.al_tree.specs.declared.item.Tree.{Tree}
use Rattle.al_branches.specs.Statements.{in_par}

-- those that the body of an item has
abbrev pub body_places : (Stmt → List Place) → Item → List Place
body_places G (item.Function at scope base head body) = G body
body_places G _ = []

-- a function counts as one, and so does each branch
abbrev pub BodiesAreFew : Type 0
BodiesAreFew = (tokens : TokenList) (tree : Tree) (height : ℕ) → IsTree tokens tree height → length (flat_map (body_places in_par) tree.items) ≤ length tokens.list
