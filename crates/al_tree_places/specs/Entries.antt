-- What is found at the places of names.
use Rattle.std.specs.Prelude.{◌≡◌, ℕ, List, map, Some}
use Rattle.std.specs.List.{Contains}
use Rattle.al_base.specs.declared.place.Place.{Place}
use Rattle.al_lex.specs.declared.token.Token.{Token}
use Rattle.al_lex.specs.Written.{IsCutInto}
use Rattle.al_tree.specs.Tree.{IsTree}
use Rattle.al_tree.specs.declared.item.Tree.{Tree}
use Rattle.al_rules.specs.Outcome.{Good}
use Rattle.al_scope.specs.declared.declaration.Resolved.{Resolved}
use Rattle.al_scope.specs.declared.declaration.Scopes.{Scopes}
use Rattle.al_scope.specs.Firsts.{declaration_at}
use Rattle.al_scope.specs.Items.{resolved}
use Rattle.al_tree_places.specs.Names.{resolved_places}

abbrev pub place_of : Resolved → Place
place_of r = r.at

-- each name has one entry, which is found at the name's place
pub record IsFound (tree : Tree) (scopes : Scopes) : Type 0 where
  pub places : map place_of scopes.names ≡ resolved_places tree
  pub found : (r : Resolved) → Contains scopes.names r → declaration_at scopes.names r.at ≡ Some r.declaration

abbrev pub EntriesAreFound : Type 0
EntriesAreFound = (text : List ℕ) (tokens : List Token) (tree : Tree) (height : ℕ) (scopes : Scopes) → IsCutInto text tokens
    → IsTree (record { list = tokens; text = text }) tree height → resolved tree ≡ Good scopes → IsFound tree scopes
