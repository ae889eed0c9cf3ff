-- What is said of the fault of a declaration.
use Rattle.std.proofs.Common.{◌≡◌, ◌≤◌, List, ◌++◌, Option, Some}
use Rattle.std.specs.List.{All}
use Rattle.al_base.specs.declared.place.Place.{Place}
use Rattle.al_lex.specs.declared.token.Token.{Token}
use Rattle.al_tree.specs.Words.{start}
use Rattle.al_tree.specs.Types.{Leaves}
use Rattle.al_tree.specs.Items.{Declared, IsScope}
use Rattle.al_tree.specs.declared.item.Scope.{Scope}
use Rattle.al_tree.proofs.Law.{World}
use Rattle.al_parse_stmt.specs.Begun.{owners}
use Rattle.al_parse_stmt.specs.Parse as parse
use Rattle.al_parse_stmt.proofs.Declared.{OwnerFits}
use Rattle.al_parse_stmt.proofs.Furthest.{all_each}
use Rattle.al_parse_stmt.proofs.Judge.{Judge}
use Rattle.al_parse_stmt.proofs.ItemLaw.{LItem, rest_law, rest_has}
use Rattle.al_parse_stmt.proofs.DeclaredFault.{judge_by}

module _ (leaves : Leaves) (d : Declared) (fit : All (λ n. OwnerFits d (Some n)) (owners d.adts)) where
  pub declared_judge : (R : Type 0) (w : World) → (R → w.fuel ≤ w.turns) → (s : List Token) (scope : Option Scope) → IsScope leaves d.types s scope → (at : Place)
      → Judge R w (λ ts. start (s ++ ts) ≡ at) (λ w. parse.declared leaves w.turns w.depth d at scope) (λ v x. LItem leaves d (s ++ v) x)
  declared_judge R w enough s scope word at = judge_by leaves d at scope s word (all_each (OwnerFits d) (owners d.adts) fit) (λ owner own. rest_law leaves d owner own) (λ owner own. rest_has leaves d owner own) R w enough
