-- Heads of functions of adts that stand outside of the adts and have no body: they declare the function again, with the same
-- type. In an adt with parameters they are asked in each instance.
use Rattle.std.specs.Prelude.{ℕ, ◌==◌, Bool, true, false, ◌&&◌, if◌then◌else◌, List, [], ◌∷◌, ◌++◌, fold, Option, Some, None, is_none}
use Rattle.al_tree.specs.declared.expression.Name.{Name}
use Rattle.al_tree.specs.declared.type_tree.TypeTree.{TypeTree}
use Rattle.al_tree.specs.declared.item.Head.{Head}
use Rattle.al_tree.specs.declared.item.Owner.{Owner}
use Rattle.al_tree.specs.declared.item.Declarator.{Declarator}
use Rattle.al_tree.specs.declared.item.Declarator.TheVariants as declarator
use Rattle.al_tree.specs.declared.item.Item.{Item}
use Rattle.al_tree.specs.declared.item.Item.TheVariants as item
use Rattle.al_rules.specs.declared.fault.TypeFault.{TypeFault}
use Rattle.al_rules.specs.Outcome.{ask}
use Rattle.al_environment.specs.declared.environment.Environment.{Environment}
use Rattle.al_type_rules.specs.Types.{signature}
use Rattle.al_adt_functions.specs.Rules.{rule_2_again}
use Rattle.al_adt_functions.specs.Owned.{function_faults, here_in}
use Rattle.al_adt_functions.specs.Searches.{adt_of, function_of}
use Rattle.al_adt_functions.specs.declared.owned.AdtFunctions.{AdtFunctions}

module _ (env : Environment) where
  abbrev pub asked_again : AdtFunctions → TypeTree → Head → List TypeFault
  asked_again a base h = ask 2 h.name.at (rule_2_again a.owned.aggregate (function_of a h.name.name) (signature env a.owned.here base h.stars h.parameters))

  -- in an adt or an instance
  unfoldable pub faults_again : AdtFunctions → TypeTree → Head → List TypeFault
  faults_again a base h = function_faults env a.owned.here base h.stars h.name h.parameters ++ asked_again a base h

  unfoldable pub with_adt : (adt : ℕ) → TypeTree → Head → List TypeFault → AdtFunctions → List TypeFault
  with_adt adt base h w a = if a.owned.name == adt then w ++ faults_again a base h else w

abbrev pub is_empty : List Name → Bool
is_empty [] = true
is_empty (p ∷ ps) = false

-- an adt without parameters that has no body: nothing of it is at hand
abbrev pub is_bodiless : List AdtFunctions → Owner → Bool
is_bodiless list owner = is_empty owner.parameters && is_none (adt_of list owner.adt.name None)

module _ (env : Environment) (list : List AdtFunctions) where
  abbrev pub with_bodiless : Owner → TypeTree → Head → List TypeFault → List TypeFault
  with_bodiless owner base h w = if is_bodiless list owner then w ++ function_faults env (here_in None) base h.stars h.name h.parameters else w

  abbrev pub with_owner : Option Owner → TypeTree → Head → List TypeFault → List TypeFault
  with_owner None base h w = w
  with_owner (Some owner) base h w = fold (with_adt env owner.adt.name base h) (with_bodiless owner base h w) list

  unfoldable pub with_declarator : TypeTree → List TypeFault → Declarator → List TypeFault
  with_declarator base w (declarator.Global dcl value) = w
  with_declarator base w (declarator.Function h) = with_owner h.owner base h w

  unfoldable pub with_item : List TypeFault → Item → List TypeFault
  with_item w (item.Declare at scope base declarators) = fold (with_declarator base) w declarators
  with_item w _ = w

  -- those faults behind others
  unfoldable pub with_heads : List TypeFault → List Item → List TypeFault
  with_heads w items = fold with_item w items
