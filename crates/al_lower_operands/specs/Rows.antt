-- The operations of lists of expressions and targets, and of an object that may be missing.
use Rattle.std.specs.Prelude.{List, [], ◌∷◌, Option, Some, None}
use Rattle.al_typed.specs.declared.expression.TExpr.{TExpr}
use Rattle.al_typed.specs.declared.expression.TTarget.{TTarget}
use Rattle.al_typed.specs.declared.expression.TReceiver.{TReceiver}
use Rattle.al_typed.specs.Typed.{type_of, target_type}
use Rattle.al_lower_code.specs.Homes.{Spot, words}
use Rattle.al_lower_code.specs.Coded.{Row, Given, Aimed}
use Rattle.al_lower_code.specs.Values.{no_row, row_with}
use Rattle.al_lower_code.specs.Actions.{no_aimed, aimed_with, no_object}
use Rattle.al_lower_code.specs.Expressions.{coded, aimed, received_object}

abbrev pub row_of : Spot → List TExpr → Row
row_of s [] = no_row
row_of s (e ∷ es) = row_with (words s (type_of e)) (coded s e) (row_of s es)

abbrev pub aimed_of : Spot → List TTarget → Aimed
aimed_of s [] = no_aimed
aimed_of s (x ∷ xs) = aimed_with (words s (target_type x)) (aimed s x) (aimed_of s xs)

abbrev pub object_of : Spot → Option TReceiver → Given
object_of s None = no_object
object_of s (Some r) = received_object s r
