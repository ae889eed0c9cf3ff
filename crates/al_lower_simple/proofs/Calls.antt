-- The words of calls by a name, from those of their objects and arguments.
use Rattle.std.proofs.Common.{◌≡◌, ℕ, ◌+◌, List, Option, Some, None, ap}
use Rattle.al_typed.specs.declared.ty.Ty.{Ty}
use Rattle.al_typed.specs.declared.expression.TExpr.{TExpr}
use Rattle.al_typed.specs.declared.expression.TExpr.TheBlock.{hidden-the_row-TPlace-0, hidden-the_row-TExpr-1, hidden-the_row-TTarget-2, hidden-the_row-TReceiver-4}
use Rattle.al_typed.specs.declared.expression.TExpr.TheVariants as expr
use Rattle.al_typed.specs.declared.expression.TReceiver.{TReceiver}
use denote.Hole.Carrier.{hidden}
use Rattle.al_lower_code.specs.Homes.{Spot}
use Rattle.al_lower_code.specs.Coded.{Row}
use Rattle.al_lower_code.specs.Actions.{arguments_code, no_object}
use Rattle.al_lower_code.specs.Expressions.{received_object}
use Rattle.al_lower_code.specs.Simple.{words_of_types, start_code, start_words}
use Rattle.al_lower_operands.specs.Rows.{row_of, object_of}
use Rattle.al_lower_operands.proofs.Forms.{row_is, types_are}
use Rattle.al_lower_simple.specs.Parts.{call_words}

pub start_code-Call : (s : Spot) (t : Ty) (number : ℕ) (r : Option TReceiver) (xs : List TExpr) (to : ℕ)
    → start_code s (expr.Call t number r xs) to ≡ arguments_code (object_of s r) (row_of s xs) to
unfolding hidden-the_row-TPlace-0 hidden-the_row-TExpr-1 hidden-the_row-TTarget-2 hidden-the_row-TReceiver-4 hidden
start_code-Call s t number None xs to = ap (λ (row : Row). arguments_code no_object row to) (row_is s xs)
start_code-Call s t number (Some r) xs to = ap (λ (row : Row). arguments_code (received_object s r) row to) (row_is s xs)

pub start_words-Call : (s : Spot) (t : Ty) (number : ℕ) (r : Option TReceiver) (xs : List TExpr) → start_words s (expr.Call t number r xs) ≡ call_words s r xs
unfolding hidden-the_row-TPlace-0 hidden-the_row-TExpr-1 hidden-the_row-TTarget-2 hidden-the_row-TReceiver-4 hidden
start_words-Call s t number None xs = ap (λ (ts : List Ty). 0 + words_of_types s ts) (types_are xs)
start_words-Call s t number (Some r) xs = ap (λ (ts : List Ty). (received_object s r).words + words_of_types s ts) (types_are xs)
