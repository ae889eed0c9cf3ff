-- What some statements do.
use Rattle.std.specs.Prelude.{ℕ, true, false, List, [], ◌∷◌, ◌++◌, length, take, Option, Some, None}
use Rattle.al_event.specs.declared.act.Start.{Start}
use Rattle.al_typed.specs.declared.expression.TExpr.{TExpr}
use Rattle.al_typed.specs.declared.statement.TBounds.{TBounds}
use Rattle.al_meaning.specs.Calls.{evaluated}
use Rattle.al_meaning.specs.Evaluate.{and_dropped}
use Rattle.al_meaning.specs.Execute.{bounds_exprs}
use Rattle.al_meaning.specs.Here.{Here}
use Rattle.al_meaning.specs.Items.{Bound, Eval, Item, Returns, Work}

-- an expression statement, once, or for each turn of its iterators
abbrev pub value_work : List TBounds → TExpr → List Work
value_work [] value = and_dropped value
value_work (b ∷ bs) value = evaluated (bounds_exprs (b ∷ bs)) ++ Bound (length (b ∷ bs)) value ∷ []

-- a return
abbrev pub return_work : Option TExpr → List Work
return_work None = Returns false ∷ []
return_work (Some e) = Eval e ∷ Returns true ∷ []

-- the start of a function of a par, with the addresses of the blocks round it
abbrev pub start_at : (around : List ℕ) (block number : ℕ) → Start
start_at around block number = record { code = number; words = around ++ block ∷ [] }

-- the frame with these items alone
abbrev pub with_rest : List Item → Here → Here
with_rest items h = record h { frame = record h.frame { items = items } }

-- the iterator of that number is at a turn, and those behind it have none yet
abbrev pub with_turn : (number turn : ℕ) → Here → Here
with_turn number turn h = record h { frame = record h.frame { turns = take number h.frame.turns ++ turn ∷ [] } }
