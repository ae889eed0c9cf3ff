-- The branches of all pars in a statement.
use Rattle.std.specs.Prelude.{List, [], ◌∷◌, ◌++◌, Option, Some, None}
use Rattle.std.specs.List.{flat_map}
use Rattle.al_base.specs.declared.place.Place.{Place}
use Rattle.al_tree.specs.declared.statement.Stmt.{Stmt, fold-Stmt}
use Rattle.al_tree.specs.declared.statement.Stmt.TheOpen.{Stmt-F}

-- where a statement stands, and where the branches in it do
pub record Part : Type 0 where
  pub at : Place
  pub branches : List Place

abbrev pub inside : Part → List Place
inside p = p.branches

-- a branch, and then those in it
abbrev pub as_branch : Part → List Place
as_branch p = p.at ∷ p.branches

abbrev pub optional : {A : Type 0} → (A → List Place) → Option A → List Place
optional f None = []
optional f (Some x) = f x

-- the place of its first token
abbrev pub at_step : Stmt-F Part → Place
at_step (Stmt-F.Empty at) = at
at_step (Stmt-F.Block at body) = at
at_step (Stmt-F.Declare at base variables) = at
at_step (Stmt-F.Value at e) = at
at_step (Stmt-F.Label at name body) = at
at_step (Stmt-F.If at e met other) = at
at_step (Stmt-F.While at e body) = at
at_step (Stmt-F.Do at body e) = at
at_step (Stmt-F.For at start e next body) = at
at_step (Stmt-F.Switch at e body) = at
at_step (Stmt-F.Alt at body) = at
at_step (Stmt-F.Case at e) = at
at_step (Stmt-F.Default at) = at
at_step (Stmt-F.Par at branches) = at
at_step (Stmt-F.Rescue at name body) = at
at_step (Stmt-F.Raise at name) = at
at_step (Stmt-F.Return at e) = at
at_step (Stmt-F.Become at e) = at
at_step (Stmt-F.Break at count) = at
at_step (Stmt-F.Continue at count) = at
at_step (Stmt-F.Goto at name) = at
at_step (Stmt-F.Alloc at es) = at
at_step (Stmt-F.Unalloc at es) = at
at_step (Stmt-F.Check at e text) = at
at_step (Stmt-F.Proc at es) = at
at_step (Stmt-F.Task at es) = at

abbrev pub branches_step : Stmt-F Part → List Place
branches_step (Stmt-F.Block at body) = flat_map inside body
branches_step (Stmt-F.Label at name body) = inside body
branches_step (Stmt-F.If at e met other) = inside met ++ optional inside other
branches_step (Stmt-F.While at e body) = inside body
branches_step (Stmt-F.Do at body e) = inside body
branches_step (Stmt-F.For at start e next body) = inside body
branches_step (Stmt-F.Switch at e body) = flat_map inside body
branches_step (Stmt-F.Alt at body) = flat_map inside body
branches_step (Stmt-F.Par at branches) = flat_map as_branch branches
branches_step (Stmt-F.Rescue at name body) = inside body
branches_step _ = []

abbrev pub step : Stmt-F Part → Part
step s = record { at = at_step s; branches = branches_step s }

unfoldable pub part : Stmt → Part
part = fold-Stmt Part step

abbrev pub place : Stmt → Place
place s = (part s).at

-- the places of the branches of all pars in a statement, in text order, each before those in it
abbrev pub branch_places : Stmt → List Place
branch_places s = (part s).branches

abbrev pub in_par : Stmt → List Place
in_par s = place s ∷ branch_places s
