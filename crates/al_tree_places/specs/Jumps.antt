-- The places of jumps and of what they go to.
use Rattle.std.specs.Prelude.{List, [], ◌∷◌, ◌++◌}
use Rattle.al_base.specs.declared.place.Place.{Place}
use Rattle.al_tree.specs.declared.statement.Stmt.{Stmt, fold-Stmt}
use Rattle.al_tree.specs.declared.statement.Stmt.TheOpen.{Stmt-F}
use Rattle.al_tree_walks.specs.Expressions.{all_places}
use Rattle.al_tree_places.specs.Names.{optional}

abbrev pub jump_step : Stmt-F (List Place) → List Place
jump_step (Stmt-F.Block at body) = all_places body
jump_step (Stmt-F.Label at name body) = at ∷ body
jump_step (Stmt-F.If at condition met other) = met ++ optional (λ ats. ats) other
jump_step (Stmt-F.While at condition body) = body
jump_step (Stmt-F.Do at body condition) = body
jump_step (Stmt-F.For at start condition next body) = body
jump_step (Stmt-F.Switch at value body) = all_places body
jump_step (Stmt-F.Alt at body) = all_places body
jump_step (Stmt-F.Par at branches) = all_places branches
jump_step (Stmt-F.Rescue at name body) = at ∷ body
jump_step (Stmt-F.Raise at name) = at ∷ []
jump_step (Stmt-F.Break at count) = at ∷ []
jump_step (Stmt-F.Continue at count) = at ∷ []
jump_step (Stmt-F.Goto at name) = at ∷ []
jump_step _ = []

-- the places of the labels, rescues, raises, gotos, breaks and continues in a statement, and in the branches of pars in it, in text order
unfoldable pub jump_places : Stmt → List Place
jump_places = fold-Stmt (List Place) jump_step
