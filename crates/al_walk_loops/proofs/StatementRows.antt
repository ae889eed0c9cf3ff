-- Rows of statements as lists: what is done of a body.
use Rattle.std.proofs.Common.{◌≡◌, List, ◌∷◌, refl, ap, ◌∙◌}
use Rattle.al_typed.specs.declared.statement.TStmt.{TStmt, Case, Default, AltCase, Row_of-TStmt, end_of-TStmt, more_of-TStmt, items-the_row-TStmt, items_hidden-the_row-TStmt-0}
use Rattle.al_typed.specs.declared.statement.TStmt.TheBlock.{hidden-the_row-TStmt-0}
use Rattle.al_meaning.specs.Parts.{statements, to_do}
use Rattle.al_walk_loops.specs.BodyParts.{statements_in}

pub statements_items : {m : _} (row : Row_of-TStmt m) → statements row ≡ statements_in (items-the_row-TStmt m row)
statements_items end_of-TStmt = refl
statements_items (more_of-TStmt (Case _ _) rest) = statements_items rest
statements_items (more_of-TStmt Default rest) = statements_items rest
statements_items (more_of-TStmt (AltCase _) rest) = statements_items rest
statements_items (more_of-TStmt s rest) = ap (λ its. to_do s ∷ its) (statements_items rest)

pub statements_are : (body : List TStmt) → statements (hidden-the_row-TStmt-0 body) ≡ statements_in body
statements_are body = statements_items (hidden-the_row-TStmt-0 body) ∙ ap statements_in (items_hidden-the_row-TStmt-0 body)
