use Rattle.std.proofs.Common.{◌∙◌, List, Some, ap, sym}
use Rattle.std.specs.Prelude.{option_map}
use Rattle.std.proofs.lemmas.List.{take_rest}
use Rattle.al_typed.specs.declared.statement.TStmt.{TStmt}
use Rattle.al_meaning.specs.Execute.{selects}
use Rattle.al_control.specs.Models.{here_of}
use Rattle.al_walk_loops.specs.BodyParts.{statements_in}
use Rattle.al_walk_loops.proofs.Goings.{goes_same}
use Rattle.al_walk_cases.proofs.switches.select_in.Goals as goal

pub returns-in-Some : goal.returns-in-Some
returns-in-Some c =
    goes_same c.begin_case.result _ _
    (ap (λ (l : List TStmt). selects (here_of c.args.h) (Some (statements_in l))) (take_rest c.args.body.now c.in-Some.at)
    ∙ ap (λ o. selects (here_of c.args.h) (option_map statements_in o)) (sym c.in-Some.ensures.behind))
    c.begin_case.ensures
