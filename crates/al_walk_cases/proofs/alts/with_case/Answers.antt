use Rattle.std.proofs.Common.{List, ap, sym}
use Rattle.al_typed.specs.declared.statement.TCommunication.{TCommunication}
use Rattle.al_meaning.specs.Calls.{evaluated}
use Rattle.al_meaning.specs.Evaluate.{alt_exprs}
use Rattle.al_meaning.specs.Here.{with_work}
use Rattle.al_control.specs.Models.{here_of}
use Rattle.al_walk_cases.proofs.PutCases.{case_put}
use Rattle.al_walk_cases.proofs.alts.with_case.Goals as goal

pub returns-in-Some : goal.returns-in-Some
returns-in-Some c =
    case_put c.with_communication.result c.args.s.now c.in-Some.communication.now (here_of c.args.h) c.in-Some.ensures c.with_communication.ensures

pub returns-in-None : goal.returns-in-None
returns-in-None c = ap (λ (cs : List TCommunication). with_work (evaluated (alt_exprs cs)) (here_of c.args.h)) (sym c.in-None.ensures)
