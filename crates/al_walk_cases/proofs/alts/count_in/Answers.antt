use Rattle.std.proofs.Common.{◌∙◌, List, ap, length, sym}
use Rattle.std.proofs.lemmas.List.{append-nil}
use Rattle.al_typed.specs.declared.statement.TCommunication.{TCommunication}
use Rattle.al_meaning.specs.Evaluate.{alt_exprs, communication_exprs}
use Rattle.al_walk_cases.proofs.alts.count_in.Goals as goal

pub returns-in-Some : goal.returns-in-Some
returns-in-Some c =
    c.count_exprs.ensures
    ∙ sym
    (ap (λ (cs : List TCommunication). length (alt_exprs cs)) c.in-Some.ensures
    ∙ ap length (append-nil (communication_exprs c.in-Some.communication.now)))

pub returns-in-None : goal.returns-in-None
returns-in-None c = sym (ap (λ (cs : List TCommunication). length (alt_exprs cs)) c.in-None.ensures)
