use Rattle.std.proofs.Common.{◌∙◌, [], List, ap, subst, sym}
use Rattle.std.specs.Prelude.{All}
use Rattle.std.proofs.lemmas.List.Elements.{All-head}
use Rattle.al_typed.specs.declared.statement.TCommunication.{TCommunication}
use Rattle.al_meaning.specs.Evaluate.{goes_into}
use Rattle.al_control.specs.Models.{here_of}
use Rattle.al_walk_cases.specs.Fits.{WentFits}
use Rattle.al_walk_loops.proofs.Goings.{goes_same}
use Rattle.al_walk_cases.proofs.CaseSteps.{no_branching, one_branching}
use Rattle.al_walk_cases.proofs.Explanations.{why_else}
use Rattle.al_walk_cases.proofs.alts.went_at.Goals as goal

pub returns-in_ok-lost-in-None-clause-next : goal.returns-in_ok-lost-in-None-clause-next
returns-in_ok-lost-in-None-clause-next c =
    c.in_ok-lost-in-None.ensures
    ∙ ap (λ o. goes_into (here_of c.args.h) o c.args.received.now) (sym (no_branching c.args.s.now c.args.rest.now c.in-None.ensures))

pub returns-in-Some-clause-next : goal.returns-in-Some-clause-next
returns-in-Some-clause-next c =
    goes_same c.goes_into.result _ _
    (ap (λ o. goes_into (here_of c.args.h) o c.args.received.now)
    (sym (one_branching c.args.s.now c.in-Some.communication.now c.args.rest.now c.in-Some.ensures)))
    c.goes_into.ensures.next

pub returns-in-Some-clause-why : goal.returns-in-Some-clause-why
returns-in-Some-clause-why c =
    let P = WentFits c.args.h.program.now in
    why_else c.goes_into.result _ _
    (λ all. All-head P c.in-Some.communication.now [] (subst (λ (cs : List TCommunication). All P cs) c.in-Some.ensures all)) c.goes_into.ensures.why
