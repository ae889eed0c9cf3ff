use Rattle.std.proofs.Common.{◌∙◌, ◌+◌, ap, sym}
use Rattle.std.proofs.lemmas.List.{take_rest}
use Rattle.al_meaning.specs.Evaluate.{goes_into}
use Rattle.al_control.specs.Models.{here_of}
use Rattle.al_walk_cases.specs.CaseLists.{communication_of}
use Rattle.al_walk_cases.specs.Fits.{WentFits}
use Rattle.al_walk_loops.proofs.Goings.{goes_same}
use Rattle.al_walk_cases.proofs.CaseSteps.{went_there}
use Rattle.al_walk_cases.proofs.Explanations.{given_at, why_else}
use Rattle.al_walk_cases.proofs.alts.case_went.Goals as goal

pub returns-in_ok-lost-in-None-clause-next : goal.returns-in_ok-lost-in-None-clause-next
returns-in_ok-lost-in-None-clause-next c =
    c.in_ok-lost-in-None.ensures ∙ ap (λ o. goes_into (here_of c.args.h) o c.args.received.now) (sym c.in-None.ensures.found)

pub returns-in-Some-clause-next : goal.returns-in-Some-clause-next
returns-in-Some-clause-next c =
    goes_same c.went_at.result _ _
    (went_there c.args.cases.now _ c.args.number c.in-Some.k c.index-cases-k.result c.args.received.now (here_of c.args.h)
    (take_rest c.args.cases.now (c.in-Some.k + 1)) c.index-cases-k.is c.in-Some.ensures.found)
    c.went_at.ensures.next

pub returns-in-Some-clause-why : goal.returns-in-Some-clause-why
returns-in-Some-clause-why c =
    why_else c.went_at.result _ _
    (given_at (WentFits c.args.h.program.now) communication_of c.args.cases.now c.in-Some.k c.index-cases-k.result c.in-Some.ensures.within
    c.index-cases-k.is)
    c.went_at.ensures.why
