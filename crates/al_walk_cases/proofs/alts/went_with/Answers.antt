use Rattle.al_control.specs.Models.{here_of}
use Rattle.al_walk_loops.proofs.Goings.{goes_same}
use Rattle.al_walk_cases.proofs.CaseSteps.{cases_fit, went_are}
use Rattle.al_walk_cases.proofs.Explanations.{why_else}
use Rattle.al_walk_cases.proofs.alts.went_with.Goals as goal

pub returns-clause-next : goal.returns-clause-next
returns-clause-next c =
    goes_same c.case_went.result _ _
    (went_are c.args.s.now c.cases_of.result.now (here_of c.args.h) _ _ c.args.answer.now c.cases_of.ensures c.split_word-cut.ensures.word c.split_word-cut.ensures.rest)
    c.case_went.ensures.next

pub returns-clause-why : goal.returns-clause-why
returns-clause-why c = why_else c.case_went.result _ _ (cases_fit c.args.h.program.now c.args.s.now c.cases_of.result.now c.cases_of.ensures) c.case_went.ensures.why
