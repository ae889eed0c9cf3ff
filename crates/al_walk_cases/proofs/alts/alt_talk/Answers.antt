use Rattle.al_control.specs.Models.{here_of}
use Rattle.al_walk_loops.proofs.Goings.{goes_same}
use Rattle.al_walk_cases.proofs.CaseSteps.{talks_are, talks_fit}
use Rattle.al_walk_cases.proofs.Explanations.{why_else}
use Rattle.al_walk_cases.proofs.alts.alt_talk.Goals as goal

pub returns-clause-next : goal.returns-clause-next
returns-clause-next c = goes_same c.talk_in.result _ _ (talks_are c.args.s.now c.cases_of.result.now (here_of c.args.h) c.cases_of.ensures) c.talk_in.ensures.next

pub returns-clause-why : goal.returns-clause-why
returns-clause-why c = why_else c.talk_in.result _ _ (talks_fit c.args.h.program.now c.args.s.now c.cases_of.result.now c.cases_of.ensures) c.talk_in.ensures.why
