use Rattle.std.proofs.Common.{ap}
use Rattle.al_meaning.specs.Parts.{first_of_two}
use Rattle.al_walk_cases.specs.CaseLists.{behind, is_default}
use Rattle.al_walk_cases.proofs.switches.chosen.Goals as goal

pub returns-in-Some-clause-behind : goal.returns-in-Some-clause-behind
returns-in-Some-clause-behind c = ap (λ o. first_of_two o (behind is_default c.args.body.now)) c.in-Some.ensures.behind

pub returns-in-None-clause-behind : goal.returns-in-None-clause-behind
returns-in-None-clause-behind c = rw c.in-None.ensures.behind c.behind_default.ensures.behind
