use Rattle.std.proofs.Common.{◌∙◌, ap, sym}
use Rattle.al_meaning.specs.Execute.{cases_of}
use Rattle.al_walk_cases.specs.CaseLists.{branchings_in}
use Rattle.al_walk_cases.proofs.CaseSteps.{cases-Alt}
use Rattle.al_walk_cases.proofs.alts.cases_of.Goals as goal

pub returns-in-Alt : goal.returns-in-Alt
returns-in-Alt c =
    ap cases_of c.in-Alt.is ∙ cases-Alt c.in-Alt.line c.in-Alt.body ∙ ap branchings_in (sym c.as_slice.ensures.value)
