use Rattle.al_walk_cases.proofs.CaseSteps.{place_found, place_none, place_passed}
use Rattle.al_walk_cases.proofs.alts.place_of.Goals as goal

pub returns-then-left-passed-clause-found : goal.returns-then-left-passed-clause-found
returns-then-left-passed-clause-found c =
    place_found c.args.cases.now c.loop-k.k c.index-cases-k.result c.args.number c.loop-k.left c.cases_at-passed.result c.loop-k-test.true
    c.index-cases-k.is c.loop-k.invariant c.cases_at-passed.ensures c.if-left-passed.true

pub loop-k-preserved : goal.loop-k-preserved
loop-k-preserved c =
    place_passed c.args.cases.now c.loop-k.k c.index-cases-k.result c.args.number c.loop-k.left c.cases_at-passed.result c.loop-k-test.true
    c.index-cases-k.is c.loop-k.invariant c.cases_at-passed.ensures c.if-left-passed.false

pub returns-clause-found : goal.returns-clause-found
returns-clause-found c = place_none c.args.cases.now c.loop-k.k c.args.number c.loop-k.left c.loop-k-test.false c.loop-k.invariant
