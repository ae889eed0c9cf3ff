use Rattle.std.proofs.Common.{◌+◌, ◌∙◌, Err, ap, drop}
use Rattle.std.specs.Prelude.{All}
use Rattle.std.proofs.lemmas.Result.{err_from_is_err_and}
use Rattle.al_walk_cases.specs.CaseLists.{communication_of, communications_in}
use Rattle.al_walk_cases.specs.Fits.{TalkFits}
use Rattle.al_walk_cases.proofs.Branches.{branches_more, branches_past}
use Rattle.al_walk_cases.proofs.Explanations.{given_at, passed_on}
use Rattle.al_walk_cases.proofs.alts.all_branches.Goals as goal

pub loop-s-preserved : goal.loop-s-preserved
loop-s-preserved c =
    branches_more c.args.p.now c.args.body.now c.loop-s.s-index c.s-item.result c.loop-s.branches c.put_case.new.branches _ c.loop-s.values c.put_case.new.values
    c.loop-s-test.true c.s-item.is (c.in_ok-put_case.ensures.put (communications_in (drop (c.loop-s.s-index + 1) c.args.body.now))) c.loop-s.invariant

pub returns-clause-branches : goal.returns-clause-branches
returns-clause-branches c = branches_past c.args.p.now c.args.body.now c.loop-s.s-index c.loop-s.branches _ c.loop-s.values c.loop-s-test.false c.loop-s.invariant

pub returns-in_err-put_case-clause-why : goal.returns-in_err-put_case-clause-why
returns-in_err-put_case-clause-why c =
    let P = TalkFits c.args.p.now in
    let p = err_from_is_err_and c.from_residual.result c.from_residual.ensures.1 in
    passed_on c.from_residual.result _ (All P (communication_of c.s-item.result)) (All P (communications_in c.args.body.now)) (p.1 ∙ ap Err p.2)
    (given_at P communication_of c.args.body.now c.loop-s.s-index c.s-item.result c.loop-s-test.true c.s-item.is) c.in_err-put_case.ensures.why
