use Rattle.std.proofs.Common.{◌∙◌, [], List, Err, ap, subst}
use Rattle.std.specs.Prelude.{All}
use Rattle.std.proofs.lemmas.List.Elements.{All-head}
use Rattle.std.proofs.lemmas.Result.{err_from_is_err_and}
use Rattle.al_typed.specs.declared.statement.TCommunication.{TCommunication}
use Rattle.al_walk_cases.specs.CaseLists.{communication_of}
use Rattle.al_walk_cases.specs.Fits.{TalkFits}
use Rattle.al_walk_cases.proofs.Branches.{branch_more, branch_none}
use Rattle.al_walk_cases.proofs.Explanations.{passed_on}
use Rattle.al_walk_cases.proofs.alts.put_case.Goals as goal

pub returns-in_ok-put_branch-in-Some-clause-put : goal.returns-in_ok-put_branch-in-Some-clause-put
returns-in_ok-put_branch-in-Some-clause-put c =
    λ more.
    branch_more c.args.p.now c.args.s.now c.in-Some.communication.now c.args.branches.now c.put_branch.new.branches c.args.values.now
    c.put_branch.new.values more c.in-Some.ensures c.in_ok-put_branch-in-Some.ensures.put c.in_ok-put_branch-in-Some.ensures.rest

pub returns-in-None-clause-put : goal.returns-in-None-clause-put
returns-in-None-clause-put c = λ more. branch_none c.args.p.now c.args.s.now c.args.branches.now c.args.values.now more c.in-None.ensures

pub returns-in_err-put_branch-in-Some-clause-why : goal.returns-in_err-put_branch-in-Some-clause-why
returns-in_err-put_branch-in-Some-clause-why c =
    let P = TalkFits c.args.p.now in
    let p = err_from_is_err_and c.from_residual.result c.from_residual.ensures.1 in
    passed_on c.from_residual.result _ (P c.in-Some.communication.now) (All P (communication_of c.args.s.now)) (p.1 ∙ ap Err p.2)
    (λ all. All-head P c.in-Some.communication.now [] (subst (λ (cs : List TCommunication). All P cs) c.in-Some.ensures all))
    c.in_err-put_branch-in-Some.ensures.why
