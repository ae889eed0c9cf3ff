use Rattle.std.proofs.Common.{◌≡◌, ◌∙◌, Err, ap, subst, sym}
use Rattle.std.proofs.lemmas.Result.{err_from_is_err_and}
use Rattle.al_typed.specs.declared.program.Program.{Program}
use Rattle.al_typed.specs.Layout.{IsLaidOut}
use Rattle.al_meaning.specs.Here as step
use Rattle.al_control.specs.Models.{here_of}
use Rattle.al_walk_loops.specs.BodyParts.{statements_in}
use Rattle.al_walk_cases.specs.Fits.{WentFits}
use Rattle.al_walk_cases.proofs.Branches.{case_entered}
use Rattle.al_walk_cases.proofs.Explanations.{passed_on}
use Rattle.al_walk_cases.proofs.alts.goes_into.Goals as goal

pub with_went-requires : goal.with_went-requires
with_went-requires c = subst (λ (p : Program). IsLaidOut p.aggregates) (sym (ap (λ (x : step.Here). x.program) c.in_ok-begun.ensures)) c.requires

pub returns-in_err-entered-clause-why : goal.returns-in_err-entered-clause-why
returns-in_err-entered-clause-why c =
    let talk = c.args.communication.now in
    let same : c.in_ok-begun.begun.program.now ≡ c.args.h.program.now = ap (λ (x : step.Here). x.program) c.in_ok-begun.ensures in
    let p = err_from_is_err_and c.from_residual-in_err-entered.result c.from_residual-in_err-entered.ensures.1 in
    passed_on c.from_residual-in_err-entered.result _ (WentFits c.in_ok-begun.begun.program.now talk) (WentFits c.args.h.program.now talk) (p.1 ∙ ap Err p.2)
    (λ fit. subst (λ (p : Program). WentFits p talk) (sym same) fit) c.in_err-entered.ensures.why

pub returns-clause-next : goal.returns-clause-next
returns-clause-next c =
    c.in_ok-moves.ensures
    ∙ case_entered c.args.communication.now c.args.received.now (statements_in c.args.body.now) (here_of c.args.h) (here_of c.in_ok-begun.begun)
    (here_of c.in_ok-entered.entered) c.in_ok-begun.ensures c.in_ok-entered.ensures.next
