use Rattle.std.proofs.Common.{◌≡◌, ◌∙◌, Err, sym, ap, subst}
use Rattle.std.proofs.lemmas.Result.{err_from_is_err_and}
use Rattle.al_typed.specs.Layout.{IsLaidOut}
use Rattle.al_typed.specs.declared.expression.TExpr.{TExpr}
use Rattle.al_typed.specs.declared.program.Program.{Program}
use Rattle.al_meaning.specs.Calls.{call_work}
use Rattle.al_meaning.specs.Here as step
use Rattle.al_control.specs.Models.{here_of}
use Rattle.al_walk_values.specs.CallForms.{then_of}
use Rattle.al_walk_values.specs.Fits.{CallFits}
use Rattle.al_walk.specs.Works.{CallsFit}
use Rattle.al_walk.proofs.PutCalls.{all_put, last_fits, more_put, rest_fits}
use Rattle.al_walk.proofs.Whys.{why_else}
use Rattle.al_walk.proofs.calls.with_calls.Goals as goal

pub with_call-requires : goal.with_call-requires
with_call-requires c =
    let P : Program → Type 0 = λ p. IsLaidOut p.aggregates in
    subst P (sym c.loop-e.invariant.same) c.requires

pub returns-in_err-h-clause-why : goal.returns-in_err-h-clause-why
returns-in_err-h-clause-why c =
    let p = c.args.h.program.now in
    let q = c.loop-e.h.program.now in
    let e = c.in-Some.e.now in
    let back = err_from_is_err_and c.from_residual.result c.from_residual.ensures.1 in
    let same : p ≡ q = sym c.loop-e.invariant.same in
    let P : Program → Type 0 = λ p. CallFits p e in
    why_else c.from_residual.result c.in_err-h.field-0.0 (CallFits q e) (CallsFit p c.args.calls.now) (back.1 ∙ ap Err back.2)
    (λ fit. subst P same (last_fits (CallFits p) c.loop-e.rest.now c.in-Some.front.now e c.in-Some.ensures.cases (c.loop-e.invariant.fit fit))) c.in_err-h.ensures.why

pub loop-e-preserved : goal.loop-e-preserved
loop-e-preserved c =
    let p = c.args.h.program.now in
    let e = c.in-Some.e.now in
    let front = c.in-Some.front.now in
    let rest = c.loop-e.rest.now in
    let at = here_of c.loop-e.h in
    record {
      works =
          c.loop-e.invariant.works
          ∙ more_put (λ (e : TExpr). call_work p e (then_of c.args.then)) rest front e at (here_of c.in_ok-h.h) c.in-Some.ensures.cases
          (c.in_ok-h.ensures.next ∙ ap (λ (q : Program). step.with_work (call_work q e (then_of c.args.then)) at) c.loop-e.invariant.same);
      same = ap (λ (h : step.Here). h.program) c.in_ok-h.ensures.next ∙ c.loop-e.invariant.same;
      fit = λ fit. rest_fits (CallFits p) rest front e c.in-Some.ensures.cases (c.loop-e.invariant.fit fit);
    }

pub returns-clause-next : goal.returns-clause-next
returns-clause-next c =
    let p = c.args.h.program.now in
    sym (c.loop-e.invariant.works ∙ all_put (λ (e : TExpr). call_work p e (then_of c.args.then)) c.loop-e.rest.now (here_of c.loop-e.h) c.in_default.ensures.cases)
