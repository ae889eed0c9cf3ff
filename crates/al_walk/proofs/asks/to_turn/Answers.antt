use Rattle.std.proofs.Common.{◌≡◌, Err, sym, ap, ◌∙◌}
use Rattle.std.proofs.lemmas.Result.{err_from_is_err_and}
use Rattle.al_world.specs.Turns.{Moves}
use Rattle.al_meaning.specs.Step.{private_step}
use Rattle.al_control.specs.Models.{control_of, next_of}
use Rattle.al_walk.specs.Asks.{TurnFits}
use Rattle.al_walk.specs.Works.{StepFits}
use Rattle.al_walk.proofs.Askings.{moved, turned, asked, is_lighter, moved_fits, step_fits}
use Rattle.al_walk.proofs.Whys.{why_else}
use Rattle.al_walk.proofs.asks.to_turn.Goals as goal

pub returns-in_err-c-clause-why : goal.returns-in_err-c-clause-why
returns-in_err-c-clause-why c =
    let p = err_from_is_err_and c.from_residual.result c.from_residual.ensures.1 in
    why_else c.from_residual.result c.in_err-c.field-0.0 (StepFits c.args.p.now (control_of c.loop-c.control) c.loop-c.privates) (TurnFits c.args.p.now (control_of c.args.control) c.args.privates)
    (p.1 ∙ ap Err p.2) (λ h. step_fits c.args.p.now (control_of c.loop-c.control) c.loop-c.privates (c.loop-c.invariant.fit h)) c.in_err-c.ensures.why

pub loop-c-smaller : goal.loop-c-smaller
loop-c-smaller c =
    is_lighter c.args.p.now (control_of c.loop-c.control) (control_of c.in-Moves.c) c.loop-c.privates c.in-Moves.u (ap next_of (sym c.in-Moves.is) ∙ c.in_ok-c.ensures.next)

pub loop-c-preserved : goal.loop-c-preserved
loop-c-preserved c =
    let step : Moves (control_of c.in-Moves.c) c.in-Moves.u ≡ private_step c.args.p.now (control_of c.loop-c.control) c.loop-c.privates = ap next_of (sym c.in-Moves.is) ∙ c.in_ok-c.ensures.next in
    record {
      turn = moved c.args.p.now (control_of c.loop-c.control) (control_of c.in-Moves.c) c.loop-c.privates c.in-Moves.u step ∙ c.loop-c.invariant.turn;
      fit = λ h. moved_fits c.args.p.now (control_of c.loop-c.control) (control_of c.in-Moves.c) c.loop-c.privates c.in-Moves.u step (c.loop-c.invariant.fit h);
    }

pub returns-in-Turns-clause-next : goal.returns-in-Turns-clause-next
returns-in-Turns-clause-next c =
    turned c.args.p.now c.in-Turns.line (control_of c.loop-c.control) (control_of c.in-Turns.c) c.loop-c.privates c.in-Turns.u (ap next_of (sym c.in-Turns.is) ∙ c.in_ok-c.ensures.next)
    ∙ c.loop-c.invariant.turn

pub returns-in-Asks-clause-next : goal.returns-in-Asks-clause-next
returns-in-Asks-clause-next c =
    asked c.args.p.now c.in-Asks.act c.in-Asks.line (control_of c.loop-c.control) (control_of c.in-Asks.c) c.loop-c.privates c.in-Asks.u (ap next_of (sym c.in-Asks.is) ∙ c.in_ok-c.ensures.next)
    ∙ c.loop-c.invariant.turn
