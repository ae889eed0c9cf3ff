use Rattle.std.proofs.Common.{ℕ, ◌-◌, ◌<◌, Err, sym, ap, subst, ◌∙◌, arith}
use Rattle.std.proofs.lemmas.Result.{err_from_is_err_and}
use Rattle.al_world.specs.Turns.{Turns}
use Rattle.al_control.specs.declared.control.Next.{Next}
use Rattle.al_control.specs.Models.{control_of, next_of}
use Rattle.al_walk.specs.Asks.{AskFits, TurnFits, TurnsFit}
use Rattle.al_walk.proofs.Askings.{asked_after, ask_asks, ask_begins, ask_ends, ask_pauses, ask_turns, first_fits, more_fit, next_fits, rest_fit}
use Rattle.al_walk.proofs.Whys.{why_else}
use Rattle.al_walk.proofs.asks.ask.Goals as goal

pub returns-in_err-next-clause-why : goal.returns-in_err-next-clause-why
returns-in_err-next-clause-why c =
    let p = err_from_is_err_and c.from_residual.result c.from_residual.ensures.1 in
    why_else c.from_residual.result c.in_err-next.field-0.0 (TurnFits c.args.p.now (control_of c.args.control) c.args.privates) (AskFits c.args.p.now (control_of c.args.control) c.args.privates)
    (p.1 ∙ ap Err p.2) (first_fits c.args.p.now (control_of c.args.control) c.args.privates) c.in_err-next.ensures.why

pub loop-next-init : goal.loop-next-init
loop-next-init c = record {
  asked = ap (asked_after c.args.p.now 4095) c.in_ok-next.ensures.next ∙ ask_begins c.args.p.now (control_of c.args.control) c.args.privates;
  fit = λ h. subst (TurnsFit c.args.p.now 4095) (sym c.in_ok-next.ensures.next) (rest_fit c.args.p.now (control_of c.args.control) c.args.privates h);
}

pub returns-in-Asks-clause-asked : goal.returns-in-Asks-clause-asked
returns-in-Asks-clause-asked c =
    sym (ask_asks c.args.p.now c.loop-next.left c.in-Asks.act c.in-Asks.line (control_of c.in-Asks.control) c.in-Asks.privates)
    ∙ ap (λ (n : Next). asked_after c.args.p.now c.loop-next.left (next_of n)) (sym c.in-Asks.is)
    ∙ c.loop-next.invariant.asked

pub returns-then-left-eq0-clause-asked : goal.returns-then-left-eq0-clause-asked
returns-then-left-eq0-clause-asked c =
    sym (ask_pauses c.args.p.now c.in-Turns.line (control_of c.in-Turns.control) c.in-Turns.privates)
    ∙ ap (λ (n : ℕ). asked_after c.args.p.now n (Turns c.in-Turns.line (control_of c.in-Turns.control) c.in-Turns.privates)) (sym c.if-left-eq0.true)
    ∙ ap (λ (n : Next). asked_after c.args.p.now c.loop-next.left (next_of n)) (sym c.in-Turns.is)
    ∙ c.loop-next.invariant.asked

pub returns-in_err-next-in-Turns-clause-why : goal.returns-in_err-next-in-Turns-clause-why
returns-in_err-next-in-Turns-clause-why c =
    let p = err_from_is_err_and c.from_residual-in_err-next-in-Turns.result c.from_residual-in_err-next-in-Turns.ensures.1 in
    let below : 0 < c.loop-next.left = omega arith in
    let P : Next → Type 0 = λ n. TurnsFit c.args.p.now c.loop-next.left (next_of n) in
    why_else c.from_residual-in_err-next-in-Turns.result c.in_err-next-in-Turns.field-0.0 (TurnFits c.args.p.now (control_of c.in-Turns.control) c.in-Turns.privates) (AskFits c.args.p.now (control_of c.args.control) c.args.privates)
    (p.1 ∙ ap Err p.2) (λ h. next_fits c.args.p.now c.loop-next.left c.in-Turns.line (control_of c.in-Turns.control) c.in-Turns.privates below (subst P c.in-Turns.is (c.loop-next.invariant.fit h))) c.in_err-next-in-Turns.ensures.why

pub loop-next-preserved : goal.loop-next-preserved
loop-next-preserved c =
    let below : 0 < c.loop-next.left = omega arith in
    let P : Next → Type 0 = λ n. TurnsFit c.args.p.now c.loop-next.left (next_of n) in
    record {
      asked =
          ap (asked_after c.args.p.now (c.loop-next.left - 1)) c.in_ok-next-in-Turns.ensures.next
          ∙ sym (ask_turns c.args.p.now c.loop-next.left c.in-Turns.line (control_of c.in-Turns.control) c.in-Turns.privates below)
          ∙ ap (λ (n : Next). asked_after c.args.p.now c.loop-next.left (next_of n)) (sym c.in-Turns.is)
          ∙ c.loop-next.invariant.asked;
      fit = λ h. subst (TurnsFit c.args.p.now (c.loop-next.left - 1)) (sym c.in_ok-next-in-Turns.ensures.next) (more_fit c.args.p.now c.loop-next.left c.in-Turns.line (control_of c.in-Turns.control) c.in-Turns.privates below (subst P c.in-Turns.is (c.loop-next.invariant.fit h)));
    }

pub returns-in-Moves-clause-asked : goal.returns-in-Moves-clause-asked
returns-in-Moves-clause-asked c =
    sym (ask_ends c.args.p.now c.loop-next.left (control_of c.in-Moves.control) c.in-Moves.privates)
    ∙ ap (λ (n : Next). asked_after c.args.p.now c.loop-next.left (next_of n)) (sym c.in-Moves.is)
    ∙ c.loop-next.invariant.asked
