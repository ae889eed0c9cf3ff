use Rattle.std.proofs.Common.{◌≡◌, length}
use Rattle.std.specs.List.{flat_map}
use Rattle.al_typed.specs.declared.expression.TExpr.{TExpr}
use Rattle.al_meaning.specs.Calls.{call_work}
use Rattle.al_meaning.specs.Here.{with_work}
use Rattle.al_control.specs.Models.{here_of}
use Rattle.al_walk_values.specs.CallForms.{then_of}
use Rattle.al_walk.specs.Works.{CallsFit}
use Rattle.al_walk.proofs.calls.with_calls.Given as goal

abbrev pub invariant-loop-e : goal.invariant-loop-e
invariant-loop-e l = record {
  works :
      with_work (flat_map (λ (e : TExpr). call_work l.fn.h.program.now e (then_of l.then)) l.calls) (here_of l.fn.h)
      ≡ with_work (flat_map (λ (e : TExpr). call_work l.fn.h.program.now e (then_of l.then)) l.rest) (here_of l.h);
  same : l.h.program.now ≡ l.fn.h.program.now;
  fit : CallsFit l.fn.h.program.now l.calls → CallsFit l.fn.h.program.now l.rest;
}

abbrev pub decreases-loop-e : goal.decreases-loop-e
decreases-loop-e l = length l.rest
