use Rattle.std.proofs.Common.{◌++◌, ◌+◌, ◌∙◌, ℕ, List, ap, drop}
use Rattle.al_meaning.specs.Words.{fitted_to}
use Rattle.al_control_values.proofs.Fitted.{word_fitted}
use Rattle.al_control_values.proofs.words.fitted_to.Goals as goal

pub loop-unit-preserved : goal.loop-unit-preserved
loop-unit-preserved c =
    let more = c.split_word-cut.result.1.now in
    ap (λ (f : List ℕ). f ++ fitted_to (drop (c.loop-unit.unit-index + 1) c.args.units.now) more) c.in_ok-push.ensures.ok
    ∙ word_fitted c.args.units.now c.loop-unit.unit-index _ c.loop-unit.fitted c.loop-unit.rest.now more _ c.kept.result c.loop-unit-test.true
    (rw c.split_word-cut.ensures.word at c.kept.ensures) c.split_word-cut.ensures.rest c.loop-unit.invariant
