use Rattle.std.proofs.Common.{◌+◌, List, drop, ap, ◌∙◌}
use Rattle.al_rules.specs.Outcome.{Outcome, and_then}
use Rattle.al_typed.specs.declared.program.Aggregate.{Aggregate}
use Rattle.al_layout.specs.Rows.{with_rows}
use Rattle.al_layout.proofs.RowsAre.{rows-from}
use Rattle.al_layout.proofs.row.push_rows.Goals as goal

pub loop-k-preserved : goal.loop-k-preserved
loop-k-preserved c = (
  c.loop-k.invariant.0
      ∙ rows-from c.args.forms.now c.args.numbers.now c.loop-k.rows c.args.order.now c.loop-k.k-index c.loop-k-test.true
      ∙ ap (λ (o : Outcome (List Aggregate)). and_then o (λ more. with_rows c.args.forms.now c.args.numbers.now more (drop (c.loop-k.k-index + 1) c.args.order.now))) c.in_ok-push_number.ensures.leads,
  c.in_ok-push_number.ensures.laid,
)
