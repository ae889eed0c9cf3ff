use Rattle.std.proofs.Common.{◌∙◌, ℕ, List, Option, ap}
use Rattle.al_lower_stmt.specs.Leading.{noted}
use Rattle.al_lower_code.specs.Statements.{Targets, stmt_code}
use Rattle.al_lower_base.specs.Spots.{spot_of}
use Rattle.al_lower_stmt.proofs.Joined.{one}
use Rattle.al_lower_stmt.proofs.Tables.{all_labels}
use Rattle.al_lower_stmt.proofs.statements.body.Goals as goal

pub returns : goal.returns
returns c =
    one c.statement.result _ _ _ _ c.statement.ensures
    (ap (λ (targets : Targets). stmt_code (spot_of c.args.s) targets c.args.a.now c.args.pc)
    (all_labels (spot_of c.args.s) c.args.a.now c.args.pc c.as_slice-labels.result.now c.as_slice-behind.result.now c.as_slice-again.result.now
    (λ l. ap (λ (table : List (Option ℕ)). noted table l) c.as_slice-labels.ensures.value ∙ c.in_ok-table.ensures l)
    (c.as_slice-behind.ensures.value ∙ c.new-behinds.ensures) (c.as_slice-again.ensures.value ∙ c.new-agains.ensures)))
