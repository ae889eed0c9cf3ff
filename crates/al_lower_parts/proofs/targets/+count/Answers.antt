use Rattle.std.proofs.Common.{◌≡◌, IfOk, List, arith, sym, ap, ◌∙◌, subst}
use Rattle.al_typed.specs.declared.expression.TTarget.{TTarget}
use Rattle.al_lower_code.specs.Coded.{Aimed}
use Rattle.al_lower_code.specs.Expressions.{aimed}
use Rattle.al_lower_operands.specs.Rows.{aimed_of}
use Rattle.al_lower_operands.proofs.Forms.{aimed-Parts}
use Rattle.al_lower_base.specs.Spots.{spot_of}
use Rattle.al_lower_parts.proofs.InTargets.{count_more, count_done}
use Rattle.al_lower_parts.proofs.targets.+count.Goals as goal

pub count_row-loop-x-preserved : goal.count_row-loop-x-preserved
count_row-loop-x-preserved t c =
    omega (arith, count_more (spot_of c.args.s) c.args.xs.now c.loop-x.x-index c.x-item.result c.loop-x-test.true c.x-item.is)

pub count_row-returns : goal.count_row-returns
count_row-returns t c = omega (arith, count_done (spot_of c.args.s) c.args.xs.now c.loop-x.x-index (omega (arith, c.loop-x-test.false)))

pub count_parts-returns : goal.count_parts-returns
count_parts-returns t c =
    subst (λ (xs : List TTarget). IfOk c.count_row.result (λ n. n ≡ (aimed_of (spot_of c.args.s) xs).count)) c.as_slice.ensures.value c.count_row.ensures

pub count_targets-returns-in-Parts : goal.count_targets-returns-in-Parts
count_targets-returns-in-Parts t c =
    subst (λ (a : Aimed). IfOk c.count_parts.result (λ n. n ≡ a.count)) (sym (ap (aimed (spot_of c.args.s)) c.in-Parts.is ∙ aimed-Parts (spot_of c.args.s) c.in-Parts.ty c.in-Parts.parts)) c.count_parts.ensures
