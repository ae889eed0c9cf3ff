use Rattle.std.proofs.Common.{◌≡◌, ◌++◌, OnOk, List, arith, sym, ap, ◌∙◌, subst}
use Rattle.al_typed.specs.declared.expression.TTarget.{TTarget}
use Rattle.al_lower_code.specs.Coded.{Aimed}
use Rattle.al_lower_code.specs.Expressions.{aimed}
use Rattle.al_lower_operands.specs.Rows.{aimed_of}
use Rattle.al_lower_operands.proofs.Forms.{aimed-Into, aimed-Parts}
use Rattle.al_lower_base.specs.Spots.{spot_of}
use Rattle.al_lower_parts.proofs.InTargets.{saves_more, saves_done}
use Rattle.al_lower_parts.proofs.targets.+saves.Goals as goal

pub save_row-loop-x-preserved : goal.save_row-loop-x-preserved
save_row-loop-x-preserved t c =
    rw (c.in_ok-save_target.ensures, c.in_ok-at.ensures, c.in_ok-part.ensures, c.in_ok-count_targets.ensures, c.in_ok-words.ensures, c.ty.ensures)
    (saves_more (spot_of c.args.s) c.args.xs.now c.loop-x.x-index c.x-item.result c.loop-x.at c.loop-x.part c.loop-x.code _
    c.loop-x-test.true c.x-item.is c.loop-x.invariant)

pub save_row-returns : goal.save_row-returns
save_row-returns t c =
    saves_done (spot_of c.args.s) c.args.xs.now c.loop-x.x-index c.loop-x.at c.loop-x.part c.loop-x.code _ (omega (arith, c.loop-x-test.false)) c.loop-x.invariant

pub save_parts-returns : goal.save_parts-returns
save_parts-returns t c =
    subst (λ (xs : List TTarget). OnOk c.save_row.result (c.save_row.new.code ≡ c.args.code.now ++ (aimed_of (spot_of c.args.s) xs).save c.args.to c.args.from))
    c.as_slice.ensures.value c.save_row.ensures

pub save_target-returns-in-Into : goal.save_target-returns-in-Into
save_target-returns-in-Into t c =
    subst (λ (a : Aimed). OnOk c.save_boxed.result (c.save_boxed.new.code ≡ c.args.code.now ++ a.save c.args.to c.args.from)) (sym (ap (aimed (spot_of c.args.s)) c.in-Into.is ∙ aimed-Into (spot_of c.args.s) _)) c.save_boxed.ensures

pub save_target-returns-in-Parts : goal.save_target-returns-in-Parts
save_target-returns-in-Parts t c =
    subst (λ (a : Aimed). OnOk c.save_parts.result (c.save_parts.new.code ≡ c.args.code.now ++ a.save c.args.to c.args.from)) (sym (ap (aimed (spot_of c.args.s)) c.in-Parts.is ∙ aimed-Parts (spot_of c.args.s) c.in-Parts.ty c.in-Parts.parts)) c.save_parts.ensures
