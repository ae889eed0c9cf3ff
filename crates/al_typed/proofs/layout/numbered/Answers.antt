use Rattle.std.proofs.Common.{arith, sym, subst}
use Rattle.al_typed.specs.Layout.{Layout, Measured}
use Rattle.al_typed.proofs.Layouts.{layout-none, kept_measured, kept-align}
use Rattle.al_typed.proofs.layout.numbered.Goals as goal

pub returns-in-None-clause-value : goal.returns-in-None-clause-value
returns-in-None-clause-value c =
    subst (λ (l : Layout). Measured c.nothing.result l) (sym (layout-none c.args.aggregates.now c.args.number (sym c.in-None.ensures))) c.nothing.ensures

pub returns-in-Some-clause-value : goal.returns-in-Some-clause-value
returns-in-Some-clause-value c =
    kept_measured c.args.aggregates.now c.args.number c.in-Some.aggregate.now c.kept.result c.requires (sym c.in-Some.ensures)
    c.kept.ensures.size c.kept.ensures.align c.kept.ensures.units c.kept.ensures.bounds.0 c.kept.ensures.bounds.1

pub returns-in-Some-clause-align : goal.returns-in-Some-clause-align
returns-in-Some-clause-align c =
    let above = kept-align c.args.aggregates.now c.args.number c.in-Some.aggregate.now c.requires (sym c.in-Some.ensures) in
    omega (arith, c.kept.ensures.align)
