use Rattle.std.proofs.Common.{refl, rules, subst}
use Rattle.std.proofs.lemmas.List.{take_all}
use Rattle.std.proofs.lemmas.List.Elements.{All-more}
use Rattle.al_typed.specs.declared.program.Local.{Local}
use Rattle.al_control_values.specs.Fits.{IsSmall}
use Rattle.al_walk_calls.specs.Fits.{AreSmall}
use Rattle.al_walk_calls.proofs.rows.are_small.Goals as goal

pub loop-local-preserved : goal.loop-local-preserved
loop-local-preserved c =
    let small : IsSmall c.args.p.now c.local-item.result.ty = search rules in
    All-more (λ (l : Local). IsSmall c.args.p.now l.ty) c.args.locals.now c.loop-local.local-index c.local-item.result c.loop-local-test.true c.loop-local.invariant
    (subst (λ (l : Local). IsSmall c.args.p.now l.ty) c.local-item.is small)

pub returns : goal.returns
returns c =
    (λ _. subst (AreSmall c.args.p.now) (take_all c.loop-local.local-index c.args.locals.now c.loop-local-test.false) c.loop-local.invariant, λ _. refl)
