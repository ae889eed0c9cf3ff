use Rattle.std.proofs.Common.{◌∙◌, ap, sym}
use Rattle.std.proofs.lemmas.Bool.{ne_eqb}
use Rattle.std.specs.Prelude.{◌||◌}
use Rattle.al_walk_jumps.specs.Holds.{any_holds, holds}
use Rattle.al_walk_jumps.specs.Labelled.{other_holds}
use Rattle.al_walk_jumps.proofs.Labels.{holds-Alt, holds-Block, holds-Do, holds-For, holds-If, holds-Label, holds-Rescue, holds-Switch, holds-While}
use Rattle.al_walk_jumps.proofs.leads.+holds.Goals as goal

pub holds-returns-in-Block : goal.holds-returns-in-Block
holds-returns-in-Block t c =
    c.any_holds.ensures ∙ ap (any_holds c.args.number) c.as_slice.ensures.value ∙ sym (ap (holds c.args.number) c.in-Block.is ∙ holds-Block c.args.number c.in-Block.line c.in-Block.body)

pub holds-returns-else-label-number : goal.holds-returns-else-label-number
holds-returns-else-label-number t c =
    c.holds.ensures ∙ ap (holds c.args.number) c.get.ensures
    ∙ sym
    (ap (holds c.args.number) c.in-Label.is ∙ holds-Label c.args.number c.in-Label.line c.in-Label.label c.in-Label.body
    ∙ ap (λ b. b || holds c.args.number c.in-Label.body) (ne_eqb c.in-Label.label c.args.number c.if-label-number.false))

pub holds-returns-else-label-number-2 : goal.holds-returns-else-label-number-2
holds-returns-else-label-number-2 t c =
    c.holds-else-label-number-2.ensures ∙ ap (holds c.args.number) c.get-else-label-number-2.ensures
    ∙ sym
    (ap (holds c.args.number) c.in-Rescue.is ∙ holds-Rescue c.args.number c.in-Rescue.line c.in-Rescue.label c.in-Rescue.body
    ∙ ap (λ b. b || holds c.args.number c.in-Rescue.body) (ne_eqb c.in-Rescue.label c.args.number c.if-label-number-2.false))

pub holds-returns-then-holds : goal.holds-returns-then-holds
holds-returns-then-holds t c =
    let here = ap (holds c.args.number) (sym c.get-in-If.ensures) ∙ sym c.holds-in-If.ensures ∙ c.if-holds.true in
    c.if-holds.true
    ∙ sym (ap (holds c.args.number) c.in-If.is ∙ holds-If c.args.number c.in-If.line c.in-If.condition c.in-If.then c.in-If.other
    ∙ ap (λ b. b || other_holds c.args.number c.in-If.other) here)

pub holds-returns-else-holds : goal.holds-returns-else-holds
holds-returns-else-holds t c =
    let nowhere = ap (holds c.args.number) (sym c.get-in-If.ensures) ∙ sym c.holds-in-If.ensures ∙ c.if-holds.false in
    c.other_holds.ensures
    ∙ sym (ap (holds c.args.number) c.in-If.is ∙ holds-If c.args.number c.in-If.line c.in-If.condition c.in-If.then c.in-If.other
    ∙ ap (λ b. b || other_holds c.args.number c.in-If.other) nowhere)

pub holds-returns-in-While : goal.holds-returns-in-While
holds-returns-in-While t c =
    c.holds-in-While.ensures ∙ ap (holds c.args.number) c.get-in-While.ensures ∙ sym (ap (holds c.args.number) c.in-While.is ∙ holds-While c.args.number c.in-While.line c.in-While.condition c.in-While.body)

pub holds-returns-in-Do : goal.holds-returns-in-Do
holds-returns-in-Do t c =
    c.holds-in-Do.ensures ∙ ap (holds c.args.number) c.get-in-Do.ensures ∙ sym (ap (holds c.args.number) c.in-Do.is ∙ holds-Do c.args.number c.in-Do.line c.in-Do.body c.in-Do.condition)

pub holds-returns-in-For : goal.holds-returns-in-For
holds-returns-in-For t c =
    c.holds-in-For.ensures ∙ ap (holds c.args.number) c.get-in-For.ensures ∙ sym (ap (holds c.args.number) c.in-For.is ∙ holds-For c.args.number c.in-For.line c.in-For.start c.in-For.condition c.in-For.step c.in-For.body)

pub holds-returns-in-Switch : goal.holds-returns-in-Switch
holds-returns-in-Switch t c =
    c.any_holds-in-Switch.ensures ∙ ap (any_holds c.args.number) c.as_slice-in-Switch.ensures.value ∙ sym (ap (holds c.args.number) c.in-Switch.is ∙ holds-Switch c.args.number c.in-Switch.line c.in-Switch.value c.in-Switch.body)

pub holds-returns-in-Alt : goal.holds-returns-in-Alt
holds-returns-in-Alt t c =
    c.any_holds-in-Alt.ensures ∙ ap (any_holds c.args.number) c.as_slice-in-Alt.ensures.value ∙ sym (ap (holds c.args.number) c.in-Alt.is ∙ holds-Alt c.args.number c.in-Alt.line c.in-Alt.body)
