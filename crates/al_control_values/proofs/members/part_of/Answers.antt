use Rattle.std.proofs.Common.{◌≡◌, ◌∙◌, ◌<◌, ◌^◌, ℕ, List, Some, ap, length, sym, subst}
use Rattle.std.proofs.lemmas.Result.{IfOk-weaker}
use Rattle.al_typed.specs.declared.program.Aggregate.{Aggregate}
use Rattle.al_typed.specs.Layout.{member}
use Rattle.al_control_values.specs.Reaches.{Finds}
use Rattle.al_control_values.specs.Units.{AreShort}
use Rattle.al_control_values.proofs.UnitSizes.{units_short}
use Rattle.al_control_values.proofs.Parts.{part_is}
use Rattle.al_control_values.proofs.members.part_of.Goals as goal

pub words_of_units-requires : goal.words_of_units-requires
words_of_units-requires c =
    subst AreShort (sym (c.deref.ensures.value ∙ c.in_ok-units-in-Some.ensures)) (units_short c.args.p.now.aggregates c.in-Some.reached.ty.now)

pub returns-in_ok-units-in-Some : goal.returns-in_ok-units-in-Some
returns-in_ok-units-in-Some c =
    let bytes = c.as_slice-in-Some.result.now in
    let found : Finds (Some c.in-Some.reached) (member c.args.p.now.aggregates c.args.path.now c.args.ty.now) =
    subst (λ (rows : List Aggregate). Finds (Some c.in-Some.reached) (member rows c.args.path.now c.args.ty.now)) c.as_slice.ensures.value c.in-Some.ensures
    in
    let few : length bytes < 2 ^ 64 = subst (λ (n : ℕ). n < 2 ^ 64) (sym (ap length c.as_slice-in-Some.ensures.value)) c.as_slice-in-Some.ensures.bound in
    IfOk-weaker c.words_of_units.result _ _
    (λ (ws : List ℕ) e.
    part_is c.args.p.now.aggregates c.args.ty.now c.args.path.now c.args.words.now c.in-Some.reached bytes c.deref.result.now ws found
    (c.as_slice-in-Some.ensures.value ∙ c.in_ok-bytes-in-Some.ensures) few (c.deref.ensures.value ∙ c.in_ok-units-in-Some.ensures) e)
    c.words_of_units.ensures
