use Rattle.std.proofs.Common.{◌≡◌, ◌≤◌, ◌<◌, ℕ, List, [], ◌∷◌, map, length, refl, sym, ◌∙◌, subst, arith}
use Rattle.std.specs.Prelude.{fold, ◌==◌, true, false}
use Rattle.std.proofs.lemmas.Bool.Decides.{nat_tests}
use Rattle.std.proofs.lemmas.List.{length-map, take_all}
use Rattle.al_typed.specs.declared.ty.Ty.{Ty}
use Rattle.al_typed.specs.declared.program.Aggregate.{Aggregate}
use Rattle.al_typed.specs.Layout.{Layout, Run, Measured, RunsTo, in_order, layout, followed, begun}
use Rattle.al_typed.proofs.CappedLemmas.{followed_kept}
use Rattle.al_typed.proofs.Layouts.{closed_kept}
use Rattle.al_typed.proofs.Placing.{one_more}
use Rattle.al_typed.proofs.layout.+rooms.Goals as goal

none : (rows : List Aggregate) (types : List Ty) → (length types == 0) ≡ true → in_order (map (layout rows) types) ≡ record { size = 1; align = 1; units = [] }
unfolding in_order
none rows [] h = refl
none rows (t ∷ ts) h = absurd (grind (arith, nat_tests))

pub in_order-returns-then-is_empty-clause-value : goal.in_order-returns-then-is_empty-clause-value
in_order-returns-then-is_empty-clause-value t c =
    subst (λ (l : Layout). Measured (record { size = 1; align = 1; units = 0 }) l)
    (sym (none c.args.aggregates.now c.args.types.now (sym c.is_empty.ensures ∙ c.if-is_empty.true)))
    (record { size = refl; align = refl; units = refl })

pub in_order-loop-ty-preserved : goal.in_order-loop-ty-preserved
in_order-loop-ty-preserved t c = record {
  run =
      subst (λ (run : Run). RunsTo c.followed-run.result run)
      (sym (one_more c.args.aggregates.now c.args.types.now c.loop-ty.ty-index c.ty-item.result c.loop-ty-test.true c.ty-item.is))
      (followed_kept c.loop-ty.run c.followed-run.result _ c.room_of.result _ c.loop-ty.invariant.run c.room_of.ensures.value
      c.room_of.ensures.align c.followed-run.ensures.at c.followed-run.ensures.align c.followed-run.ensures.units);
  align = let a = c.loop-ty.invariant.align in let b = c.followed-run.ensures.align in omega arith;
}

not_none : (n : ℕ) → (n == 0) ≡ false → 0 < n
not_none n h = grind (arith, nat_tests)

pub in_order-returns-clause-value : goal.in_order-returns-clause-value
in_order-returns-clause-value t c =
    let types = c.args.types.now in
    let ls = map (layout c.args.aggregates.now) types in
    let counted : length ls ≡ length types = length-map types (layout c.args.aggregates.now) in
    let none_left : length ls ≤ c.loop-ty.ty-index = omega (arith, c.loop-ty-test.false) in
    let whole : RunsTo c.loop-ty.run (fold followed begun ls) =
    subst (λ (l : List Layout). RunsTo c.loop-ty.run (fold followed begun l)) (take_all c.loop-ty.ty-index ls none_left) c.loop-ty.invariant.run in
    let some : 0 < length ls = omega (arith, not_none (length types) (sym c.is_empty.ensures ∙ c.if-is_empty.false)) in
    closed_kept c.loop-ty.run ls _ some whole c.loop-ty.invariant.align c.rounded.ensures refl refl
