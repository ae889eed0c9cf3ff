use Rattle.std.proofs.Common.{◌≡◌, ◌<◌, ◌*◌, ◌∙◌, ℕ, sym, ap, arith, length-take}
use Rattle.std.proofs.lemmas.Option.{slice_get_within}
use Rattle.std.proofs.lemmas.List.Sums.{sum_by_more}
use Rattle.al_typed.specs.Capped.{capped}
use Rattle.al_typed.specs.declared.ty.Ty.TheVariants as ty
use Rattle.al_typed.proofs.CappedLemmas.{capped-mul}
use Rattle.al_typed.proofs.Depths.{deepest-at, depth-Aggregate, depth-Array, depth-Tuple, depth-before}
use Rattle.al_value_text.specs.Values.{Shown, words_in}
use Rattle.al_value_text.proofs.Shapes.{shown-bodiless, shown-members, shown-none, shown-union, words-Array, words-Chan, words-Function, words-Integer, words-Pointer, words-Tuple, words-Void, words_of_all}
use Rattle.al_value_text.proofs.width.+width.Goals as goal

abbrev words : Shown → ℕ
words s = s.words

pub width-width-requires : goal.width-width-requires
width-width-requires t c =
    let falls = depth-Array c.args.ty.now c.in-Array.element c.get.result.now c.in-Array.count c.in-Array.is c.get.ensures in
    (omega arith, tt)

pub width-widths-requires : goal.width-widths-requires
width-widths-requires t c =
    let falls = depth-Tuple c.args.ty.now c.in-Tuple.parts c.as_slice.result.now c.in-Tuple.is c.as_slice.ensures.value in
    (omega arith, tt)

pub width-aggregate_width-requires : goal.width-aggregate_width-requires
width-aggregate_width-requires t c =
    let falls = depth-Aggregate c.args.ty.now c.in-Aggregate.number c.in-Aggregate.is in
    (omega arith, tt)

pub widths-width-requires : goal.widths-width-requires
widths-width-requires t c =
    let falls = deepest-at c.args.types.now c.loop-ty.ty-index c.ty-item.result c.loop-ty-test.true c.ty-item.is in
    (omega arith, tt)

pub aggregate_width-widths-requires : goal.aggregate_width-widths-requires
aggregate_width-widths-requires t c =
    let falls =
    depth-before c.args.aggregates.now c.args.number c.in-Some.aggregate.now c.in-Some-members.members c.as_slice.result.now (sym c.in-Some.ensures) c.in-Some-members.is
    c.as_slice.ensures.value in
    (omega arith, tt)

pub width-returns-in-Void : goal.width-returns-in-Void
width-returns-in-Void t c = omega (arith, ap (words_in c.args.aggregates.now) c.in-Void.is ∙ words-Void c.args.aggregates.now)

pub width-returns-in-Function : goal.width-returns-in-Function
width-returns-in-Function t c =
    omega (arith, ap (words_in c.args.aggregates.now) c.in-Function.is ∙ words-Function c.args.aggregates.now _ _)

pub width-returns-in-Pointer : goal.width-returns-in-Pointer
width-returns-in-Pointer t c = omega (arith, ap (words_in c.args.aggregates.now) c.in-Pointer.is ∙ words-Pointer c.args.aggregates.now _)

pub width-returns-in-Chan : goal.width-returns-in-Chan
width-returns-in-Chan t c = omega (arith, ap (words_in c.args.aggregates.now) c.in-Chan.is ∙ words-Chan c.args.aggregates.now _ _)

pub width-returns-in-Integer : goal.width-returns-in-Integer
width-returns-in-Integer t c =
    omega (arith, ap (words_in c.args.aggregates.now) c.in-Integer.is ∙ words-Integer c.args.aggregates.now _, c.integer_width.ensures)

pub width-returns-in-Tuple : goal.width-returns-in-Tuple
width-returns-in-Tuple t c =
    c.widths.ensures ∙ ap capped (sym (ap (words_in c.args.aggregates.now) (c.in-Tuple.is ∙ ap ty.Tuple (sym c.as_slice.ensures.value)) ∙ words-Tuple c.args.aggregates.now _))

pub width-returns-in-Array : goal.width-returns-in-Array
width-returns-in-Array t c =
    let one = ap (words_in c.args.aggregates.now) c.get.ensures in
    c.saturating_mul.ensures
    ∙ ap (λ m. capped (m * c.width.result)) c.from.ensures
    ∙ ap (λ n. capped (c.in-Array.count * n)) c.width.ensures
    ∙ capped-mul c.in-Array.count (words_in c.args.aggregates.now c.get.result.now)
    ∙ ap (λ n. capped (c.in-Array.count * n)) one
    ∙ ap capped (sym (ap (words_in c.args.aggregates.now) c.in-Array.is ∙ words-Array c.args.aggregates.now _ _))

pub aggregate_width-returns-in-None : goal.aggregate_width-returns-in-None
aggregate_width-returns-in-None t c = omega (arith, ap words (shown-none c.args.aggregates.now c.args.number (sym c.in-None.ensures)))

pub aggregate_width-returns-then-aggregate : goal.aggregate_width-returns-then-aggregate
aggregate_width-returns-then-aggregate t c =
    omega (arith, c.from.ensures, ap words (shown-union c.args.aggregates.now c.args.number c.in-Some.aggregate.now (sym c.in-Some.ensures) c.if-aggregate.true))

pub aggregate_width-returns-in-None-members : goal.aggregate_width-returns-in-None-members
aggregate_width-returns-in-None-members t c =
    omega (arith, ap words (shown-bodiless c.args.aggregates.now c.args.number c.in-Some.aggregate.now (sym c.in-Some.ensures) c.if-aggregate.false c.in-None-members.is))

pub aggregate_width-returns-in-Some-members : goal.aggregate_width-returns-in-Some-members
aggregate_width-returns-in-Some-members t c =
    c.widths.ensures
    ∙ ap capped (sym (ap words (shown-members c.args.aggregates.now c.args.number c.in-Some.aggregate.now c.in-Some-members.members c.as_slice.result.now (sym c.in-Some.ensures)
    c.if-aggregate.false c.in-Some-members.is c.as_slice.ensures.value)
    ∙ words_of_all _ c.as_slice.result.now))
