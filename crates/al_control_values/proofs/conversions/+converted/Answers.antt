use Rattle.std.proofs.Common.{◌≡◌, ◌+◌, ◌<◌, ◌^◌, ◌++◌, ◌∙◌, List, ℕ, min, length, drop, ap, rules, arith}
use Rattle.al_typed.specs.Capped.{capped}
use Rattle.al_typed.specs.Layout.{words_of}
use Rattle.al_typed.specs.declared.ty.Ty.TheVariants as ty
use Rattle.al_meaning.specs.Words.{converted}
use Rattle.al_control_values.proofs.TypesConverted.{integer_converted, part_done, parts_over, targets_over}
use Rattle.al_control_values.proofs.conversions.+converted.Goals as goal

pub converted-returns-in-Integer : goal.converted-returns-in-Integer
converted-returns-in-Integer t c =
    integer_converted c.converted_integer.result c.args.rows.now c.in-Integer.kind c.args.from.now c.args.to.now c.args.words.now c.in-Integer.is
    c.converted_integer.ensures

pub converted_parts-returns-then-i-to : goal.converted_parts-returns-then-i-to
converted_parts-returns-then-i-to t c =
    targets_over c.args.rows.now c.args.from.now c.args.to.now c.loop-i.i c.loop-i.out c.loop-i.rest.now _ (omega (arith, c.if-i-to.true))
    c.loop-i.invariant.so_far

pub converted_parts-returns : goal.converted_parts-returns
converted_parts-returns t c =
    parts_over c.args.rows.now c.args.from.now c.args.to.now c.loop-i.i c.loop-i.out c.loop-i.rest.now _ (omega (arith, c.loop-i-test.false))
    c.loop-i.invariant.so_far

pub converted_parts-loop-i-preserved : goal.converted_parts-loop-i-preserved
converted_parts-loop-i-preserved t c =
    let rows = c.args.rows.now in
    let few : length c.args.words.now < 2 ^ 64 = search rules in
    let rest = c.loop-i.rest.now in
    let within = c.loop-i.invariant.within in
    let part = c.index-from-i.result in
    let back_len = c.split_at-cut.ensures.back_len in
    let count : c.min-count.result ≡ min (capped (words_of rows part)) (length rest) = omega (arith, c.min-count.ensures, c.words_in.ensures) in
    record {
      so_far =
          ap (λ (o : List ℕ).
          o ++ converted rows (ty.Tuple (drop (c.loop-i.i + 1) c.args.from.now)) (ty.Tuple (drop (c.loop-i.i + 1) c.args.to.now)) c.split_at-cut.result.1.now)
          c.in_ok-append.ensures.ok
          ∙ part_done rows c.args.from.now c.args.to.now c.loop-i.i part c.index-to-i.result c.loop-i.out rest c.in_ok-converted.field-0
          c.split_at-cut.result.0.now c.split_at-cut.result.1.now _ c.min-count.result c.loop-i-test.true c.index-from-i.is
          (omega (arith, c.if-i-to.false)) c.index-to-i.is (omega (arith, few, within)) count c.split_at-cut.ensures.front c.split_at-cut.ensures.back
          c.in_ok-converted.ensures c.loop-i.invariant.so_far;
      within = omega (arith, back_len, within);
    }
