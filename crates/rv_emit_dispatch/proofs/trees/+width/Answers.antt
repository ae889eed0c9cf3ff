use Rattle.std.proofs.Common.{◌≡◌, ◌+◌, ◌-◌, ◌<◌, ap, sym, subst, ◌∙◌, IfOk, arith}
use Rattle.rv_form.specs.Dispatch.{Tree, tree_of, tree_width}
use Rattle.rv_emit_dispatch.proofs.Splitting.{no_low, no_high, two_parts, none_by, some_by}
use Rattle.rv_emit_dispatch.proofs.trees.+width.Goals as goal

pub returns-then-is_empty-2-clause-value : goal.returns-then-is_empty-2-clause-value
returns-then-is_empty-2-clause-value t c =
    let fs = c.args.functions.now in
    let low = c.as_slice-low.result.now in
    let high = c.as_slice-high.result.now in
    let positive : 0 < c.args.bits = omega arith in
    let e = no_low c.args.bits c.args.from c.numbers.result fs low high positive c.numbers.ensures.value (some_by fs c.is_empty.result c.is_empty.ensures c.if-is_empty.false)
    (c.as_slice-low.ensures.value ∙ c.in_ok-lower.ensures) (c.as_slice-high.ensures.value ∙ c.in_ok-upper.ensures) (none_by low c.is_empty-2.result c.is_empty-2.ensures c.if-is_empty-2.true) in
    subst (λ (T : Tree). IfOk c.width.result (λ n. n ≡ tree_width T)) (sym e) c.width.ensures.value

pub returns-then-is_empty-3-clause-value : goal.returns-then-is_empty-3-clause-value
returns-then-is_empty-3-clause-value t c =
    let fs = c.args.functions.now in
    let low = c.as_slice-low.result.now in
    let high = c.as_slice-high.result.now in
    let positive : 0 < c.args.bits = omega arith in
    let e = no_high c.args.bits c.args.from c.numbers.result fs low high positive c.numbers.ensures.value (some_by fs c.is_empty.result c.is_empty.ensures c.if-is_empty.false)
    (c.as_slice-low.ensures.value ∙ c.in_ok-lower.ensures) (c.as_slice-high.ensures.value ∙ c.in_ok-upper.ensures) (none_by high c.is_empty-3.result c.is_empty-3.ensures c.if-is_empty-3.true) in
    subst (λ (T : Tree). IfOk c.width-then-is_empty-3.result (λ n. n ≡ tree_width T)) (sym e) c.width-then-is_empty-3.ensures.value

pub returns-clause-value : goal.returns-clause-value
returns-clause-value t c =
    let fs = c.args.functions.now in
    let low = c.as_slice-low.result.now in
    let high = c.as_slice-high.result.now in
    let positive : 0 < c.args.bits = omega arith in
    let e = two_parts c.args.bits c.args.from c.numbers.result fs low high positive c.numbers.ensures.value (some_by fs c.is_empty.result c.is_empty.ensures c.if-is_empty.false)
    (c.as_slice-low.ensures.value ∙ c.in_ok-lower.ensures) (c.as_slice-high.ensures.value ∙ c.in_ok-upper.ensures)
    (some_by low c.is_empty-2.result c.is_empty-2.ensures c.if-is_empty-2.false) (some_by high c.is_empty-3.result c.is_empty-3.ensures c.if-is_empty-3.false) in
    let first = c.in_ok-low_width.ensures.value in
    let second = c.in_ok-high_width.ensures.value in
    ap (λ n. 5 + (n + c.in_ok-high_width.high_width)) first
    ∙ (ap (λ n. 5 + (tree_width (tree_of (c.args.bits - 1) c.args.from low) + n)) second
    ∙ ap (λ (T : Tree). tree_width T) (sym e))
