use Rattle.std.proofs.Common.{◌≡◌, ◌+◌, ◌-◌, ◌<◌, ◌++◌, length, slice_index, sym, ap, subst, ◌∙◌, OnOk, arith}
use Rattle.std.proofs.lemmas.Result.{on_ok_weaker}
use Rattle.al_ir.specs.Control.{function_at, stack_of}
use Rattle.rv_form.specs.Dispatch.{Tree, tree_of, tree_code}
use Rattle.rv_emit_dispatch.proofs.Splitting.{no_low, no_high, two_parts, none_by, some_by, some_first, parts_code}
use Rattle.rv_emit_dispatch.proofs.trees.+part.Goals as goal

pub returns-then-is_empty : goal.returns-then-is_empty
returns-then-is_empty t c =
    let fs = c.args.functions.now in
    let low = c.as_slice-low.result.now in
    let high = c.as_slice-high.result.now in
    let positive : 0 < c.args.bits = omega arith in
    let e = no_low c.args.bits c.args.from c.numbers.result fs low high positive c.numbers.ensures.value (some_first fs c.in-Some.first.now c.in-Some.ensures.value)
    (c.as_slice-low.ensures.value ∙ c.in_ok-lower.ensures) (c.as_slice-high.ensures.value ∙ c.in_ok-upper.ensures) (none_by low c.is_empty.result c.is_empty.ensures c.if-is_empty.true) in
    subst (λ (T : Tree). OnOk c.part.result (c.part.new.code.items ≡ c.args.code.now.items ++ tree_code (λ f. slice_index c.args.entries.now f) (λ f. stack_of (function_at c.args.ir.now f)) (length c.args.code.now.items) T)) (sym e) c.part.ensures

pub returns-then-is_empty-2 : goal.returns-then-is_empty-2
returns-then-is_empty-2 t c =
    let fs = c.args.functions.now in
    let low = c.as_slice-low.result.now in
    let high = c.as_slice-high.result.now in
    let positive : 0 < c.args.bits = omega arith in
    let e = no_high c.args.bits c.args.from c.numbers.result fs low high positive c.numbers.ensures.value (some_first fs c.in-Some.first.now c.in-Some.ensures.value)
    (c.as_slice-low.ensures.value ∙ c.in_ok-lower.ensures) (c.as_slice-high.ensures.value ∙ c.in_ok-upper.ensures) (none_by high c.is_empty-2.result c.is_empty-2.ensures c.if-is_empty-2.true) in
    subst (λ (T : Tree). OnOk c.part-then-is_empty-2.result (c.part-then-is_empty-2.new.code.items ≡ c.args.code.now.items ++ tree_code (λ f. slice_index c.args.entries.now f) (λ f. stack_of (function_at c.args.ir.now f)) (length c.args.code.now.items) T)) (sym e) c.part-then-is_empty-2.ensures

pub returns : goal.returns
returns t c =
    let fs = c.args.functions.now in
    let low = c.as_slice-low.result.now in
    let high = c.as_slice-high.result.now in
    let positive : 0 < c.args.bits = omega arith in
    let e = two_parts c.args.bits c.args.from c.numbers.result fs low high positive c.numbers.ensures.value (some_first fs c.in-Some.first.now c.in-Some.ensures.value)
    (c.as_slice-low.ensures.value ∙ c.in_ok-lower.ensures) (c.as_slice-high.ensures.value ∙ c.in_ok-upper.ensures)
    (some_by low c.is_empty.result c.is_empty.ensures c.if-is_empty.false) (some_by high c.is_empty-2.result c.is_empty-2.ensures c.if-is_empty-2.false) in
    let old = c.args.code.now.items in
    on_ok_weaker c.part-3.result
    (λ is.
    parts_code (λ f. slice_index c.args.entries.now f) (λ f. stack_of (function_at c.args.ir.now f)) (c.args.from + c.numbers.result) c.in_ok-at.at c.in_ok-low_width.low_width
    (tree_of (c.args.bits - 1) c.args.from low) (tree_of (c.args.bits - 1) (c.args.from + c.numbers.result) high) old c.compare.new.code.items c.part-2.new.code.items c.part-3.new.code.items
    c.in_ok-at.ensures.value c.in_ok-low_width.ensures.value c.in_ok-compare.ensures c.in_ok-part.ensures is
    ∙ ap (λ (T : Tree). old ++ tree_code (λ f. slice_index c.args.entries.now f) (λ f. stack_of (function_at c.args.ir.now f)) (length old) T) (sym e))
    c.part-3.ensures
