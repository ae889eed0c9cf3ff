use Rattle.std.proofs.Common.{◌≡◌, ◌+◌, List, ◌∷◌, ◌++◌, Some, All, drop, length, subst, sym, ap, ◌∙◌}
use Rattle.std.specs.List.{slice_get}
use Rattle.std.proofs.lemmas.Option.{slice_get-get_or}
use Rattle.std.proofs.lemmas.List.Elements.{All-get_or}
use Rattle.al_ir.specs.declared.ir.Function.{Function}
use Rattle.al_ir.specs.Bounds.{IsFunction}
use Rattle.rv_code.specs.Laying.{all_code, rows_from}
use Rattle.rv_form.specs.Program.{function_pieces, entries_from, starts_from, reaches_from}
use Rattle.rv_emit_ops.specs.Plans.{layout_in}
use Rattle.rv_gen.proofs.Steps.{FunctionsLeft, one_function, from_item}
use Rattle.rv_gen.proofs.body.functions.Goals as goal

pub loop-f-preserved : goal.loop-f-preserved
loop-f-preserved c =
    let functions = c.args.ir.now.functions in
    let l = layout_in c.args.ir.now c.args.plan.now in
    let g = c.g-item.result in
    let e : drop c.loop-f.f functions ≡ g ∷ drop (c.loop-f.f + 1) functions = from_item functions c.as_slice-g-items.result.now c.loop-f.f g c.as_slice-g-items.ensures.value c.loop-f-test.true c.g-item.is in
    let old = c.args.out.now in
    let left =
    subst (λ (gs : List Function). FunctionsLeft l c.loop-f.f gs c.loop-f.out.code.items c.loop-f.out.lines c.loop-f.out.entries c.loop-f.out.starts c.loop-f.out.reaches
    (old.code.items ++ all_code (function_pieces l 0 functions))
    (old.lines ++ rows_from (length old.code.items) (function_pieces l 0 functions))
    (old.entries ++ entries_from l 0 (length old.code.items) functions)
    (old.starts ++ starts_from l 0 (length old.code.items) functions)
    (old.reaches ++ reaches_from l 0 functions)) e c.loop-f.invariant.left in
    let next = c.function.new.out in
    record {
      left =
          one_function c.loop-f.f g (drop (c.loop-f.f + 1) functions) c.loop-f.out.code.items next.code.items c.loop-f.out.lines next.lines c.loop-f.out.entries next.entries
          c.loop-f.out.starts next.starts c.loop-f.out.reaches next.reaches left
          c.in_ok-function.ensures.code c.in_ok-function.ensures.lines c.in_ok-function.ensures.entries c.in_ok-function.ensures.starts c.in_ok-function.ensures.reaches;
      dispatchers = c.in_ok-function.ensures.dispatchers ∙ c.loop-f.invariant.dispatchers;
      routines = c.in_ok-function.ensures.routines ∙ c.loop-f.invariant.routines;
      found = c.in_ok-function.ensures.found;
    }

pub function-requires-clause-function : goal.function-requires-clause-function
function-requires-clause-function c =
    let items = c.as_slice-g-items.result.now in
    subst (λ (gs : List Function). slice_get gs c.loop-f.f ≡ Some c.g-item.result) c.as_slice-g-items.ensures.value
    (slice_get-get_or items c.loop-f.f c.g-item.result c.loop-f-test.true ∙ ap (λ (g : Function). Some g) (sym c.g-item.is))

pub function-requires-clause-bounds : goal.function-requires-clause-bounds
function-requires-clause-bounds c =
    let items = c.as_slice-g-items.result.now in
    let all = subst (λ (gs : List Function). All (IsFunction c.args.ir.now) gs) (sym c.as_slice-g-items.ensures.value) c.requires.functions in
    subst (λ (g : Function). IsFunction c.args.ir.now g) (sym c.g-item.is) (All-get_or (IsFunction c.args.ir.now) items c.loop-f.f c.g-item.result c.loop-f-test.true all)
