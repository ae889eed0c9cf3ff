use Rattle.std.proofs.Common.{◌≡◌, ◌+◌, List, ◌∷◌, ◌++◌, drop, length, subst, arith}
use Rattle.al_ir.specs.declared.ir.Operation.{Operation}
use Rattle.al_ir.specs.Bounds.{OperationsFit}
use Rattle.rv_code.specs.Laying.{all_code, rows_from}
use Rattle.rv_form.specs.Program.{places_from, operation_pieces}
use Rattle.rv_emit_ops.specs.Plans.{layout_in}
use Rattle.rv_gen.specs.Emitting.{widths}
use Rattle.rv_gen.proofs.Steps.{OperationsLeft, one_operation, from_item}
use Rattle.rv_gen.proofs.body.operations.Goals as goal

pub operation-requires-clause-operation : goal.operation-requires-clause-operation
operation-requires-clause-operation c =
    let code = c.args.g.now.code in
    let o = c.o-item.result in
    let e : drop c.loop-pc.pc code ≡ o ∷ drop (c.loop-pc.pc + 1) code = from_item code c.as_slice-o-items.result.now c.loop-pc.pc o c.as_slice-o-items.ensures.value c.loop-pc-test.true c.o-item.is in
    let fit = subst (λ (os : List Operation). OperationsFit c.args.ir.now c.args.g.now c.loop-pc.pc os) e c.loop-pc.invariant.fit in
    record {
      program = c.requires.program;
      near = c.requires.near;
      number = omega arith;
      function = c.args.g.now;
      is = c.requires.function;
      slots = omega (arith, c.requires.bounds.stack, c.requires.bounds.slots);
      fits = fit.0;
    }

pub loop-pc-preserved : goal.loop-pc-preserved
loop-pc-preserved c =
    let code = c.args.g.now.code in
    let l = layout_in c.args.ir.now c.args.plan.now in
    let o = c.o-item.result in
    let e : drop c.loop-pc.pc code ≡ o ∷ drop (c.loop-pc.pc + 1) code = from_item code c.as_slice-o-items.result.now c.loop-pc.pc o c.as_slice-o-items.ensures.value c.loop-pc-test.true c.o-item.is in
    let fit = subst (λ (os : List Operation). OperationsFit c.args.ir.now c.args.g.now c.loop-pc.pc os) e c.loop-pc.invariant.fit in
    let left =
    subst (λ (os : List Operation). OperationsLeft l c.args.f c.loop-pc.pc os c.loop-pc.code.items c.loop-pc.lines c.loop-pc.starts
    (c.args.code.now.items ++ all_code (operation_pieces l c.args.f 0 code))
    (c.args.lines.now ++ rows_from (length c.args.code.now.items) (operation_pieces l c.args.f 0 code))
    (c.args.starts.now ++ places_from (length c.args.code.now.items) (widths (operation_pieces l c.args.f 0 code)))) e c.loop-pc.invariant.left in
    record {
      left =
          one_operation c.loop-pc.pc o (drop (c.loop-pc.pc + 1) code) c.loop-pc.code.items c.operation.new.code.items c.loop-pc.lines c.operation.new.lines c.loop-pc.starts c.operation.new.starts
          left c.in_ok-operation.ensures.code c.in_ok-operation.ensures.lines c.in_ok-operation.ensures.starts;
      fit = fit.1;
      near = c.in_ok-operation.ensures.near;
    }
