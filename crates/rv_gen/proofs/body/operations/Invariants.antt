use Rattle.std.proofs.Common.{◌++◌, All, drop, length}
use Rattle.al_ir.specs.Bounds.{OperationsFit}
use Rattle.rv_code.specs.Laying.{all_code, rows_from}
use Rattle.rv_form.specs.Program.{places_from, operation_pieces}
use Rattle.rv_emit_ops.specs.Plans.{Near, layout_in}
use Rattle.rv_gen.specs.Emitting.{widths}
use Rattle.rv_gen.proofs.Steps.{OperationsLeft}
use Rattle.rv_gen.proofs.body.operations.Given as goal

abbrev pub invariant-loop-pc : goal.invariant-loop-pc
invariant-loop-pc l = record {
  left : OperationsLeft (layout_in l.ir l.plan) l.f l.pc (drop l.pc l.g.code) l.code.items l.lines l.starts
      (l.fn.code.items ++ all_code (operation_pieces (layout_in l.ir l.plan) l.f 0 l.g.code))
      (l.fn.lines ++ rows_from (length l.fn.code.items) (operation_pieces (layout_in l.ir l.plan) l.f 0 l.g.code))
      (l.fn.starts ++ places_from (length l.fn.code.items) (widths (operation_pieces (layout_in l.ir l.plan) l.f 0 l.g.code)));
  fit : OperationsFit l.ir l.g l.pc (drop l.pc l.g.code);
  near : All Near l.starts;
}
