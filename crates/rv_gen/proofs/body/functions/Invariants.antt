use Rattle.std.proofs.Common.{◌≡◌, ◌++◌, drop, length}
use Rattle.rv_code.specs.Laying.{all_code, rows_from}
use Rattle.rv_form.specs.Program.{function_pieces, entries_from, starts_from, reaches_from}
use Rattle.rv_emit_ops.specs.Plans.{layout_in}
use Rattle.rv_gen.specs.Emitting.{AreFound}
use Rattle.rv_gen.proofs.Steps.{FunctionsLeft}
use Rattle.rv_gen.proofs.body.functions.Given as goal

abbrev pub invariant-loop-f : goal.invariant-loop-f
invariant-loop-f l = record {
  left : FunctionsLeft (layout_in l.ir l.plan) l.f (drop l.f l.ir.functions) l.out.code.items l.out.lines l.out.entries l.out.starts l.out.reaches
      (l.fn.out.code.items ++ all_code (function_pieces (layout_in l.ir l.plan) 0 l.ir.functions))
      (l.fn.out.lines ++ rows_from (length l.fn.out.code.items) (function_pieces (layout_in l.ir l.plan) 0 l.ir.functions))
      (l.fn.out.entries ++ entries_from (layout_in l.ir l.plan) 0 (length l.fn.out.code.items) l.ir.functions)
      (l.fn.out.starts ++ starts_from (layout_in l.ir l.plan) 0 (length l.fn.out.code.items) l.ir.functions)
      (l.fn.out.reaches ++ reaches_from (layout_in l.ir l.plan) 0 l.ir.functions);
  dispatchers : l.out.dispatchers ≡ l.fn.out.dispatchers;
  routines : l.out.routines ≡ l.fn.out.routines;
  found : AreFound l.out;
}
