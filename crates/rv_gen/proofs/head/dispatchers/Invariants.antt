use Rattle.std.proofs.Common.{◌++◌, All, drop, length, map}
use Rattle.rv_form.specs.Dispatch.{tree, tree_width}
use Rattle.rv_form.specs.Program.{places_from, dispatchers_code}
use Rattle.rv_emit_ops.specs.Plans.{Near, layout_in}
use Rattle.rv_gen.proofs.Heads.{DispatchersLeft}
use Rattle.rv_gen.proofs.head.dispatchers.Given as goal

abbrev pub invariant-loop-class : goal.invariant-loop-class
invariant-loop-class l = record {
  left : DispatchersLeft (layout_in l.ir l.plan) (drop l.class-index l.ir.classes) l.code.items l.places
      (l.fn.code.items ++ dispatchers_code (layout_in l.ir l.plan) (length l.fn.code.items) l.ir.classes)
      (l.fn.places ++ places_from (length l.fn.code.items) (map (λ class. tree_width (tree class)) l.ir.classes));
  near : All Near l.places;
}
