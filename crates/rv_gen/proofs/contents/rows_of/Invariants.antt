use Rattle.std.proofs.Common.{◌≡◌, ◌++◌, drop}
use Rattle.rv_form.specs.Program.{rows_from_number}
use Rattle.rv_emit_ops.specs.Plans.{layout_in}
use Rattle.rv_gen.proofs.contents.rows_of.Given as goal

abbrev pub invariant-loop-f : goal.invariant-loop-f
invariant-loop-f l =
    l.rows ++ rows_from_number (layout_in l.ir l.plan) l.f (drop l.f l.ir.functions) ≡ rows_from_number (layout_in l.ir l.plan) 0 l.ir.functions
