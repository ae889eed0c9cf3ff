use Rattle.std.proofs.Common.{◌≤◌, take, map}
use Rattle.std.specs.Prelude.{fold}
use Rattle.al_typed.specs.Layout.{RunsTo, layout, followed, begun}
use Rattle.al_typed.proofs.layout.+rooms.Given as goal

abbrev pub invariant-in_order-loop-ty : goal.invariant-in_order-loop-ty
invariant-in_order-loop-ty l = record {
  run : RunsTo l.run (fold followed begun (take l.ty-index (map (layout l.aggregates) l.types)));
  align : 1 ≤ l.run.align;
}
