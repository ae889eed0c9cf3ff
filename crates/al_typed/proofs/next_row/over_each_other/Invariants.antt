use Rattle.std.proofs.Common.{◌≡◌, ◌≤◌, map, take}
use Rattle.std.specs.Prelude.{fold}
use Rattle.al_typed.specs.Capped.{capped}
use Rattle.al_typed.specs.Layout.{layout, widened}
use Rattle.al_typed.proofs.Unions.{flat}
use Rattle.al_typed.proofs.next_row.over_each_other.Given as goal

abbrev pub invariant-loop-ty : goal.invariant-loop-ty
invariant-loop-ty l = record {
  size : l.reach.size ≡ capped (fold widened flat (take l.ty-index (map (layout l.aggregates) l.types))).size;
  align : l.reach.align ≡ (fold widened flat (take l.ty-index (map (layout l.aggregates) l.types))).align;
  low : 1 ≤ l.reach.align;
}
