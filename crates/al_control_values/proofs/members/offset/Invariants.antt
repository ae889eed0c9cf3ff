use Rattle.std.proofs.Common.{◌≡◌, ◌≤◌, map, take}
use Rattle.std.specs.Prelude.{fold}
use Rattle.al_typed.specs.Capped.{capped}
use Rattle.al_typed.specs.Layout.{layout}
use Rattle.al_control_values.proofs.Paths.{placed}
use Rattle.al_control_values.proofs.members.offset.Given as goal

abbrev pub invariant-loop-i : goal.invariant-loop-i
invariant-loop-i l = l.end ≡ capped (fold placed 0 (take l.i (map (layout l.rows) l.members)))
