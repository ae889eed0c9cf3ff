use Rattle.std.proofs.Common.{◌≡◌, map, take}
use Rattle.al_ir.specs.Building.{row_of}
use Rattle.al_ir.proofs.builder.rows.Given as goal

abbrev pub invariant-loop-f : goal.invariant-loop-f
invariant-loop-f l = l.rows ≡ map row_of (take l.f-index l.p.functions)
