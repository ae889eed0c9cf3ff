use Rattle.std.proofs.Common.{◌≡◌, drop}
use Rattle.al_elements.specs.Elements.{each}
use Rattle.al_elements.specs.Named.{in_members}
use Rattle.al_elements.proofs.named.in_rows.Given as goal

abbrev pub invariant-loop-row : goal.invariant-loop-row
invariant-loop-row l = each in_members l.rows l.fn.list ≡ each in_members (drop l.row-index l.rows) l.list
