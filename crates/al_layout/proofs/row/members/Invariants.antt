use Rattle.std.proofs.Common.{◌≡◌, ◌++◌, drop}
use Rattle.al_layout.specs.Rows.{types_of_members, faults_of_members}
use Rattle.al_layout.proofs.row.members.Given as goal

abbrev pub invariant-loop-m : goal.invariant-loop-m
invariant-loop-m l =
    (types_of_members l.forms l.numbers l.list ≡ l.w.types ++ types_of_members l.forms l.numbers (drop l.m-index l.list))
    × (faults_of_members l.forms l.numbers l.rows l.list ≡ l.w.faults ++ faults_of_members l.forms l.numbers l.rows (drop l.m-index l.list))
