use Rattle.std.proofs.Common.{◌≡◌}
use Rattle.al_typed.specs.Capped.{capped}
use Rattle.al_branches.specs.Numbers.{first}
use Rattle.al_branches.specs.Tables.{all_firsts}
use Rattle.al_branches.proofs.number.all_firsts.Given as goal

abbrev pub invariant-loop-i : goal.invariant-loop-i
invariant-loop-i l = (l.firsts ≡ all_firsts l.items l.defined l.i) × (l.number ≡ capped (first l.items l.defined l.i))
