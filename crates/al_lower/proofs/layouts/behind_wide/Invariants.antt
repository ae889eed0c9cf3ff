use Rattle.std.proofs.Common.{◌≡◌, ◌+◌, length, take}
use Rattle.std.specs.Prelude.{filter}
use Rattle.al_lower_code.specs.Functions.{is_wide_parameter}
use Rattle.al_lower.proofs.layouts.behind_wide.Given as goal

abbrev pub invariant-loop-local : goal.invariant-loop-local
invariant-loop-local l = l.next ≡ l.first + length (filter (is_wide_parameter l.p) (take l.local-index l.parameters))
