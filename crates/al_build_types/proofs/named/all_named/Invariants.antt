use Rattle.std.proofs.Common.{◌≡◌}
use Rattle.al_build_types.specs.Built.{types}
use Rattle.al_build_types.proofs.named.all_named.Given as goal

abbrev pub invariant-loop-name : goal.invariant-loop-name
invariant-loop-name l = l.types ≡ types l.forms l.numbers l.names l.name
