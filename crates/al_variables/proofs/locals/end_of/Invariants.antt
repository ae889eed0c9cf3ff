use Rattle.std.proofs.Common.{◌≡◌, take}
use Rattle.al_typed.specs.Capped.{capped}
use Rattle.al_variables.specs.Placing.{end_of}
use Rattle.al_variables.proofs.locals.end_of.Given as goal

abbrev pub invariant-loop-local : goal.invariant-loop-local
invariant-loop-local l = l.end ≡ capped (end_of l.rows 0 (take l.local-index l.locals))
