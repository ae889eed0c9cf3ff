use Rattle.std.proofs.Common.{◌≡◌, drop}
use Rattle.al_lower_code.specs.Homes.{behind_locals}
use Rattle.al_lower_base.proofs.spot.behind_locals.Given as goal

abbrev pub invariant-loop-local : goal.invariant-loop-local
invariant-loop-local l = behind_locals l.s.program.now l.slot l.first l.left (drop l.local-index l.locals) ≡ behind_locals l.s.program.now l.at l.parameters l.number l.locals
