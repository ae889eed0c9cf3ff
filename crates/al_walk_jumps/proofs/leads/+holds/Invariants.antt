use Rattle.std.proofs.Common.{◌≡◌, drop}
use Rattle.al_walk_jumps.specs.Holds.{any_holds}
use Rattle.al_walk_jumps.proofs.leads.+holds.Given as goal

abbrev pub invariant-any_holds-loop-s : goal.invariant-any_holds-loop-s
invariant-any_holds-loop-s l = any_holds l.number l.body ≡ any_holds l.number (drop l.s-index l.body)
