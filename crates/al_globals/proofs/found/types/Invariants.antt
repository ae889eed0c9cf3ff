use Rattle.std.proofs.Common.{◌≡◌, take}
use Rattle.al_globals.proofs.found.types.Given as goal

abbrev pub invariant-loop-ty : goal.invariant-loop-ty
invariant-loop-ty l = l.types ≡ take l.ty-index l.list
