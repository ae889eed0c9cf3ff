use Rattle.std.proofs.Common.{◌≡◌, take}
use Rattle.al_form.proofs.copy.+copy.Given as goal

abbrev pub invariant-copies-loop-ty : goal.invariant-copies-loop-ty
invariant-copies-loop-ty l = l.out ≡ take l.ty-index l.types
