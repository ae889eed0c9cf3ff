use Rattle.std.proofs.Common.{◌≡◌, take}
use Rattle.al_adt_functions.proofs.own_adt.copies.Given as goal

abbrev pub invariant-loop-ty : goal.invariant-loop-ty
invariant-loop-ty l = l.types ≡ take l.ty-index l.list
