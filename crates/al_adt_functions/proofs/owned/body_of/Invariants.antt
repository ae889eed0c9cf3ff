use Rattle.std.proofs.Common.{◌≡◌, drop, fold}
use Rattle.al_adt_functions.specs.Owned.{begun, with_member}
use Rattle.al_adt_functions.proofs.owned.body_of.Given as goal

abbrev pub invariant-loop-m : goal.invariant-loop-m
invariant-loop-m l = fold (with_member l.env l.items l.defined l.o) begun l.members ≡ fold (with_member l.env l.items l.defined l.o) l.w (drop l.m-index l.members)
