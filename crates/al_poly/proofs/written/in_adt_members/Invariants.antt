use Rattle.std.proofs.Common.{◌≡◌, ◌++◌, take}
use Rattle.std.specs.List.{flat_map}
use Rattle.al_poly.specs.Written.{in_adt_member}
use Rattle.al_poly.proofs.written.in_adt_members.Given as goal

abbrev pub invariant-loop-m : goal.invariant-loop-m
invariant-loop-m l = l.types ≡ l.fn.types ++ flat_map in_adt_member (take l.m-index l.members)
