use Rattle.std.proofs.Common.{◌≡◌, ◌++◌, take}
use Rattle.std.specs.List.{flat_map}
use Rattle.al_poly.specs.Written.{in_member}
use Rattle.al_poly.proofs.written.+members.Given as goal

abbrev pub invariant-in_members-loop-m : goal.invariant-in_members-loop-m
invariant-in_members-loop-m l = l.types ≡ l.fn.types ++ flat_map in_member (take l.m-index l.members)
