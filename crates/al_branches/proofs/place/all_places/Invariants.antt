use Rattle.std.proofs.Common.{◌≡◌, map, take}
use Rattle.al_branches.specs.Numbers.{branches_of}
use Rattle.al_branches.proofs.place.all_places.Given as goal

abbrev pub invariant-loop-item : goal.invariant-loop-item
invariant-loop-item l = l.list ≡ map branches_of (take l.item-index l.items)
