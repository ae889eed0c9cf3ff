use Rattle.std.proofs.Common.{◌≡◌, ◌++◌, take}
use Rattle.std.specs.List.{flat_map}
use Rattle.al_meaning.specs.Evaluate.{leaves_of}
use Rattle.al_walk_places.specs.Referred.{referred}
use Rattle.al_walk_places.proofs.targets.+leaves.Given as goal

abbrev pub invariant-put_all-loop-part : goal.invariant-put_all-loop-part
invariant-put_all-loop-part l = referred l.out ≡ referred l.fn.out ++ flat_map leaves_of (take l.part-index l.parts)
