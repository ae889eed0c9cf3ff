use Rattle.std.proofs.Common.{◌≡◌, ◌++◌, length, reverse}
use Rattle.std.specs.List.{flat_map}
use Rattle.std.specs.Option.{option_to_list}
use Rattle.al_bodies.proofs.place.there.Given as goal

abbrev pub invariant-loop-place : goal.invariant-loop-place
invariant-loop-place g l = flat_map option_to_list l.fn.places ≡ flat_map option_to_list l.places ++ reverse l.list

abbrev pub decreases-loop-place : goal.decreases-loop-place
decreases-loop-place g l = length l.places
