use Rattle.std.proofs.Common.{◌≡◌, ◌++◌, length, map}
use Rattle.al_typed.specs.Typed.{type_of}
use Rattle.al_meaning.specs.Evaluate.{arguments_of}
use Rattle.al_control.specs.Models.{argument_of}
use Rattle.al_walk.proofs.gathers.arguments_from.Given as goal

abbrev pub invariant-loop-e : goal.invariant-loop-e
invariant-loop-e l = map argument_of l.all ++ arguments_of (map type_of l.rest) l.values ≡ arguments_of (map type_of l.es) l.fn.values

abbrev pub decreases-loop-e : goal.decreases-loop-e
decreases-loop-e l = length l.rest
