use Rattle.std.proofs.Common.{◌≡◌, ◌++◌, drop}
use Rattle.al_lower_base.specs.Spots.{spot_of}
use Rattle.al_lower_code.specs.Simple.{declare_code}
use Rattle.al_lower_simple.proofs.storage.declare.Given as goal

abbrev pub invariant-loop-it : goal.invariant-loop-it
invariant-loop-it l = l.code ++ declare_code (spot_of l.s) (drop l.it-index l.initializers) ≡ l.fn.code ++ declare_code (spot_of l.s) l.initializers
