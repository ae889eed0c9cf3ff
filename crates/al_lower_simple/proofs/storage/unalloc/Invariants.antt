use Rattle.std.proofs.Common.{◌≡◌, ◌++◌, drop}
use Rattle.al_lower_base.specs.Spots.{spot_of}
use Rattle.al_lower_code.specs.Simple.{unalloc_code}
use Rattle.al_lower_simple.proofs.storage.unalloc.Given as goal

abbrev pub invariant-loop-e : goal.invariant-loop-e
invariant-loop-e l = l.code ++ unalloc_code (spot_of l.s) (drop l.e-index l.values) ≡ l.fn.code ++ unalloc_code (spot_of l.s) l.values
