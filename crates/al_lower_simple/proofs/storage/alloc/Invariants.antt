use Rattle.std.proofs.Common.{◌≡◌, ◌++◌, drop}
use Rattle.al_lower_base.specs.Spots.{spot_of}
use Rattle.al_lower_code.specs.Simple.{alloc_code}
use Rattle.al_lower_simple.proofs.storage.alloc.Given as goal

abbrev pub invariant-loop-p : goal.invariant-loop-p
invariant-loop-p l = l.code ++ alloc_code (spot_of l.s) (drop l.p-index l.places) ≡ l.fn.code ++ alloc_code (spot_of l.s) l.places
