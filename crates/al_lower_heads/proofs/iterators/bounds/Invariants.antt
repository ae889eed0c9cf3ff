use Rattle.std.proofs.Common.{◌≡◌, ◌++◌, drop}
use Rattle.al_lower_code.specs.Heads.{bounds_code}
use Rattle.al_lower_base.specs.Spots.{spot_of}
use Rattle.al_lower_heads.proofs.iterators.bounds.Given as goal

abbrev pub invariant-loop-iterator : goal.invariant-loop-iterator
invariant-loop-iterator l =
    l.code ++ bounds_code (spot_of l.s) (drop l.iterator-index l.iterators) l.first ≡ l.fn.code ++ bounds_code (spot_of l.s) l.iterators l.to
