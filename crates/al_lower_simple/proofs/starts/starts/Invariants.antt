use Rattle.std.proofs.Common.{◌≡◌, ◌++◌, drop}
use Rattle.al_lower_base.specs.Spots.{spot_of}
use Rattle.al_lower_code.specs.Simple.{starts_code}
use Rattle.al_lower_simple.specs.Parts.{start_op}
use Rattle.al_lower_simple.proofs.starts.starts.Given as goal

abbrev pub invariant-loop-call : goal.invariant-loop-call
invariant-loop-call l =
    l.code ++ starts_code (spot_of l.s) (start_op l.what) (drop l.call-index l.calls) ≡ l.fn.code ++ starts_code (spot_of l.s) (start_op l.what) l.calls
