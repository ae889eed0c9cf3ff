use Rattle.std.proofs.Common.{◌≡◌, drop}
use Rattle.al_convert.specs.Conversions.{nil_among}
use Rattle.al_convert.proofs.conversion.+nil_in.Given as goal

abbrev pub invariant-nil_among-loop-literal : goal.invariant-nil_among-loop-literal
invariant-nil_among-loop-literal l = nil_among l.literals ≡ nil_among (drop l.literal-index l.literals)
