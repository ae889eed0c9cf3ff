use Rattle.std.proofs.Common.{◌≡◌, ◌≤◌, drop, length, reverse}
use Rattle.al_lower_code.specs.Functions.{runs_of}
use Rattle.al_lower.proofs.layouts.runs_of.Given as goal

abbrev pub invariant-loop-left : goal.invariant-loop-left
invariant-loop-left l = record { within : l.left ≤ length l.units; runs : reverse l.runs ≡ runs_of (drop l.left l.units) }

abbrev pub decreases-loop-left : goal.decreases-loop-left
decreases-loop-left l = l.left
