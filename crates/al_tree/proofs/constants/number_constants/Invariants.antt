use Rattle.std.proofs.Common.{◌≡◌, Some, drop}
use Rattle.al_tree.specs.Integers.{int}
use Rattle.al_tree.specs.Constants.{numbered}
use Rattle.al_tree.proofs.constants.number_constants.Given as goal

abbrev pub invariant-loop-constant : goal.invariant-loop-constant
invariant-loop-constant l =
    numbered (Some (int 0)) l.fn.known l.constants ≡ numbered l.next l.known (drop l.constant-index l.constants)
