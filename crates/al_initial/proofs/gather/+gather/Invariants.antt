use Rattle.std.proofs.Common.{◌≡◌, drop}
use Rattle.al_initial.specs.Walks.{each, written}
use Rattle.al_initial.proofs.gather.+gather.Given as goal

abbrev pub invariant-gather_all-loop-i : goal.invariant-gather_all-loop-i
invariant-gather_all-loop-i l = each (written l.env l.here) l.list l.fn.parts ≡ each (written l.env l.here) (drop l.i-index l.list) l.parts
