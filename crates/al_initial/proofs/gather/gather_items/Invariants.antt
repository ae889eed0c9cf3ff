use Rattle.std.proofs.Common.{◌≡◌, drop}
use Rattle.al_initial.specs.Walks.{each, written_in}
use Rattle.al_initial.proofs.gather.gather_items.Given as goal

abbrev pub invariant-loop-item : goal.invariant-loop-item
invariant-loop-item l = each (written_in l.env l.here) l.items l.fn.parts ≡ each (written_in l.env l.here) (drop l.item-index l.items) l.parts
