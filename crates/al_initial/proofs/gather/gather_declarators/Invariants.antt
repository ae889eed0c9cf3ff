use Rattle.std.proofs.Common.{◌≡◌, drop}
use Rattle.al_initial.specs.Walks.{each, written_by}
use Rattle.al_initial.proofs.gather.gather_declarators.Given as goal

abbrev pub invariant-loop-d : goal.invariant-loop-d
invariant-loop-d l = each (written_by l.env l.here) l.list l.fn.parts ≡ each (written_by l.env l.here) (drop l.d-index l.list) l.parts
