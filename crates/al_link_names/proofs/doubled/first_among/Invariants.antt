use Rattle.std.proofs.Common.{◌≡◌, drop}
use Rattle.al_link_names.specs.Twice.{first_among}
use Rattle.al_link_names.proofs.doubled.first_among.Given as goal

abbrev pub invariant-loop-d : goal.invariant-loop-d
invariant-loop-d l = first_among l.earlier l.list ≡ first_among l.earlier (drop l.d-index l.list)
