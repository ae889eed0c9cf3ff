use Rattle.std.proofs.Common.{◌≡◌, [], drop, fold}
use Rattle.al_poly.specs.Types.{with_adt_in}
use Rattle.al_poly.proofs.declare.adts_of.Given as goal

abbrev pub invariant-loop-item : goal.invariant-loop-item
invariant-loop-item l = fold with_adt_in [] l.items ≡ fold with_adt_in l.adts (drop l.item-index l.items)
