use Rattle.std.proofs.Common.{◌≡◌, [], drop, fold}
use Rattle.al_declare.specs.Asking.{with_adt}
use Rattle.al_declare.proofs.text.adts_of.Given as goal

abbrev pub invariant-loop-item : goal.invariant-loop-item
invariant-loop-item l = fold with_adt [] l.items ≡ fold with_adt l.adts (drop l.item-index l.items)
