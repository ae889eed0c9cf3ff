use Rattle.std.proofs.Common.{◌≡◌, take, map}
use Rattle.al_initial.specs.Adts.{no_adt}
use Rattle.al_initial.proofs.adts.none.Given as goal

abbrev pub invariant-loop-aggregate : goal.invariant-loop-aggregate
invariant-loop-aggregate l = l.adts ≡ map no_adt (take l._aggregate-index l.aggregates)
