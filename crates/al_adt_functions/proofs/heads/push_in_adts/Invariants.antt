use Rattle.std.proofs.Common.{◌≡◌, drop, fold}
use Rattle.al_adt_functions.specs.Heads.{with_adt}
use Rattle.al_adt_functions.proofs.heads.push_in_adts.Given as goal

abbrev pub invariant-loop-a : goal.invariant-loop-a
invariant-loop-a l = fold (with_adt l.env l.adt l.base l.h) l.fn.faults l.list ≡ fold (with_adt l.env l.adt l.base l.h) l.faults (drop l.a-index l.list)
