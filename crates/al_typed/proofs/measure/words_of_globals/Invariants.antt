use Rattle.std.proofs.Common.{◌≡◌, take}
use Rattle.std.specs.Prelude.{sum_by}
use Rattle.al_typed.specs.Capped.{capped}
use Rattle.al_typed.specs.Measures.{global_words}
use Rattle.al_typed.proofs.measure.words_of_globals.Given as goal

abbrev pub invariant-loop-global : goal.invariant-loop-global
invariant-loop-global l = l.sum ≡ capped (sum_by (global_words l.p) (take l.global-index l.p.globals))
