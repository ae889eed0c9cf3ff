use Rattle.std.proofs.Common.{◌≡◌, take}
use Rattle.std.specs.Prelude.{sum_by}
use Rattle.al_meaning.specs.Places.{private_words_of}
use Rattle.al_lower.proofs.globals.privates.Given as goal

abbrev pub invariant-loop-global : goal.invariant-loop-global
invariant-loop-global l = l.place ≡ sum_by (private_words_of l.p) (take l.global-index l.p.globals)
