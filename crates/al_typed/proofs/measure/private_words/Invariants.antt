use Rattle.std.proofs.Common.{◌≡◌, take}
use Rattle.al_typed.specs.Capped.{capped}
use Rattle.al_typed.specs.Measures.{words_in, private_types}
use Rattle.al_typed.proofs.measure.private_words.Given as goal

abbrev pub invariant-loop-local : goal.invariant-loop-local
invariant-loop-local l = l.sum ≡ capped (words_in l.p (private_types (take l.local-index l.locals)))
