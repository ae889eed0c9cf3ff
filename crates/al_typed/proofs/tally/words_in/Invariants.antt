use Rattle.std.proofs.Common.{◌≡◌, take}
use Rattle.al_typed.specs.Capped.{capped}
use Rattle.al_typed.specs.Typed.{local_types}
use Rattle.al_typed.specs.Measures.{words_in}
use Rattle.al_typed.proofs.tally.words_in.Given as goal

abbrev pub invariant-loop-local : goal.invariant-loop-local
invariant-loop-local l = l.sum ≡ capped (words_in l.p (local_types (take l.local-index l.locals)))
