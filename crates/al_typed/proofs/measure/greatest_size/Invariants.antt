use Rattle.std.proofs.Common.{◌≡◌, take}
use Rattle.al_typed.specs.Capped.{capped}
use Rattle.al_typed.specs.Layout.{size_of}
use Rattle.al_typed.specs.Typed.{local_types}
use Rattle.al_typed.specs.Measures.{greatest_by}
use Rattle.al_typed.proofs.measure.greatest_size.Given as goal

abbrev pub invariant-loop-local : goal.invariant-loop-local
invariant-loop-local l = l.greatest ≡ capped (greatest_by (size_of l.p.aggregates) (local_types (take l.local-index l.locals)))
