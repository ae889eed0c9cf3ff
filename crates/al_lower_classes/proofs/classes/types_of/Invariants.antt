use Rattle.std.proofs.Common.{◌≡◌, take}
use Rattle.al_typed.specs.Typed.{local_types}
use Rattle.al_lower_classes.proofs.classes.types_of.Given as goal

abbrev pub invariant-loop-local : goal.invariant-loop-local
invariant-loop-local l = l.types ≡ local_types (take l.local-index l.locals)
