use Rattle.std.proofs.Common.{◌≡◌, ◌+◌, drop, fold}
use Rattle.al_lex.specs.Position.{IsBounded, step}
use Rattle.al_lex.proofs.position.behind_bytes.Given as goal

abbrev pub invariant-loop-b : goal.invariant-loop-b
invariant-loop-b l = record { bounded : IsBounded l.there; at : l.there.at ≡ l.initial.there.at + l.b-index; walked : fold step l.there (drop l.b-index l.bytes) ≡ fold step l.initial.there l.bytes }
