use Rattle.std.proofs.Common.{◌≡◌, ◌<◌, ◌^◌, drop}
use Rattle.al_lex.specs.Bytes.{value_after, value_of}
use Rattle.al_lex.proofs.number.value.Given as goal

abbrev pub invariant-loop-b : goal.invariant-loop-b
invariant-loop-b l = (l.value < 2 ^ 64) × (value_after l.base l.value (drop l.b-index l.digits) ≡ value_of l.base l.digits)
