use Rattle.std.proofs.Common.{◌≡◌, drop}
use Rattle.al_typed.specs.Typed.{function_type}
use Rattle.al_lower.specs.Alike.{first_among}
use Rattle.al_lower.proofs.classes.first_among.Given as goal

abbrev pub invariant-loop-number : goal.invariant-loop-number
invariant-loop-number l =
    first_among l.functions (function_type l.f) (drop l.number-index l.numbers) ≡ first_among l.functions (function_type l.f) l.numbers
