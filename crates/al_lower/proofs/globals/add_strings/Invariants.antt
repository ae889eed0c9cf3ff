use Rattle.std.proofs.Common.{◌≡◌, ◌++◌, map, take}
use Rattle.al_lower_code.specs.Functions.{string_global}
use Rattle.al_lower.proofs.globals.add_strings.Given as goal

abbrev pub invariant-loop-string : goal.invariant-loop-string
invariant-loop-string l = l.globals ≡ l.fn.globals ++ map string_global (take l.string-index l.strings)
