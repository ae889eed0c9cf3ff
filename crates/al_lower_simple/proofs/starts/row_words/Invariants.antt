use Rattle.std.proofs.Common.{◌≡◌, ◌+◌, drop, map}
use Rattle.al_typed.specs.Typed.{type_of}
use Rattle.al_lower_base.specs.Spots.{spot_of}
use Rattle.al_lower_code.specs.Simple.{words_of_types}
use Rattle.al_lower_simple.proofs.starts.row_words.Given as goal

abbrev pub invariant-loop-e : goal.invariant-loop-e
invariant-loop-e l = l.count + words_of_types (spot_of l.s) (map type_of (drop l.e-index l.row)) ≡ words_of_types (spot_of l.s) (map type_of l.row)
