use Rattle.std.proofs.Common.{◌≡◌, ◌+◌, ◌++◌, drop, length, take}
use Rattle.std.specs.List.{flat_map}
use Rattle.al_lower_code.specs.Functions.{functions_from, wide_in}
use Rattle.al_lower.proofs.functions.functions.Given as goal

abbrev pub invariant-loop-f : goal.invariant-loop-f
invariant-loop-f l = record {
  number : l.number ≡ l.f-index;
  first : l.first ≡ length l.p.aggregates + length (flat_map (wide_in l.p) (take l.f-index l.p.functions));
  functions : l.functions ++ functions_from l.p l.number (drop l.f-index l.p.functions) ≡ functions_from l.p 0 l.p.functions;
}
