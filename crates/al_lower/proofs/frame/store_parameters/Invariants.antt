use Rattle.std.proofs.Common.{◌≡◌, ◌++◌, drop, take}
use Rattle.al_lower_code.specs.Functions.{stores_parameters, wide_number}
use Rattle.al_lower_base.specs.Spots.{spot_of}
use Rattle.al_lower.specs.Stored.{stores_all}
use Rattle.al_lower.proofs.frame.store_parameters.Given as goal

abbrev pub invariant-loop-local : goal.invariant-loop-local
invariant-loop-local l = record {
  number : l.number ≡ l.local-index;
  next : l.next ≡ wide_number l.s.program.now l.s.function l.local-index l.f;
  code : l.code ++ stores_all (spot_of l.s) l.f l.number (drop l.local-index (take l.f.parameters l.f.locals)) ≡ l.fn.code ++ stores_parameters (spot_of l.s) l.f 0 l.f.parameters l.f.locals;
}
