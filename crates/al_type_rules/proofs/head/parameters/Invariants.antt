use Rattle.std.proofs.Common.{◌≡◌, ◌++◌, take, drop, map}
use Rattle.std.specs.List.{flat_map}
use Rattle.al_type_rules.specs.Types.{parameter_type, parameter_faults}
use Rattle.al_type_rules.proofs.head.parameters.Given as goal

abbrev pub invariant-loop-p : goal.invariant-loop-p
invariant-loop-p l =
    (l.types ≡ map (parameter_type l.env l.here) (take l.p-index l.list))
    × (l.fn.faults ++ flat_map (parameter_faults l.env l.here) l.list ≡ l.faults ++ flat_map (parameter_faults l.env l.here) (drop l.p-index l.list))
