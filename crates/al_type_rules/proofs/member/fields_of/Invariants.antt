use Rattle.std.proofs.Common.{◌≡◌, ◌++◌, drop}
use Rattle.std.specs.List.{flat_map}
use Rattle.al_type_rules.specs.Types.{variable_faults}
use Rattle.al_type_rules.proofs.member.fields_of.Given as goal

abbrev pub invariant-loop-dcl : goal.invariant-loop-dcl
invariant-loop-dcl l =
    l.fn.faults ++ flat_map (variable_faults l.env l.base) l.list ≡ l.faults ++ flat_map (variable_faults l.env l.base) (drop l.dcl-index l.list)
