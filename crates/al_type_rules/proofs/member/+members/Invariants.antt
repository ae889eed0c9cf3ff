use Rattle.std.proofs.Common.{◌≡◌, ◌++◌, drop}
use Rattle.std.specs.List.{flat_map}
use Rattle.al_type_rules.specs.Members.{member_faults}
use Rattle.al_type_rules.proofs.member.+members.Given as goal

abbrev pub invariant-members_faults-loop-m : goal.invariant-members_faults-loop-m
invariant-members_faults-loop-m l =
    l.fn.faults ++ flat_map (member_faults l.env l.here) l.list ≡ l.faults ++ flat_map (member_faults l.env l.here) (drop l.m-index l.list)
