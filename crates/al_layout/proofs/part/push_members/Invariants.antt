use Rattle.std.proofs.Common.{◌≡◌, ◌++◌, drop}
use Rattle.std.specs.List.{flat_map}
use Rattle.al_form.specs.declared.form.FormMember.{FormMember}
use Rattle.al_layout.specs.Types.{member_parts}
use Rattle.al_layout.proofs.part.push_members.Given as goal

abbrev pub invariant-loop-m : goal.invariant-loop-m
invariant-loop-m l =
    l.fn.out ++ flat_map (λ (m : FormMember). member_parts l.forms m.ty) l.members
    ≡ l.out ++ flat_map (λ (m : FormMember). member_parts l.forms m.ty) (drop l.m-index l.members)
