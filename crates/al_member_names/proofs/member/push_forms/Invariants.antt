use Rattle.std.proofs.Common.{◌≡◌, drop}
use Rattle.al_member_names.specs.Members.{with_forms}
use Rattle.al_member_names.proofs.member.push_forms.Given as goal

abbrev pub invariant-loop-k : goal.invariant-loop-k
invariant-loop-k l = with_forms l.forms l.numbers l.own l.fn.names l.list ≡ with_forms l.forms l.numbers l.own l.names (drop l.k-index l.list)
