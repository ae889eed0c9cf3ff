use Rattle.std.proofs.Common.{◌≡◌, drop}
use Rattle.al_member_names.specs.Members.{with_members}
use Rattle.al_member_names.proofs.member.push_members.Given as goal

abbrev pub invariant-loop-number : goal.invariant-loop-number
invariant-loop-number l = with_members l.forms l.numbers l.before l.adt 0 l.list l.fn.w ≡ with_members l.forms l.numbers l.before l.adt l.number (drop l.number l.list) l.w
