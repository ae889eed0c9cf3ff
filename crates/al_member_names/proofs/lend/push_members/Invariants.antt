use Rattle.std.proofs.Common.{◌≡◌, drop, fold}
use Rattle.al_member_names.specs.Members.{with_lent}
use Rattle.al_member_names.proofs.lend.push_members.Given as goal

abbrev pub invariant-loop-m : goal.invariant-loop-m
invariant-loop-m l = fold (with_lent l.at l.number l.interns) l.fn.w l.list ≡ fold (with_lent l.at l.number l.interns) l.w (drop l.m-index l.list)
