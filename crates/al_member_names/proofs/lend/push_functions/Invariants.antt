use Rattle.std.proofs.Common.{◌≡◌, drop, fold}
use Rattle.al_member_names.specs.Members.{with_lent_function}
use Rattle.al_member_names.proofs.lend.push_functions.Given as goal

abbrev pub invariant-loop-f : goal.invariant-loop-f
invariant-loop-f l =
    fold (with_lent_function l.at l.number l.interns) l.fn.w l.list ≡ fold (with_lent_function l.at l.number l.interns) l.w (drop l.f-index l.list)
