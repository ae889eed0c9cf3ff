use Rattle.std.proofs.Common.{◌≡◌, drop, fold}
use Rattle.al_member_names.specs.Members.{with_own_function}
use Rattle.al_member_names.proofs.member.push_own_functions.Given as goal

abbrev pub invariant-loop-f : goal.invariant-loop-f
invariant-loop-f l = fold with_own_function l.fn.w l.list ≡ fold with_own_function l.w (drop l.f-index l.list)
