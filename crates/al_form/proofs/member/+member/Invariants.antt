use Rattle.std.proofs.Common.{◌≡◌, drop, fold}
use Rattle.al_form.specs.Forms.{with_plain}
use Rattle.al_form.proofs.member.+member.Given as goal

abbrev pub invariant-plain_members-loop-m : goal.invariant-plain_members-loop-m
invariant-plain_members-loop-m l = fold (with_plain l.names l.inside) l.fn.w l.list ≡ fold (with_plain l.names l.inside) l.w (drop l.m-index l.list)
