use Rattle.std.proofs.Common.{◌≡◌, drop, fold}
use Rattle.al_form.specs.Forms.{with_adt_member}
use Rattle.al_form.proofs.member.adt_members.Given as goal

abbrev pub invariant-loop-m : goal.invariant-loop-m
invariant-loop-m l = fold (with_adt_member l.names l.inside) l.fn.w l.list ≡ fold (with_adt_member l.names l.inside) l.w (drop l.m-index l.list)
