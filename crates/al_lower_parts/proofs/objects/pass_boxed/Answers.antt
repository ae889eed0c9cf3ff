use Rattle.std.proofs.Common.{◌≡◌, ◌++◌, OnOk, subst}
use Rattle.al_typed.specs.declared.ty.Ty.{Ty}
use Rattle.al_meaning.specs.Here.{member_type}
use Rattle.al_lower_base.specs.Spots.{spot_of, where_of}
use Rattle.al_lower_parts.specs.Parts.{passes_at}
use Rattle.al_lower_parts.proofs.objects.pass_boxed.Goals as goal

pub returns : goal.returns
returns c =
    subst (λ (t : Ty). OnOk c.pass_member.result (c.pass_member.new.code ≡ c.args.code.now ++ passes_at (spot_of c.args.s) c.args.how (member_type c.args.s.program.now t c.args.path.now) (where_of c.args.at) c.args.to))
    c.get.ensures c.pass_member.ensures
