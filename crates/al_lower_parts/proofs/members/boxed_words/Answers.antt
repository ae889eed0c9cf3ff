use Rattle.std.proofs.Common.{◌≡◌, IfOk, subst}
use Rattle.al_typed.specs.declared.ty.Ty.{Ty}
use Rattle.al_lower_code.specs.Homes.{words}
use Rattle.al_lower_base.specs.Spots.{spot_of}
use Rattle.al_meaning.specs.Here.{member_type}
use Rattle.al_lower_parts.proofs.members.boxed_words.Goals as goal

pub returns : goal.returns
returns c =
    subst (λ (t : Ty). IfOk c.member_words.result (λ k. k ≡ words (spot_of c.args.s) (member_type c.args.s.program.now t c.args.path.now))) c.get.ensures c.member_words.ensures
