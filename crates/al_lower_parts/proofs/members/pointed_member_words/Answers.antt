use Rattle.std.proofs.Common.{◌≡◌, ℕ, List, IfOk, ap, ap₂, ◌∙◌, subst}
use Rattle.al_typed.specs.declared.ty.Ty.{Ty}
use Rattle.al_typed.specs.Typed.{type_of}
use Rattle.al_lower_code.specs.Homes.{words}
use Rattle.al_lower_base.specs.Spots.{spot_of}
use Rattle.al_meaning.specs.Here.{pointee, member_type}
use Rattle.al_lower_parts.proofs.members.pointed_member_words.Goals as goal

pub returns : goal.returns
returns c =
    subst (λ (n : ℕ). IfOk c.pointed_words.result (λ k. k ≡ n))
    (ap₂ (λ (t : Ty) (way : List ℕ). words (spot_of c.args.s) (member_type c.args.s.program.now (pointee t) way)) (c.ty.ensures ∙ ap type_of c.get.ensures) c.as_slice.ensures.value)
    c.pointed_words.ensures
