use Rattle.std.proofs.Common.{◌≡◌, ℕ, List, IfOk, ap, ap₂, ◌∙◌, subst}
use Rattle.al_typed.specs.declared.ty.Ty.{Ty}
use Rattle.al_typed.specs.Typed.{place_type}
use Rattle.al_lower_code.specs.Homes.{words}
use Rattle.al_lower_base.specs.Spots.{spot_of}
use Rattle.al_meaning.specs.Here.{member_type}
use Rattle.al_lower_parts.proofs.members.place_member_words.Goals as goal

pub returns : goal.returns
returns c =
    subst (λ (n : ℕ). IfOk c.member_words.result (λ k. k ≡ n))
    (ap₂ (λ (t : Ty) (way : List ℕ). words (spot_of c.args.s) (member_type c.args.s.program.now t way)) (c.ty.ensures ∙ ap place_type c.get.ensures) c.as_slice.ensures.value)
    c.member_words.ensures
