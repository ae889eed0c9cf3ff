use Rattle.std.proofs.Common.{◌≡◌, ℕ, List, IfOk, ap, ap₂, ◌∙◌, subst}
use Rattle.al_typed.specs.declared.ty.Ty.{Ty}
use Rattle.al_typed.specs.Typed.{type_of}
use Rattle.al_meaning.specs.Here.{pointee}
use Rattle.al_meaning.specs.Places.{path_offset}
use Rattle.al_lower_operands.proofs.pointers.offset_behind.Goals as goal

pub returns : goal.returns
returns c =
    subst (λ (n : ℕ). IfOk c.pointed_bytes.result (λ k. k ≡ n))
    (ap₂ (λ (t : Ty) (way : List ℕ). path_offset c.args.s.program.now (pointee t) way) (c.ty.ensures ∙ ap type_of c.get.ensures) c.as_slice.ensures.value) c.pointed_bytes.ensures
