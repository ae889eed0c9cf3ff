-- Where a step comes to numbers that words have no room for.
use Rattle.std.specs.Prelude.{List, ℕ, ⊤}
use Rattle.al_typed.specs.declared.program.Program.{Program}
use Rattle.al_typed.specs.declared.ty.Ty.{Ty}
use Rattle.al_typed.specs.Layout.{member}
use Rattle.al_meaning.specs.Here.{type_at}
use Rattle.al_control_values.specs.Fits.{IsSmall}
use Rattle.al_control.specs.declared.unmade.Unmade.{Unmade}
use Rattle.al_control.specs.declared.unmade.Unmade.TheVariants.{NoMemory, TooLarge}

-- A step that is not made for its numbers has one that does not fit.
abbrev pub Explains : Unmade → (fits : Type 0) → Type 0
Explains NoMemory fits = ⊤
Explains TooLarge fits = fits → ⊥

-- A value has a size that fits, and so has its member that a path leads to. It holds of the types of well-typed programs.
abbrev pub PartFits : Program → Ty → List ℕ → Type 0
PartFits p t path = IsSmall p t × IsSmall p (type_at (member p.aggregates path t))
