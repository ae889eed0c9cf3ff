-- Where members stand, and what the code finds of them.
use Rattle.std.specs.Prelude.{◌≡◌, ℕ, Bool, if◌then◌else◌, List, map, Option, Some, None, ⊤}
use Rattle.al_typed.specs.Capped.{capped}
use Rattle.al_typed.specs.declared.program.Aggregate.{Aggregate}
use Rattle.al_typed.specs.declared.ty.Ty.{Ty}
use Rattle.al_typed.specs.Layout.{Member, layout, offsets_from}
use Rattle.al_control_values.specs.declared.members.Reached.{Reached}

-- where members stand in an aggregate: those of a union at 0
abbrev pub places : List Aggregate → Bool → List Ty → List ℕ
places rows is_union members = if is_union then map (λ _. 0) members else offsets_from 0 (map (layout rows) members)

-- the member that a path leads to; a place that is greater than 2^64 - 1 counts as that
abbrev pub Finds : Option Reached → Option Member → Type 0
Finds (Some r) (Some m) = (r.ty.now ≡ m.ty) × (r.at ≡ capped m.at)
Finds None None = ⊤
Finds _ _ = ⊥
