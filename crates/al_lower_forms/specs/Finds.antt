-- What is done with a place that was found.
use Rattle.std.specs.Prelude.{ℕ, ◌+◌, false, List, ◌++◌}
use Rattle.al_typed.specs.declared.ty.Ty.{Ty}
use Rattle.al_meaning.specs.Here.{member_type}
use Rattle.al_meaning.specs.Places.{path_offset}
use Rattle.al_ir.specs.declared.ir.Operation.{Operation}
use Rattle.al_lower_code.specs.Homes.{Spot, words}
use Rattle.al_lower_code.specs.Moving.{Where, moved_by, address_code, read_code}
use Rattle.al_lower_code.specs.Coded.{Placed}
use Rattle.al_lower_parts.specs.Parts.{object_free, passes_at}
use Rattle.al_lower_forms.specs.declared.finds.Find.{Find}
use Rattle.al_lower_forms.specs.declared.finds.Find.TheVariants as find

-- the slots that are free while a place of a type is found
abbrev pub free_for : Spot → Ty → Find → (to : ℕ) → ℕ
free_for s t (find.Read u) to = to + words s u.now
free_for s t find.Address to = to
free_for s t (find.Pass path how) to = object_free how (words s (member_type s.program t path.now)) to

-- with a place of a type that is there
abbrev pub find_code : Spot → Ty → Find → Where → (dest : ℕ) → List Operation
find_code s t (find.Read u) at dest = read_code s u.now at dest
find_code s t find.Address at dest = address_code s at dest
find_code s t (find.Pass path how) at dest =
    passes_at s how (member_type s.program t path.now) (moved_by (path_offset s.program t path.now) at) dest

-- the same with the operations of the place
abbrev pub found_code : Spot → Ty → Find → Placed → (dest to : ℕ) → List Operation
found_code s t what pl dest to = pl.code false (free_for s t what to) ++ find_code s t what (pl.at false (free_for s t what to)) dest
