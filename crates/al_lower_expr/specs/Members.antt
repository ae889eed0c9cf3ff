-- Objects before the names of functions.
use Rattle.std.specs.Prelude.{ℕ, List}
use Rattle.al_typed.specs.declared.ty.Ty.{Ty}
use Rattle.al_typed.specs.declared.expression.Passed.{Passed}
use Rattle.al_meaning.specs.Here.{pointee, member_type}
use Rattle.al_meaning.specs.Places.{path_offset}
use Rattle.al_lower_code.specs.Homes.{Spot}
use Rattle.al_lower_code.specs.Coded.{Coded, Placed, Given}
use Rattle.al_lower_code.specs.Values.{pointed_placed, member_placed}
use Rattle.al_lower_code.specs.Actions.{object_at, object_in}

-- an object at a place of a type, behind a pointer of a type, or in a value of a type
abbrev pub object_placed : Spot → Passed → (whole : Ty) → (path : List ℕ) → Placed → Given
object_placed s how whole path pl = object_at s how (member_type s.program whole path) (member_placed (path_offset s.program whole path) pl)

abbrev pub object_pointed : Spot → Passed → (pointer : Ty) → (path : List ℕ) → Coded → Given
object_pointed s how pointer path c =
    object_at s how (member_type s.program (pointee pointer) path) (pointed_placed (path_offset s.program (pointee pointer) path) c)

abbrev pub object_valued : Spot → Passed → (whole : Ty) → (path : List ℕ) → Coded → Given
object_valued s how whole path c = object_in s how whole (member_type s.program whole path) path c
