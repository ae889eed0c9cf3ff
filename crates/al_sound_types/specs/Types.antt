-- Types that the rules leave, where they stand in others, and those of a function.
use Rattle.std.specs.Prelude.{Bool, ◌&&◌, ◌||◌, List}
use Rattle.std.specs.List.{list_all}
use Rattle.al_typed.specs.declared.program.Aggregate.{Aggregate}
use Rattle.al_typed.specs.declared.program.Local.{Local}
use Rattle.al_typed.specs.declared.ty.Ty.{Ty}
use Rattle.al_typed.specs.Types.{is_void, is_whole}
use Rattle.al_typed.specs.WellTyped.{is_sound, is_stored}

-- a part of a tuple, or a parameter
abbrev pub is_part : List Aggregate → Ty → Bool
is_part rows t = is_sound rows t && is_whole rows t

-- what a function may return
unfoldable pub is_returned : List Aggregate → Ty → Bool
is_returned rows t = is_void t || is_whole rows t

-- the types of a function
abbrev pub is_signature : List Aggregate → (returns : Ty) → (parameters : List Ty) → Bool
is_signature rows returns parameters = is_sound rows returns && is_returned rows returns && list_all (is_part rows) parameters

abbrev pub is_local : List Aggregate → Local → Bool
is_local rows l = is_stored rows l.ty

-- A function's parameters and locals are stored, and the types that are written in it are sound.
abbrev pub types_hold : List Aggregate → List Local → (written : List Ty) → Bool
types_hold rows locals written = list_all (is_local rows) locals && list_all (is_sound rows) written
