-- What the kinds of types are.
use Rattle.std.specs.Prelude.{◌≡◌, ℕ, ◌/◌, Bool, true, false, not, ◌&&◌, List, Option, Some, None, slice_get, is_some}
use Rattle.std.specs.List.{list_all}
use Rattle.al_base.specs.Arith.{width_of}
use Rattle.al_base.specs.declared.arith.Kind.{Kind}
use Rattle.al_base.specs.declared.arith.Kind.TheVariants.{Byte, Sint, Usint, Int, Uint, Lint, Ulint}
use Rattle.al_typed.specs.declared.program.Aggregate.{Aggregate}
use Rattle.al_typed.specs.declared.ty.Ty.{Ty, out-Ty, Void, Integer}
use Rattle.al_typed.specs.declared.ty.Ty.TheOpen.{Ty-F}
use Rattle.al_typed.specs.declared.ty.Ty.TheVariants as ty
use Rattle.al_typed.specs.TyFold.{fold_ty}

abbrev pub int : Ty
int = ty.Integer Int

abbrev pub byte_pointer : Ty
byte_pointer = ty.Pointer (ty.Integer Byte)

abbrev pub void_pointer : Ty
void_pointer = ty.Pointer ty.Void

-- an aggr, a union or an adt
abbrev pub IsAggregate : Ty → Type 0
IsAggregate t = (number : ℕ) × (t ≡ ty.Aggregate number)

-- how many bytes an integer takes
abbrev pub bytes_of : Kind → ℕ
bytes_of kind = width_of kind / 8

-- in arithmetic byte, sint and usint become int
abbrev pub promoted : Kind → Kind
promoted Byte = Int
promoted Sint = Int
promoted Usint = Int
promoted Int = Int
promoted Uint = Uint
promoted Lint = Lint
promoted Ulint = Ulint

abbrev pub is_array_at : Ty-F Ty → Bool
is_array_at (Ty-F.Array _ _) = true
is_array_at _ = false

unfoldable pub is_array : Ty → Bool
is_array t = is_array_at (out-Ty t)

abbrev pub is_void_at : Ty-F Ty → Bool
is_void_at Ty-F.Void = true
is_void_at _ = false

unfoldable pub is_void : Ty → Bool
is_void t = is_void_at (out-Ty t)

-- an integer, a pointer or a channel: what a condition may have
abbrev pub is_scalar_at : Ty-F Ty → Bool
is_scalar_at (Ty-F.Integer _) = true
is_scalar_at (Ty-F.Pointer _) = true
is_scalar_at (Ty-F.Chan _ _) = true
is_scalar_at _ = false

unfoldable pub is_scalar : Ty → Bool
is_scalar t = is_scalar_at (out-Ty t)

-- what a private variable may be
abbrev pub may_be_private_at : Ty-F Ty → Bool
may_be_private_at (Ty-F.Integer _) = true
may_be_private_at (Ty-F.Pointer _) = true
may_be_private_at (Ty-F.Chan _ _) = true
may_be_private_at (Ty-F.Tuple _) = true
may_be_private_at _ = false

unfoldable pub may_be_private : Ty → Bool
may_be_private t = may_be_private_at (out-Ty t)

-- the text has a body of it
abbrev pub has_body : Option Aggregate → Bool
has_body (Some a) = is_some a.members
has_body None = false

-- A type has values: it is no void and no function type, and each aggregate in it by value has a body.
abbrev pub is_complete_step : List Aggregate → Ty-F Bool → Bool
is_complete_step rows Ty-F.Void = false
is_complete_step rows (Ty-F.Integer _) = true
is_complete_step rows (Ty-F.Pointer _) = true
is_complete_step rows (Ty-F.Array element _) = element
is_complete_step rows (Ty-F.Chan _ _) = true
is_complete_step rows (Ty-F.Tuple parts) = list_all (λ part. part) parts
is_complete_step rows (Ty-F.Aggregate number) = has_body (slice_get rows number)
is_complete_step rows (Ty-F.Function _ _) = false

unfoldable pub is_complete : List Aggregate → Ty → Bool
is_complete rows = fold_ty (is_complete_step rows)

-- a complete type that is no array: what a result, a part of a tuple and an element of a channel may be
abbrev pub is_whole : List Aggregate → Ty → Bool
is_whole rows t = is_complete rows t && not (is_array t)

-- A pointer to a complete type: what moves by elements.
abbrev pub points_to_complete_at : List Aggregate → Ty-F Ty → Bool
points_to_complete_at rows (Ty-F.Pointer to) = is_complete rows to
points_to_complete_at rows _ = false

unfoldable pub points_to_complete : List Aggregate → Ty → Bool
points_to_complete rows t = points_to_complete_at rows (out-Ty t)
