-- What a written type is where it stands. There is none where a name in it stands for no type here, where its type arguments
-- name no instance, or where a bound in it has no value from 0 to 2^32 - 1.
use Rattle.std.specs.Prelude.{ℕ, List, [], ◌∷◌, map, Option, Some, None, option_map, option_and_then}
use Rattle.al_base.specs.declared.arith.Kind.TheVariants as kind
use Rattle.al_base.specs.declared.place.Place.{Place}
use Rattle.al_tree.specs.declared.type_tree.Bound.{Bound}
use Rattle.al_tree.specs.declared.type_tree.BasicType.{BasicType}
use Rattle.al_tree.specs.declared.type_tree.BasicType.TheVariants as basic
use Rattle.al_tree.specs.declared.type_tree.TypeTree.{TypeTree, fold-TypeTree}
use Rattle.al_tree.specs.declared.type_tree.TypeTree.TheOpen.{TypeTree-F}
use Rattle.al_tree.specs.Constants.{bound_number}
use Rattle.al_typed.specs.declared.ty.Ty.{Ty}
use Rattle.al_typed.specs.declared.ty.Ty.TheVariants as ty
use Rattle.al_environment.specs.declared.environment.Environment.{Environment}
use Rattle.al_environment.specs.declared.environment.Here.{Here}
use Rattle.al_environment.specs.Lookups.{plain_type, instance_type}

abbrev pub basic_type : BasicType → Ty
basic_type basic.Byte = ty.Integer kind.Byte
basic_type basic.Sint = ty.Integer kind.Sint
basic_type basic.Usint = ty.Integer kind.Usint
basic_type basic.Int = ty.Integer kind.Int
basic_type basic.Uint = ty.Integer kind.Uint
basic_type basic.Lint = ty.Integer kind.Lint
basic_type basic.Ulint = ty.Integer kind.Ulint
basic_type basic.Void = ty.Void

-- all of them, if each is there
abbrev pub all_of : {A : Type 0} → List (Option A) → Option (List A)
all_of [] = Some []
all_of (None ∷ xs) = None
all_of (Some x ∷ xs) = option_map (λ ys. x ∷ ys) (all_of xs)

abbrev pub type_named : Environment → Here → ℕ → List (Option Ty) → Option Ty
type_named env here name [] = plain_type env here name
type_named env here name (t ∷ ts) = option_and_then (instance_type env name) (all_of (t ∷ ts))

abbrev pub chan_type : Option Ty → Option ℕ → Option Ty
chan_type None capacity = None
chan_type (Some t) None = None
chan_type (Some t) (Some n) = Some (ty.Chan t n)

abbrev pub array_type : Option Ty → Option ℕ → Option Ty
array_type None count = None
array_type (Some t) None = None
array_type (Some t) (Some n) = Some (ty.Array t n)

-- a channel without a capacity has 0
abbrev pub capacity : Environment → Place → Option Bound → Option ℕ
capacity env at None = Some 0
capacity env at (Some b) = bound_number env.scopes.constants.list b at

abbrev pub written_step : Environment → Here → TypeTree-F (Option Ty) → Option Ty
written_step env here (TypeTree-F.Basic at b) = Some (basic_type b)
written_step env here (TypeTree-F.Named at name ts) = type_named env here name ts
written_step env here (TypeTree-F.Tuple at ts) = option_map ty.Tuple (all_of ts)
written_step env here (TypeTree-F.Chan at t bound) = chan_type t (capacity env at bound)
written_step env here (TypeTree-F.Pointer at t) = option_map ty.Pointer t
written_step env here (TypeTree-F.Array at bound t) = array_type t (bound_number env.scopes.constants.list bound at)

unfoldable pub written : Environment → Here → TypeTree → Option Ty
written env here = fold-TypeTree (Option Ty) (written_step env here)
