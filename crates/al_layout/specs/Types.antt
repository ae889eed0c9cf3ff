-- The types of members by the numbers of the forms in them, and the forms that stand in a type by value.
use Rattle.std.specs.Prelude.{ℕ, Bool, ◌==◌, nat_le, ◌&&◌, if◌then◌else◌, List, [], ◌∷◌, ◌++◌, find, slice_get, Option, Some, None, option_map, option_and_then}
use Rattle.std.specs.List.{flat_map}
use Rattle.std.specs.Option.{option_to_list}
use Rattle.al_base.specs.declared.arith.Kind.TheVariants as kind
use Rattle.al_tree.specs.declared.type_tree.BasicType.{BasicType}
use Rattle.al_tree.specs.declared.type_tree.BasicType.TheVariants as basic
use Rattle.al_poly.specs.declared.concrete_type.ConcreteType.{ConcreteType, Basic, Named, Instance', Tuple', Chan', Pointer', Array', Function', Row_of-ConcreteType, end_of-ConcreteType, more_of-ConcreteType, items-the_row-ConcreteType}
use Rattle.al_poly.specs.Concrete.{same_list}
use Rattle.al_typed.specs.declared.ty.Ty.{Ty}
use Rattle.al_typed.specs.declared.ty.Ty.TheVariants as ty
use Rattle.al_form.specs.Forms.{form_named}
use Rattle.al_form.specs.declared.form.MemberType.{MemberType}
use Rattle.al_form.specs.declared.form.MemberType.TheVariants as member
use Rattle.al_form.specs.declared.form.FormMember.{FormMember}
use Rattle.al_form.specs.declared.form.Form.{Form}
use Rattle.al_form.specs.declared.form.InstanceForm.{InstanceForm}
use Rattle.al_form.specs.declared.form.Forms.{Forms}

-- ---- forms

unfoldable pub is_instance : ℕ → List ConcreteType → InstanceForm → Bool
is_instance adt arguments i = i.instance.adt == adt && same_list i.instance.arguments arguments

abbrev pub form_in : InstanceForm → Option ℕ
form_in i = i.form

-- the form of the instance of that adt with these arguments
unfoldable pub form_of_instance : Forms → ℕ → List ConcreteType → Option ℕ
form_of_instance fs adt arguments = option_and_then form_in (find (is_instance adt arguments) fs.instances)

-- ---- types

abbrev pub basic_type : BasicType → Ty
basic_type basic.Byte = ty.Integer kind.Byte
basic_type basic.Sint = ty.Integer kind.Sint
basic_type basic.Usint = ty.Integer kind.Usint
basic_type basic.Int = ty.Integer kind.Int
basic_type basic.Uint = ty.Integer kind.Uint
basic_type basic.Lint = ty.Integer kind.Lint
basic_type basic.Ulint = ty.Integer kind.Ulint
basic_type basic.Void = ty.Void

-- a program numbers its types with members by 32 bits
abbrev pub within : ℕ → Option ℕ
within n = if nat_le n 4294967295 then Some n else None

-- the number that a form has, where the forms have these numbers
unfoldable pub number_of_form : (numbers : List ℕ) → Option ℕ → Option ℕ
number_of_form numbers form = option_and_then within (option_and_then (slice_get numbers) form)

-- the type that has that form
abbrev pub type_of_form : (numbers : List ℕ) → Option ℕ → Option Ty
type_of_form numbers form = option_map ty.Aggregate (number_of_form numbers form)

-- all of them, if each is there
abbrev pub all_of : {A : Type 0} → List (Option A) → Option (List A)
all_of [] = Some []
all_of (None ∷ xs) = None
all_of (Some x ∷ xs) = option_map (λ ys. x ∷ ys) (all_of xs)

abbrev pub chan_of : Option Ty → ℕ → Option Ty
chan_of t capacity = option_map (λ t. ty.Chan t capacity) t

abbrev pub array_of : Option Ty → ℕ → Option Ty
array_of t count = option_map (λ t. ty.Array t count) t

abbrev pub function_of : Option Ty → Option (List Ty) → Option Ty
function_of None ts = None
function_of (Some t) None = None
function_of (Some t) (Some ts) = Some (ty.Function t ts)

abbrev mutual
  pub resolved : Forms → List ℕ → ConcreteType → Option Ty
  resolved fs ns (Basic b) = Some (basic_type b)
  resolved fs ns (Named name) = type_of_form ns (form_named fs.named name)
  resolved fs ns (Instance' adt _ arguments) = type_of_form ns (form_of_instance fs adt (items-the_row-ConcreteType _ arguments))
  resolved fs ns (Tuple' _ parts) = option_map ty.Tuple (all_of (resolved_row fs ns parts))
  resolved fs ns (Chan' _ (more_of-ConcreteType t end_of-ConcreteType) capacity) = chan_of (resolved fs ns t) capacity
  resolved fs ns (Pointer' _ (more_of-ConcreteType t end_of-ConcreteType)) = option_map ty.Pointer (resolved fs ns t)
  resolved fs ns (Array' _ (more_of-ConcreteType t end_of-ConcreteType) count) = array_of (resolved fs ns t) count
  resolved fs ns (Function' _ (more_of-ConcreteType t end_of-ConcreteType) _ ts) = function_of (resolved fs ns t) (all_of (resolved_row fs ns ts))

  pub resolved_row : Forms → List ℕ → {m : _} → Row_of-ConcreteType m → List (Option Ty)
  resolved_row fs ns end_of-ConcreteType = []
  resolved_row fs ns (more_of-ConcreteType t rest) = resolved fs ns t ∷ resolved_row fs ns rest

-- the type, where the forms have these numbers; there is none where a name in it has no form
unfoldable pub ty_of : Forms → (numbers : List ℕ) → ConcreteType → Option Ty
ty_of = resolved

abbrev pub member_ty : Forms → (numbers : List ℕ) → MemberType → Option Ty
member_ty fs ns (member.Written None) = None
member_ty fs ns (member.Written (Some t)) = ty_of fs ns t
member_ty fs ns (member.Inner form) = type_of_form ns (Some form)

-- ---- what stands in a type by value

abbrev mutual
  pub contained : Forms → ConcreteType → List ℕ
  contained fs (Basic b) = []
  contained fs (Named name) = option_to_list (form_named fs.named name)
  contained fs (Instance' adt _ arguments) = option_to_list (form_of_instance fs adt (items-the_row-ConcreteType _ arguments))
  contained fs (Tuple' _ parts) = contained_row fs parts
  contained fs (Chan' _ _ capacity) = []
  contained fs (Pointer' _ _) = []
  contained fs (Array' _ (more_of-ConcreteType t end_of-ConcreteType) count) = contained fs t
  contained fs (Function' _ _ _ _) = []

  pub contained_row : Forms → {m : _} → Row_of-ConcreteType m → List ℕ
  contained_row fs end_of-ConcreteType = []
  contained_row fs (more_of-ConcreteType t rest) = contained fs t ++ contained_row fs rest

-- the forms that stand in a type by value
unfoldable pub parts : Forms → ConcreteType → List ℕ
parts = contained

abbrev pub member_parts : Forms → MemberType → List ℕ
member_parts fs (member.Written None) = []
member_parts fs (member.Written (Some t)) = parts fs t
member_parts fs (member.Inner form) = form ∷ []

abbrev pub parts_of_members : Forms → Option (List FormMember) → List ℕ
parts_of_members fs None = []
parts_of_members fs (Some ms) = flat_map (λ (m : FormMember). member_parts fs m.ty) ms

-- those that stand in a type with members by value
abbrev pub form_parts : Forms → Form → List ℕ
form_parts fs f = parts_of_members fs f.members
