-- The parameters and locals of a function or par branch.
use Rattle.std.specs.Prelude.{ℕ, nat_le, Bool, false, not, ◌||◌, if◌then◌else◌, List, [], ◌∷◌, map, length, slice_get, Option, Some, None, unwrap_or}
use Rattle.al_base.specs.declared.place.Place.{Place}
use Rattle.al_tree.specs.declared.item.Parameter.{Parameter}
use Rattle.al_tree.specs.declared.item.Parameter.TheVariants as parameter
use Rattle.al_tree.specs.declared.statement.Stmt.{Stmt}
use Rattle.al_rules.specs.declared.fault.TypeFault.{TypeFault}
use Rattle.al_rules.specs.Outcome.{ask}
use Rattle.al_scope.specs.declared.declaration.Resolved.{Resolved}
use Rattle.al_flow.specs.Marks.{number_of}
use Rattle.al_shared.specs.Statements.{shared}
use Rattle.al_typed.specs.declared.ty.Ty.{Ty}
use Rattle.al_typed.specs.declared.program.Aggregate.{Aggregate}
use Rattle.al_typed.specs.declared.program.Local.{Local}
use Rattle.al_typed.specs.Types.{may_be_private}
use Rattle.al_typed.specs.Layout.{in_order, layout}
use Rattle.al_typed.specs.WellTyped.{is_sound, shared_types}
use Rattle.al_sound_types.specs.Types.{types_hold}
use Rattle.al_environment.specs.declared.environment.Variable.{Variable}
use Rattle.al_type_rules.specs.Types.{known}
use Rattle.al_body_parts.specs.declared.parts.DeclaredLocal.{DeclaredLocal}
use Rattle.al_type_function.specs.declared.locals.Declared.{Declared}
use Rattle.al_type_function.specs.declared.frame.Frame.{Frame}
use Rattle.al_type_function.specs.Numbers.{capped, indexed}

-- ---- what is declared

-- the bytes of a name by its number; what has no name has an empty one
abbrev pub bytes_of : (names : List (List ℕ)) → Option ℕ → List ℕ
bytes_of names None = []
bytes_of names (Some n) = unwrap_or (slice_get names n) []

unfoldable pub parameter_name : Parameter → Option ℕ
parameter_name (parameter.Plain at base stars name bounds) = number_of name
parameter_name (parameter.OwnPointer at name) = None
parameter_name (parameter.OwnValue at name) = None

-- parameters that have these types
abbrev pub declared_parameter : List Ty → ℕ → Parameter → Declared
declared_parameter ts k p = record { name = parameter_name p; ty = known (slice_get ts k) }

abbrev pub declared_parameters : List Ty → List Parameter → List Declared
declared_parameters ts ps = indexed (declared_parameter ts) 0 ps

abbrev pub declared_local : DeclaredLocal → Declared
declared_local l = record { name = Some l.name; ty = l.ty }

-- ---- what expressions know of them

abbrev pub variable : ℕ → Declared → Variable
variable k d = record { number = capped k; ty = d.ty; is_private = false }

abbrev pub variables : List Declared → List Variable
variables ds = indexed variable 0 ds

-- ---- what the program has of them

abbrev pub is_marked : List Bool → ℕ → Bool
is_marked marks k = unwrap_or (slice_get marks k) false

-- what the body makes shared, and what is always
abbrev pub is_shared : (is_marked : Bool) → Ty → Bool
is_shared is_marked t = is_marked || not (may_be_private t)

abbrev pub local : (names : List (List ℕ)) → (marks : List Bool) → ℕ → Declared → Local
local names marks k d = record { name = bytes_of names d.name; ty = d.ty; is_shared = is_shared (is_marked marks k) d.ty }

abbrev pub locals : (names : List (List ℕ)) → (marks : List Bool) → List Declared → List Local
locals names marks ds = indexed (local names marks) 0 ds

abbrev pub shared_type : Local → List Ty
shared_type l = if l.is_shared then l.ty ∷ [] else []

-- 18. A function's shared locals together have at most 2^28 bytes.
abbrev pub rule_18_locals : List Aggregate → List Local → Bool
rule_18_locals rows ls = nat_le (in_order (map (layout rows) (shared_types ls))).size 268435456

abbrev pub locals_faults : List Aggregate → Place → List Local → List TypeFault
locals_faults rows at ls = ask 18 at (rule_18_locals rows ls)

-- Parameters and locals are stored, and the types that are written in a body are sound. The rules that say so are asked where a type is written, at the
-- place of what breaks them. Here they are asked of types as wholes, behind all others.
abbrev pub types_faults : List Aggregate → Place → List Local → (written : List Ty) → List TypeFault
types_faults rows at ls written = ask 18 at (types_hold rows ls written)

-- and so is what a function returns
abbrev pub result_faults : List Aggregate → Place → (returns : Ty) → List TypeFault
result_faults rows at returns = ask 18 at (is_sound rows returns)

-- ---- both, of a function or branch with that body, round which so many functions are, and which has so many labels

unfoldable pub frame_of : (names : List (List ℕ)) → List Resolved → (round : ℕ) → Stmt → List Declared → (labels : ℕ) → Frame
frame_of names resolved round body ds labels = record {
  variables = variables ds;
  locals = locals names (shared resolved round (length ds) body) ds;
  labels = capped labels;
}
