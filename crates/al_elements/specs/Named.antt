-- The elements of the channel types that a text names.
use Rattle.std.specs.Prelude.{List, [], Option, Some, None}
use Rattle.al_typed.specs.declared.ty.Ty.{Ty}
use Rattle.al_typed.specs.declared.program.Aggregate.{Aggregate}
use Rattle.al_typed.specs.declared.program.Function.{Function}
use Rattle.al_typed.specs.declared.program.Local.{Local}
use Rattle.al_environment.specs.declared.environment.Environment.{Environment}
use Rattle.al_environment.specs.declared.environment.InstanceType.{InstanceType}
use Rattle.al_environment.specs.declared.environment.MemberNames.{MemberNames}
use Rattle.al_environment.specs.declared.environment.NamedFunction.{NamedFunction}
use Rattle.al_environment.specs.declared.environment.Signature.{Signature}
use Rattle.al_environment.specs.declared.environment.Variable.{Variable}
use Rattle.al_elements.specs.Elements.{in_type, in_types, each}

-- what adds the elements in something to a list
abbrev pub Way : Type 0
Way = List Ty → List Ty

abbrev pub in_optional : Option Ty → Way
in_optional None l = l
in_optional (Some t) l = in_type t l

abbrev pub in_signature : Signature → Way
in_signature s l = in_types s.parameters (in_type s.returns l)

abbrev pub in_function : NamedFunction → Way
in_function f l = in_signature f.signature l

abbrev pub in_names : MemberNames → Way
in_names n l = each in_function n.functions l

abbrev pub in_global : Variable → Way
in_global v l = in_type v.ty l

abbrev pub in_instance : InstanceType → Way
in_instance i l = in_types i.arguments l

abbrev pub in_members_of : Option (List Ty) → Way
in_members_of None l = l
in_members_of (Some ts) l = in_types ts l

abbrev pub in_members : Aggregate → Way
in_members row l = in_members_of row.members l

-- what items declare
unfoldable pub in_environment : Environment → Way
in_environment env l =
    each in_members env.aggregates
    (each in_instance env.instances
    (each in_names env.names
    (each in_signature env.functions
    (each in_global env.globals
    (each in_optional env.types l)))))

abbrev pub in_local : Local → Way
in_local v l = in_type v.ty l

-- the result, the parameters and the locals of a function
abbrev pub in_body : Function → Way
in_body f l = each in_local f.locals (in_type f.returns l)

-- with the types that are written in initializers and in bodies
unfoldable pub elements : Environment → List Function → (initial written : List Ty) → List Ty
elements env functions initial written =
    in_types written (in_types initial (each in_body functions (in_environment env [])))
