-- The types of an environment are ones that the rules leave.
use Rattle.std.specs.Prelude.{Bool, true, ◌&&◌, nat_lt, List, length, Option, Some, None}
use Rattle.std.specs.List.{list_all}
use Rattle.al_typed.specs.declared.program.Aggregate.{Aggregate}
use Rattle.al_typed.specs.declared.ty.Ty.{Ty}
use Rattle.al_typed.specs.Layout.{members_of}
use Rattle.al_typed.specs.WellTyped.{is_sound, is_stored}
use Rattle.al_environment.specs.declared.environment.Environment.{Environment}
use Rattle.al_environment.specs.declared.environment.InstanceType.{InstanceType}
use Rattle.al_environment.specs.declared.environment.MemberNames.{MemberNames}
use Rattle.al_environment.specs.declared.environment.NamedFunction.{NamedFunction}
use Rattle.al_environment.specs.declared.environment.Signature.{Signature}
use Rattle.al_environment.specs.declared.environment.Variable.{Variable}
use Rattle.al_sound_types.specs.Types.{is_signature}

-- what a name stands for, if it is a type's name
abbrev pub is_known : List Aggregate → Option Ty → Bool
is_known rows None = true
is_known rows (Some t) = is_sound rows t

-- an instance is there, and its arguments are sound
abbrev pub is_instance : List Aggregate → InstanceType → Bool
is_instance rows i = nat_lt i.aggregate (length rows) && list_all (is_sound rows) i.arguments

-- members are stored
abbrev pub has_stored : List Aggregate → Aggregate → Bool
has_stored rows a = list_all (is_stored rows) (members_of (Some a))

abbrev pub signature_holds : List Aggregate → Signature → Bool
signature_holds rows f = is_signature rows f.returns f.parameters

abbrev pub method_holds : List Aggregate → NamedFunction → Bool
method_holds rows f = signature_holds rows f.signature

abbrev pub functions_hold : List Aggregate → MemberNames → Bool
functions_hold rows names = list_all (method_holds rows) names.functions

abbrev pub is_global : List Aggregate → Variable → Bool
is_global rows v = is_stored rows v.ty

unfoldable pub environment_holds : Environment → Bool
environment_holds env =
    list_all (has_stored env.aggregates) env.aggregates
    && list_all (is_known env.aggregates) env.types
    && list_all (is_instance env.aggregates) env.instances
    && list_all (is_global env.aggregates) env.globals
    && list_all (signature_holds env.aggregates) env.functions
    && list_all (functions_hold env.aggregates) env.names
