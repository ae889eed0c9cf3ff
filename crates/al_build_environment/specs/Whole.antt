-- The environment of a whole text: what its items declare.
use Rattle.std.specs.Prelude.{ℕ, List, [], Option}
use Rattle.al_base.specs.declared.place.Place.{Place}
use Rattle.al_tree.specs.declared.item.Tree.{Tree}
use Rattle.al_rules.specs.declared.fault.TypeFault.{TypeFault}
use Rattle.al_rules.specs.Outcome.{Outcome, and_then, ask, judge}
use Rattle.al_typed.specs.declared.program.Aggregate.{Aggregate}
use Rattle.al_typed.specs.declared.ty.Ty.{Ty}
use Rattle.al_scope.specs.declared.declaration.Scopes.{Scopes}
use Rattle.al_poly.specs.declared.instance.Instance.{Instance}
use Rattle.al_environment.specs.declared.environment.MemberNames.{MemberNames}
use Rattle.al_environment.specs.declared.environment.InstanceType.{InstanceType}
use Rattle.al_environment.specs.declared.environment.Environment.{Environment}
use Rattle.al_sound_types.specs.Environment.{environment_holds}
use Rattle.al_form.specs.declared.form.Forms.{Forms}
use Rattle.al_form.specs.Forms.{forms}
use Rattle.al_layout.specs.declared.row.LaidOut.{LaidOut}
use Rattle.al_layout.specs.Rows.{laid_out}
use Rattle.al_build_types.specs.Built.{built, instances}
use Rattle.al_declare.specs.declared.function.Defined.{Defined}
use Rattle.al_declare.specs.Functions.{functions}
use Rattle.al_member_names.specs.Members.{member_names}
use Rattle.al_adt_functions.specs.Functions.{functions as own_functions}
use Rattle.al_globals.specs.declared.found.Found.{Found}
use Rattle.al_globals.specs.Numbers.{numbers}
use Rattle.al_globals.specs.Globals.{globals}

abbrev pub first_place : Place
first_place = record { line = 1; col = 1 }

-- the environment in which types are found: no names, globals and functions are known
abbrev pub of_types : List Aggregate → List (Option Ty) → List InstanceType → Scopes → Environment
of_types rows types instances scopes = record {
  aggregates = rows;
  names = [];
  globals = [];
  functions = [];
  types = types;
  instances = instances;
  scopes = scopes;
}

abbrev pub types_of : Tree → Forms → Scopes → LaidOut → Environment
types_of tree fs scopes laid = of_types laid.aggregates (built fs laid.numbers tree) (instances fs laid.numbers) scopes

abbrev pub with_names : Environment → List MemberNames → Found → Environment
with_names env names found = record {
  aggregates = env.aggregates;
  names = names;
  globals = found.globals;
  functions = found.functions;
  types = env.types;
  instances = env.instances;
  scopes = env.scopes;
}

-- the names of members, where the types with members have these forms in their order, and the forms these numbers
abbrev pub names_of : Environment → Tree → List Defined → Forms → (order ns : List ℕ) → Outcome (List MemberNames)
names_of env tree defined fs order ns = and_then (own_functions env tree.items defined fs ns) (member_names fs ns order)

abbrev pub globals_of : Environment → Tree → List Defined → Outcome Found
globals_of env tree defined = globals env tree (numbers tree.names tree.items defined)

-- The rules of types are asked where a type is written, at the place of what breaks them. Here they are asked of all types as wholes, behind all others, so
-- that they are known to hold however a type came about. A break counts as one of rule 18 at the text's first place.
abbrev pub types_faults : Environment → List TypeFault
types_faults env = ask 18 first_place (environment_holds env)

unfoldable pub checked : Environment → Outcome Environment
checked env = judge (types_faults env) env

abbrev pub named : Environment → List MemberNames → Found → Outcome Environment
named env names found = checked (with_names env names found)

unfoldable pub whole : Environment → Tree → List Defined → Forms → (order ns : List ℕ) → Outcome Environment
whole env tree defined fs order ns =
    and_then (names_of env tree defined fs order ns) (λ names. and_then (globals_of env tree defined) (named env names))

abbrev pub laid_whole : Tree → Scopes → List Defined → Forms → LaidOut → Outcome Environment
laid_whole tree scopes defined fs laid = whole (types_of tree fs scopes laid) tree defined fs laid.forms laid.numbers

abbrev pub formed : Tree → Scopes → List Defined → Forms → Outcome Environment
formed tree scopes defined fs = and_then (laid_out fs) (laid_whole tree scopes defined fs)

-- the environment of a text that has these instances and whose names stand for that
unfoldable pub environment : Tree → List Instance → Scopes → Outcome Environment
environment tree is scopes = formed tree scopes (functions tree.items is) (forms tree is)
