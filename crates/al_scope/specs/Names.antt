-- What is known at a point of a text, and what a name stands for there.
use Rattle.std.specs.Prelude.{ℕ, ◌-◌, ◌==◌, bytes_eq, Bool, true, false, if◌then◌else◌, List, [], ◌∷◌, ◌++◌, length, take, find, reverse, position, Option, Some, None, option_map, codes}
use Rattle.al_base.specs.declared.place.Place.{Place}
use Rattle.al_tree.specs.declared.expression.Name.{Name}
use Rattle.al_rules.specs.declared.fault.TypeFault.{TypeFault}
use Rattle.al_rules.specs.Outcome.{ask}
use Rattle.al_scope.specs.declared.declaration.Declaration.{Declaration}
use Rattle.al_scope.specs.declared.declaration.Declaration.TheVariants as d
use Rattle.al_scope.specs.declared.declaration.Resolved.{Resolved}
use Rattle.al_scope.specs.declared.known.Known.{Known}
use Rattle.al_scope.specs.declared.walk.Walk.{Walk}
use Rattle.al_scope.specs.Rules.{is_declared}

-- ---- what is in scope. A parameter or local stands there as `Outer`, with how many functions are round its own.

abbrev pub known : ℕ → Declaration → Known
known name declaration = record { name = name; declaration = declaration }

-- what the latest of that name stands for
unfoldable pub latest : List Known → ℕ → Option Declaration
latest list name = option_map (λ (k : Known). k.declaration) (find (λ (k : Known). k.name == name) (reverse list))

-- as it is seen in the function or branch that has so many round it
unfoldable pub seen_from : ℕ → Declaration → Declaration
seen_from around (d.Outer own number) = if own == around then d.Local number else d.Outer own number
seen_from around other = other

-- what a name stands for
unfoldable pub meant : Walk → ℕ → Option Declaration
meant w name = option_map (seen_from (length w.around)) (latest w.known name)

-- ---- what single names do

abbrev pub resolved : Place → Declaration → Resolved
resolved at declaration = record { at = at; declaration = declaration }

abbrev pub resolved_if : Place → Option Declaration → List Resolved
resolved_if at None = []
resolved_if at (Some declaration) = resolved at declaration ∷ []

-- rules are asked
abbrev pub asked : List TypeFault → Walk → Walk
asked faults w = record w { faults = w.faults ++ faults }

-- what the name at a place stands for is found, if it is
abbrev pub found : Place → Option Declaration → Walk → Walk
found at declaration w = record w { names = w.names ++ resolved_if at declaration }

-- a name in an expression
unfoldable pub used : Place → ℕ → Walk → Walk
used at name w = found at (meant w name) (asked (ask 1 at (is_declared (meant w name))) w)

-- the name stands for that from here on
abbrev pub declared : Name → Declaration → Walk → Walk
declared name declaration w = record w { known = w.known ++ known name.name declaration ∷ []; names = w.names ++ resolved name.at declaration ∷ [] }

-- how many parameters and locals of the function at hand stand before
abbrev pub next_local : Walk → ℕ
next_local w = length w.locals - w.start

-- a parameter or local has the next number
unfoldable pub local : Name → Walk → Walk
local name w = record w {
  known = w.known ++ known name.name (d.Outer (length w.around) (next_local w)) ∷ [];
  names = w.names ++ resolved name.at (d.Local (next_local w)) ∷ [];
  locals = w.locals ++ Some name ∷ [];
}

-- a parameter without a name
unfoldable pub nameless : Walk → Walk
nameless w = record w { locals = w.locals ++ None ∷ [] }

abbrev pub is_global : Option Declaration → Bool
is_global (Some (d.Global n)) = true
is_global _ = false

abbrev pub is_function : Option Declaration → Bool
is_function (Some (d.Function n)) = true
is_function _ = false

-- a global, which may have been declared before
unfoldable pub global : Name → Walk → Walk
global name w =
    if is_global (meant w name.name) then found name.at (meant w name.name) w
    else declared name (d.Global (length w.globals)) (record w { globals = w.globals ++ name ∷ [] })

-- a function, which may have been declared before
unfoldable pub function : Name → Walk → Walk
function name w =
    if is_function (meant w name.name) then found name.at (meant w name.name) w
    else declared name (d.Function (length w.functions)) (record w { functions = w.functions ++ name ∷ [] })

-- an enum constant
unfoldable pub constant : Name → Walk → Walk
constant name w = declared name (d.Constant (length w.constants)) (record w { constants = w.constants ++ name ∷ [] })

-- what is declared in a scope is known up to its end
unfoldable pub scope : (Walk → Walk) → Walk → Walk
scope a w = record (a w) { known = take (length w.known) (a w).known }

-- a branch of a par is a function of its own
unfoldable pub branch : (Walk → Walk) → Walk → Walk
branch a w =
    let u = a (record w { around = w.around ++ w.start ∷ []; start = length w.locals }) in
    record u {
      known = take (length w.known) u.known;
      around = take (length w.around) u.around;
      start = w.start;
      locals = take (length w.locals) u.locals;
    }

-- a function of the text
unfoldable pub body : (Walk → Walk) → Walk → Walk
body a w =
    let u = a (record w { around = []; start = 0; locals = [] }) in
    record u { known = take (length w.known) u.known }

-- ---- what the language has

abbrev pub is_text : List ℕ → List ℕ → Bool
is_text text name = bytes_eq name text

unfoldable pub numbered : List ℕ → List (List ℕ) → Option ℕ
numbered text names = position (λ name. is_text text name) names

abbrev pub known_if : Declaration → Option ℕ → List Known
known_if declaration None = []
known_if declaration (Some name) = known name declaration ∷ []

-- print and terminate
unfoldable pub own_names : List (List ℕ) → List Known
own_names names = known_if d.Print (numbered (codes "print") names) ++ known_if d.Terminate (numbered (codes "terminate") names)

-- nothing is met yet, and nothing is known but what the language has
abbrev pub begun : List (List ℕ) → Walk
begun names = record {
  known = own_names names;
  constants = [];
  globals = [];
  functions = [];
  around = [];
  start = 0;
  locals = [];
  names = [];
  faults = [];
}
