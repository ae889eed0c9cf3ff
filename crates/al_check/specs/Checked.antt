-- The typed program of a text, by all typing rules.
use Rattle.std.specs.Prelude.{ℕ, Bool, false, List, ◌++◌, length, slice_get, Option, Some, None, option_and_then}
use Rattle.al_base.specs.declared.place.Place.{Place}
use Rattle.al_tree.specs.declared.item.Tree.{Tree}
use Rattle.al_rules.specs.Outcome.{Outcome, Good, Bad, ask, and_then}
use Rattle.al_typed.specs.declared.program.Program.{Program}
use Rattle.al_scope.specs.declared.declaration.Scopes.{Scopes}
use Rattle.al_scope.specs.Items.{resolved}
use Rattle.al_called.specs.Items.{names_are_called}
use Rattle.al_poly.specs.declared.instance.Instance.{Instance}
use Rattle.al_declare.specs.Functions.{functions}
use Rattle.al_declare.specs.Items.{names_hold}
use Rattle.al_environment.specs.declared.environment.Environment.{Environment}
use Rattle.al_environment.specs.declared.environment.Signature.{Signature}
use Rattle.al_build_environment.specs.Whole.{environment}
use Rattle.al_globals.specs.Globals.{main_of}
use Rattle.al_initial.specs.declared.globals.Initial.{Initial}
use Rattle.al_initial.specs.Whole.{initial}
use Rattle.al_bodies.specs.declared.found.Bodies.{Bodies}
use Rattle.al_bodies.specs.Bodies.{bodies}
use Rattle.al_elements.specs.Named.{elements}
use Rattle.al_check.specs.Flow.{all_targets}

-- ---- main

abbrev pub start : Place
start = record { line = 1; col = 1 }

abbrev pub function_at : List Signature → Option ℕ → Option Signature
function_at functions n = option_and_then (slice_get functions) n

abbrev pub number_in : Option Signature → Option ℕ
number_in s = option_and_then (λ (f : Signature). f.number) s

abbrev pub main_number : Tree → Environment → Option ℕ
main_number tree env = number_in (function_at env.functions (main_of tree.names env.scopes.functions))

-- ---- the program

-- of a text that declares that, whose globals start so, whose functions are these and whose main has that number
abbrev pub program : Environment → Initial → Bodies → ℕ → Program
program env i b main = record {
  aggregates = env.aggregates;
  globals = i.globals;
  strings = i.texts ++ b.texts;
  elements = elements env b.functions i.types b.types;
  functions = b.functions;
  main = main;
}

-- 4. A function main is defined.
abbrev pub with_main : Environment → Initial → Bodies → Option ℕ → Outcome Program
with_main env i b None = Bad (ask 4 start false)
with_main env i b (Some main) = Good (program env i b main)

unfoldable pub whole : Tree → Environment → Initial → Bodies → Outcome Program
whole tree env i b = with_main env i b (main_number tree env)

-- ---- the parts of the rules, one after the other

abbrev pub bodies_of : Tree → List Instance → Environment → (texts : ℕ) → Outcome Bodies
bodies_of tree is env texts = bodies env tree (functions tree.items is) texts

unfoldable pub with_bodies : Tree → List Instance → Environment → Initial → Outcome Program
with_bodies tree is env i = and_then (bodies_of tree is env (length i.texts)) (whole tree env i)

unfoldable pub with_globals : Tree → List Instance → Environment → Outcome Program
with_globals tree is env = and_then (initial env tree) (with_bodies tree is env)

unfoldable pub with_names : Tree → List Instance → Scopes → Outcome Program
with_names tree is scopes = and_then (environment tree is scopes) (with_globals tree is)

unfoldable pub with_flows : Tree → List Instance → Outcome Program
with_flows tree is = and_then (resolved tree) (with_names tree is)

-- The typed program of a text that has these instances: its faults are those of the first part that has some.
unfoldable pub check : Tree → List Instance → Outcome Program
check tree is =
    and_then (names_hold tree) (λ _. and_then (names_are_called tree) (λ _. and_then (all_targets tree.items) (λ _. with_flows tree is)))
