-- The initializers of a text, in text order: what they write, and what globals start with by them.
use Rattle.std.specs.Prelude.{ℕ, Bool, false, List, fold, slice_get, slice_set, Option, Some, None}
use Rattle.al_base.specs.declared.place.Place.{Place}
use Rattle.al_rules.specs.Outcome.{Outcome, Good, Bad, ask, and_then, both}
use Rattle.al_tree.specs.declared.item.Initializer.{Initializer, fold-Initializer}
use Rattle.al_tree.specs.declared.item.Initializer.TheOpen.{Initializer-F}
use Rattle.al_tree.specs.declared.item.Declarator.{Declarator}
use Rattle.al_tree.specs.declared.item.Declarator.TheVariants as declarator
use Rattle.al_tree.specs.declared.item.Item.{Item}
use Rattle.al_tree.specs.declared.item.Item.TheVariants as item
use Rattle.al_scope.specs.declared.declaration.Declaration.{Declaration}
use Rattle.al_scope.specs.declared.declaration.Declaration.TheVariants as declaration
use Rattle.al_scope.specs.Firsts.{declaration_at}
use Rattle.al_typed.specs.declared.program.StartValue.{StartValue}
use Rattle.al_environment.specs.declared.environment.Variable.{Variable}
use Rattle.al_environment.specs.declared.environment.Environment.{Environment}
use Rattle.al_environment.specs.declared.environment.Here.{Here}
use Rattle.al_body_parts.specs.declared.parts.Parts.{Parts}
use Rattle.al_body_parts.specs.Expressions.{expr}
use Rattle.al_initial.specs.Initializers.{initializer}

-- ---- what is written in initializers

-- what adds to what was gathered
abbrev pub Gathering : Type 0
Gathering = Parts → Parts

-- one after the other
abbrev pub each : {A : Type 0} → (A → Gathering) → List A → Gathering
each f xs q = fold (λ r x. f x r) q xs

abbrev pub optional : {A : Type 0} → (A → Gathering) → Option A → Gathering
optional f None q = q
optional f (Some x) q = f x q

module _ (env : Environment) (here : Here) where
  abbrev pub written_step : Initializer-F Gathering → Gathering
  written_step (Initializer-F.Value e) q = expr env here e false q
  written_step (Initializer-F.Braces at gs) q = each (λ g. g) gs q

  unfoldable pub written : Initializer → Gathering
  written = fold-Initializer Gathering written_step

  abbrev pub written_by : Declarator → Gathering
  written_by (declarator.Global dcl value) q = optional written value q
  written_by (declarator.Function head) q = q

  unfoldable pub written_in : Item → Gathering
  written_in (item.Declare at scope base list) q = each written_by list q
  written_in _ q = q

-- ---- what globals start with

-- by the numbers of globals
abbrev pub Starts : Type 0
Starts = List (List StartValue)

-- the number of the global that a name declares
abbrev pub global_in : Option Declaration → Option ℕ
global_in (Some (declaration.Global n)) = Some n
global_in _ = None

-- the later of two initializers of one global counts; rule 2 is asked elsewhere
abbrev pub with_start : Starts → ℕ × List StartValue → Outcome Starts
with_start starts s = Good (slice_set starts s.0 s.1)

module _ (env : Environment) (here : Here) (adts : List Bool) where
  abbrev pub known_start : Place → Initializer → ℕ → Option Variable → Outcome (ℕ × List StartValue)
  known_start at i n None = Bad (ask 1 at false)
  known_start at i n (Some v) = and_then (initializer env here adts i v.ty 0) (λ values. Good (n, values))

  abbrev pub numbered_start : Place → Initializer → Option ℕ → Outcome (ℕ × List StartValue)
  numbered_start at i None = Bad (ask 1 at false)
  numbered_start at i (Some n) = known_start at i n (slice_get env.globals n)

  -- the global that a name declares, and what it starts with
  unfoldable pub global_start : Place → Initializer → Outcome (ℕ × List StartValue)
  global_start at i = numbered_start at i (global_in (declaration_at env.scopes.names at))

  abbrev pub started_if : Outcome Starts → Place → Option Initializer → Outcome Starts
  started_if starts at None = starts
  started_if starts at (Some i) = both starts (global_start at i) with_start

  abbrev pub started_by : Outcome Starts → Declarator → Outcome Starts
  started_by starts (declarator.Global dcl value) = started_if starts dcl.name.at value
  started_by starts (declarator.Function head) = starts

  unfoldable pub started_in : Outcome Starts → Item → Outcome Starts
  started_in starts (item.Declare at scope base list) = fold started_by starts list
  started_in starts _ = starts
