-- Which private globals and which starts there are in the runs of a program.
use Rattle.std.specs.Prelude.{◌≡◌, ℕ, ⊤, if◌then◌else◌, List, [], ◌++◌, map, Some}
use Rattle.std.specs.List.{AllByRecursion, flat_map}
use Rattle.al_event.specs.declared.act.Start.{Start}
use Rattle.al_world.specs.Alike.{starts_in}
use Rattle.al_typed.specs.declared.layout.Unit.{Unit}
use Rattle.al_typed.specs.declared.program.Function.{Function}
use Rattle.al_typed.specs.declared.program.Global.{Global}
use Rattle.al_typed.specs.declared.program.Program.{Program}
use Rattle.al_typed.specs.Layout.{unit_at}
use Rattle.al_typed.specs.Typed.{parameter_types}
use Rattle.al_meaning.specs.Words.{fitted_to}
use Rattle.al_meaning.specs.Places.{function_at}
use Rattle.al_meaning.specs.Here.{units_in}
use Rattle.al_meaning.specs.Tasks.{Answer, Outcome, Over, Unfinished, Stuck}
use Rattle.al_meaning.specs.Tasks as outcome

-- private globals that there are, and functions that may be started
pub record Rules : Type 1 where
  pub Private : List ℕ → Type 0
  pub IsStart : Start → Type 0

-- What is asked keeps them. A task that is stuck has no sense.
abbrev pub IsGood : Rules → Outcome → Type 0
IsGood R (outcome.Asks a line privates) = R.Private privates × AllByRecursion R.IsStart (starts_in a)
IsGood R Over = ⊤
IsGood R Unfinished = ⊤
IsGood R Stuck = ⊥

abbrev pub AreGood : Rules → List Answer → Type 0
AreGood R answers = AllByRecursion (λ (a : Answer). R.Private a.privates) answers

-- ---- the rules of a program

-- one word for each unit, which keeps its bytes
abbrev pub AreOf : List Unit → List ℕ → Type 0
AreOf units words = fitted_to units words ≡ words

abbrev pub private_units : Program → Global → List Unit
private_units p g = if g.is_private then units_in p g.ty else []

abbrev pub IsPrivate : Program → List ℕ → Type 0
IsPrivate p words = AreOf (flat_map (private_units p) p.globals) words

-- what a function is given: a branch of a par the addresses of the blocks round it, any other the words of its parameters
abbrev pub given_units : Program → Function → List Unit
given_units p f = map (λ _. unit_at 0 4) f.around ++ flat_map (units_in p) (parameter_types f)

-- a function that the program has, with words for it
pub record IsKnownStart (p : Program) (start : Start) : Type 0 where
  pub function : Function
  pub at : function_at p start.code ≡ Some function
  pub words : AreOf (given_units p function) start.words

abbrev pub rules : Program → Rules
rules p = record { Private = IsPrivate p; IsStart = IsKnownStart p }
