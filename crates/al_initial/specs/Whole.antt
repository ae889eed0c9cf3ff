-- The globals of a whole text with what they start with.
use Rattle.std.specs.Prelude.{ℕ, ◌+◌, nat_le, if◌then◌else◌, List, [], ◌∷◌, ◌++◌, map, fold, slice_get, Option, Some, None, unwrap_or}
use Rattle.al_base.specs.declared.place.Place.{Place}
use Rattle.std.specs.List.{list_all}
use Rattle.al_rules.specs.declared.fault.TypeFault.{TypeFault}
use Rattle.al_rules.specs.Outcome.{Outcome, Good, ask, judge, and_then}
use Rattle.al_tree.specs.declared.expression.Name.{Name}
use Rattle.al_tree.specs.declared.item.Tree.{Tree}
use Rattle.al_typed.specs.declared.program.Aggregate.{Aggregate}
use Rattle.al_typed.specs.declared.program.Global.{Global}
use Rattle.al_typed.specs.declared.program.StartValue.{StartValue}
use Rattle.al_typed.specs.declared.ty.Ty.{Ty}
use Rattle.al_typed.specs.WellTyped.{is_sound}
use Rattle.al_environment.specs.declared.numbered.Numbered.{Numbered}
use Rattle.al_environment.specs.declared.environment.Variable.{Variable}
use Rattle.al_environment.specs.declared.environment.Environment.{Environment}
use Rattle.al_environment.specs.declared.environment.Here.{Here}
use Rattle.al_body_parts.specs.declared.parts.Parts.{Parts}
use Rattle.al_body_parts.specs.declared.parts.WrittenText.{WrittenText}
use Rattle.al_body_parts.specs.Parts.{nothing}
use Rattle.al_initial.specs.declared.gather.Written.{Written}
use Rattle.al_initial.specs.declared.globals.Initial.{Initial}
use Rattle.al_initial.specs.Adts.{adts}
use Rattle.al_initial.specs.Walks.{Starts, each, written_in, started_in}

-- ---- string constants

-- where no function is at hand, and string constants have these numbers
abbrev pub outside : List Numbered → Here
outside texts = record { own = None; locals = []; around = []; texts = texts; iterators = [] }

-- a program numbers by 32 bits, and what is past that has no number
abbrev pub numbered_text : Place → ℕ → List Numbered
numbered_text at n = if nat_le n 4294967295 then (record { at = at; number = n }) ∷ [] else []

-- string constants, numbered in their order from a number on
unfoldable pub numbered : (from : ℕ) → List WrittenText → List Numbered
numbered from [] = []
numbered from (t ∷ ts) = numbered_text t.at from ++ numbered (from + 1) ts

abbrev pub bytes_in : WrittenText → List ℕ
bytes_in t = t.bytes

-- ---- globals

abbrev pub name_of : List (List ℕ) → Option Name → List ℕ
name_of names None = []
name_of names (Some n) = unwrap_or (slice_get names n.name) []

-- the global of that number
unfoldable pub global : Environment → Tree → Starts → ℕ → Variable → Global
global env tree starts k v = record {
  name = name_of tree.names (slice_get env.scopes.globals k);
  ty = v.ty;
  is_private = v.is_private;
  start = unwrap_or (slice_get starts k) [];
}

-- these globals, numbered from a number on
unfoldable pub globals_from : Environment → Tree → Starts → ℕ → List Variable → List Global
globals_from env tree starts k [] = []
globals_from env tree starts k (v ∷ vs) = global env tree starts k v ∷ globals_from env tree starts (k + 1) vs

abbrev pub no_start : Variable → List StartValue
no_start v = []

-- ---- a text

-- what its initializers write
abbrev pub gathered : Environment → Tree → Parts
gathered env tree = each (written_in env (outside [])) tree.items nothing

-- what its globals start with, where string constants have these numbers
abbrev pub starts : Environment → Tree → List Numbered → Outcome Starts
starts env tree texts = fold (started_in env (outside texts) (adts env tree.items)) (Good (map no_start env.globals)) tree.items

abbrev pub whole : Environment → Tree → Written → Starts → Initial
whole env tree w s = record { globals = globals_from env tree s 0 env.globals; texts = map bytes_in w.texts; types = w.types }

abbrev pub of_written : Environment → Tree → Written → Outcome Initial
of_written env tree w = and_then (starts env tree (numbered 0 w.texts)) (λ s. Good (whole env tree w s))

abbrev pub first_place : Place
first_place = record { line = 1; col = 1 }

-- behind these, of the types as wholes; a break counts as one of rule 18 at the text's first place
abbrev pub types_faults : List Aggregate → List Ty → List TypeFault
types_faults rows ts = ask 18 first_place (list_all (is_sound rows) ts)

-- 7, 16, 18, 20. What is asked of the types that initializers write.
abbrev pub judged : List Aggregate → Parts → Outcome Written
judged rows q = judge (q.faults ++ types_faults rows q.types) (record { texts = q.texts; types = q.types })

unfoldable pub initial : Environment → Tree → Outcome Initial
initial env tree = and_then (judged env.aggregates (gathered env tree)) (of_written env tree)
