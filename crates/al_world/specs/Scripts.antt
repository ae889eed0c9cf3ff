-- A plain kind of control for examples: a task is a script, whose rest depends on the answer.
use Rattle.std.specs.Prelude.{ℕ, List, [], ◌∷◌, Option, Some, None, slice_index, option_map}
use Rattle.al_base.specs.declared.over.Over.{Over}
use Rattle.al_event.specs.declared.act.Branch.{Branch}
use Rattle.al_event.specs.declared.act.Start.{Start}
use Rattle.al_event.specs.declared.act.Act.{Act}
use Rattle.al_event.specs.declared.act.Act.TheVariants.{Talk, Print, End}
use Rattle.al_event.specs.declared.entry.Entry.{Entry}
use Rattle.al_world.specs.Control.{Kind}
use Rattle.al_world.specs.Talks.{Went}
use Rattle.al_world.specs.World.{TalkName, Shared}
use Rattle.al_world.specs.Step.{opening, seen}

pub data Script : Type 0 where
  Stops : Script
  Then : (act : Act) → (List ℕ → Script) → Script

abbrev pub asked_of : Script → Act
asked_of Stops = End
asked_of (Then act rest) = act

abbrev pub answered : Script → List ℕ → Script
answered Stops words = Stops
answered (Then act rest) words = rest words

-- tasks that run these functions; each action stands in line 1
abbrev pub scripts : (ℕ → List ℕ → Script) → Kind
scripts functions = record {
  Control = Script;
  Privates = Unit {0};
  ask = λ c u. record { act = asked_of c; line = 1; work = 0; control = c; privates = u };
  resume = answered;
  start = λ start. functions start.code start.words;
  fresh = tt;
}

-- ---- short forms of scripts

-- an action without an answer
abbrev pub does : Act → Script → Script
does act rest = Then act (λ _. rest)

-- an action that answers one word
abbrev pub gives_word : Act → (ℕ → Script) → Script
gives_word act rest = Then act (λ words. rest (slice_index words 0))

abbrev pub send_of : ℕ → ℕ → Branch
send_of c v = record { chan = c; words = 1; send = Some (v ∷ []) }

abbrev pub receive_of : ℕ → Branch
receive_of c = record { chan = c; words = 1; send = None }

abbrev pub sends : ℕ → ℕ → Script → Script
sends c v rest = does (Talk (send_of c v ∷ [])) rest

abbrev pub receives : ℕ → (ℕ → Script) → Script
receives c rest = Then (Talk (receive_of c ∷ [])) (λ words. rest (slice_index words 1))

-- an alt of these branches; the rest has the branch that went and the first word that it received
abbrev pub chooses : List Branch → (ℕ → ℕ → Script) → Script
chooses branches rest = Then (Talk branches) (λ words. rest (slice_index words 0) (slice_index words 1))

abbrev pub prints : ℕ → Script → Script
prints b rest = does (Print (b ∷ [])) rest

abbrev pub function : ℕ → List ℕ → Start
function code words = record { code = code; words = words }

-- ---- schedules

-- entries of these procs, each with pick 0
abbrev pub by_procs : List ℕ → List Entry
by_procs [] = []
by_procs (p ∷ ps) = record { proc = p; pick = 0; worker = 0 } ∷ by_procs ps

-- entries of proc 0 with these picks
abbrev pub with_picks : List ℕ → List Entry
with_picks [] = []
with_picks (k ∷ ks) = record { proc = 0; pick = k; worker = 0 } ∷ with_picks ks

-- what all can see after a schedule, from function 0 over these globals in a region of so many bytes
abbrev pub after_entries : (ℕ → List ℕ → Script) → ℕ → List (List ℕ) → List Entry → Option Shared
after_entries functions region globals h = seen (scripts functions) (opening (scripts functions) region globals (function 0 [])) h

abbrev pub output_of : Option Shared → Option (List ℕ)
output_of o = option_map (λ (s : Shared). s.output) o

abbrev pub over_of : Option Shared → Option (Option Over)
over_of o = option_map (λ (s : Shared). s.over) o

abbrev pub line_in : Option Shared → Option ℕ
line_in o = option_map (λ (s : Shared). s.line) o

abbrev pub went_of : Option Shared → Option (List (Went TalkName))
went_of o = option_map (λ (s : Shared). s.went) o
