-- A world as its callers see it: an image and its limits, the entries that were made, and what is lent to the workers. All
-- else is what the run of the image along these entries has.
use Rattle.std.specs.Prelude.{ℕ, zero, suc, ◌+◌, ◌*◌, ◌^◌, ◌==◌, nat_le, Bool, false, ◌&&◌, not, List, [], ◌∷◌, ◌++◌, length, count_by, slice_index_or, slice_set, Option, Some, None, option_map, option_and_then, is_some}
use Rattle.std.specs.List.{list_any}
use Rattle.std.specs.Option.{option_map_or}
use Rattle.al_base.specs.declared.over.Over.{Over}
use Rattle.al_event.specs.declared.entry.Entry.{Entry}
use Rattle.al_event.specs.declared.entry.Loan.{Loan}
use Rattle.rv_isa.specs.declared.image.Contents.{Contents}
use Rattle.al_world.specs.Procs.{first_ready}
use Rattle.al_world.specs.Control.{Asked, Kind}
use Rattle.al_world.specs.World.{TaskName, Shared, Held, Absent, Goes, Waits, World}
use Rattle.al_world.specs.Step.{run_from}
use Rattle.rv_exec.specs.Hart.{Hart}
use Rattle.rv_exec.specs.Calls.{Privates}
use Rattle.rv_exec.specs.Machine.{machine}
use Rattle.al_core.specs.Opening.{globals_of, main_of}

pub record History : Type 0 where
  pub image : Contents
  -- the size of the region, in MiB
  pub region : ℕ
  -- the most entries that there may be, and how many there may be by now
  pub limit : ℕ
  pub quota : ℕ
  pub entries : List Entry
  -- how many bytes of the output were dropped
  pub dropped : ℕ
  -- what is lent, by the workers' numbers
  pub loans : List (Option Loan)

-- ---- the run

-- the run of the image along a schedule
abbrev pub run_along : (h : History) → List Entry → Option (World (machine h.image))
run_along h entries = run_from (machine h.image) (h.region * 2 ^ 20) (globals_of h.image) (main_of h.image) entries

-- the world after the entries that were made
abbrev pub run_of : (h : History) → Option (World (machine h.image))
run_of h = run_along h h.entries

-- what all can see of it
abbrev pub seen_of : History → Option Shared
seen_of h = option_map (λ (w : World (machine h.image)). w.shared) (run_of h)

-- how it is over
abbrev pub over_of : History → Option Over
over_of h = option_and_then (λ (s : Shared). s.over) (seen_of h)

-- the line of the action that trapped, else 0
abbrev pub line_of : History → ℕ
line_of h = option_map_or (λ (s : Shared). s.line) (seen_of h) 0

-- the output, with the bytes that were dropped
abbrev pub output_of : History → List ℕ
output_of h = option_map_or (λ (s : Shared). s.output) (seen_of h) []

-- how many code words were fetched
abbrev pub work_of : History → ℕ
work_of h = option_map_or (λ (w : World (machine h.image)). w.work) (run_of h) 0

-- ---- what tasks ask next

module _ (K : Kind) where
  -- what a task asks that goes on
  abbrev pub asked_by : Held K.Control → K.Privates → Option (Asked K.Control K.Privates)
  asked_by (Goes c) u = Some (K.ask c u)
  asked_by (Waits act c) u = None
  asked_by Absent u = None

  -- what the first ready task of a proc asks next
  abbrev pub asked_next : World K → ℕ → Option (Asked K.Control K.Privates)
  asked_next w p = option_and_then (λ (t : TaskName). asked_by (w.tasks t) (w.privates p)) (first_ready w.shared.procs p)

-- what it asks after a schedule
abbrev pub next_ask : History → List Entry → ℕ → Option (Asked Hart Privates)
next_ask h entries p = option_and_then (λ w. asked_next (machine h.image) w p) (run_along h entries)

-- the proc has a ready task
abbrev pub has_ready : History → ℕ → Bool
has_ready h p = option_map_or (λ (s : Shared). is_some (first_ready s.procs p)) (seen_of h) false

-- ---- loans

abbrev pub loan_of : History → ℕ → Option Loan
loan_of h worker = slice_index_or h.loans worker None

-- how many procs are away
abbrev pub away : History → ℕ
away h = count_by (λ (l : Option Loan). is_some l) h.loans

abbrev pub is_of : ℕ → Option Loan → Bool
is_of p None = false
is_of p (Some loan) = loan.proc == p

abbrev pub is_away : History → ℕ → Bool
is_away h p = list_any (is_of p) h.loans

-- no more procs may go away, since the entries that they may make are all that there may be by now
abbrev pub is_full : History → Bool
is_full h = nat_le h.quota (length h.entries + away h)

-- a proc that is not away and has a ready task
abbrev pub is_free : History → ℕ → Bool
is_free h p = not (is_away h p) && has_ready h p

-- ---- changes

abbrev pub with_entry : Entry → History → History
with_entry e h = record h { entries = h.entries ++ e ∷ [] }

abbrev pub with_loan : ℕ → Option Loan → History → History
with_loan worker loan h = record h { loans = slice_set h.loans worker loan }

-- a proc is lent, as it is by now
abbrev pub lending : ℕ → ℕ → History → History
lending worker p h = with_loan worker (Some (record { proc = p; since = length h.entries })) h

-- nothing is lent to a worker any more
abbrev pub settled : ℕ → History → History
settled worker h = with_loan worker None h

-- before the first entry
abbrev pub no_loans : List (Option Loan)
no_loans = loans 64 where
  loans : ℕ → List (Option Loan)
  loans zero = []
  loans (suc n) = None ∷ loans n

abbrev pub opening : Contents → (region limit : ℕ) → History
opening image region limit = record {
  image = image;
  region = region;
  limit = limit;
  quota = limit;
  entries = [];
  dropped = 0;
  loans = no_loans;
}
