-- A world that runs in rounds, whose output is written after each.
use Rattle.std.specs.Prelude.{◌≡◌, ℕ, ◌+◌, ◌*◌, ◌<◌, ◌≤◌, ◌⊎◌, List, ◌++◌, length, take, All, Option, Some, None, IsSome}
use Rattle.al_base.specs.declared.over.Over.{Over}
use Rattle.al_base.specs.declared.over.Over.TheVariants.{Spent}
use Rattle.al_event.specs.declared.entry.Entry.{Entry}
use Rattle.al_host.specs.Outside.{Faulted, WhereTold}
use Rattle.rv_isa.specs.declared.image.Contents.{Contents}
use Rattle.al_core.specs.History.{History, opening, run_of, over_of, output_of}
use Rattle.alef_texts.specs.Outside.{GetsAll}
use Rattle.alef_texts.specs.declared.report.End.{End}
use Rattle.alef_texts.specs.declared.report.End.TheVariants.{Ran, Made, Words, ReadFault, Refused, BadImage, BadSchedule, BadEntry, BadNumber, WriteFault, NoMemory}

-- an image along a schedule, under these limits
abbrev pub history_along : Contents → (region limit : ℕ) → List Entry → History
history_along image region limit entries = record {
  image = image;
  region = region;
  limit = limit;
  quota = limit;
  entries = entries;
  dropped = 0;
  loans = (opening image region limit).loans;
}

-- The image has a run along the schedule, which is within the limit and was made by so many workers, numbered from 0 on.
pub record IsLegal (workers : ℕ) (h : History) : Type 0 where
  pub runs : IsSome (run_of h)
  pub most : length h.entries ≤ h.limit
  pub made_by : All (λ (e : Entry). e.worker < workers) h.entries

-- how it ended: as its run is over; or it has as many entries as it may have, and its run is not over
abbrev pub IsOver : History → Over → Type 0
IsOver h over = (over_of h ≡ Some over) ⊎ ((over ≡ Spent) × (over_of h ≡ None) × (length h.entries ≡ h.limit))

-- the most entries of a round
abbrev pub round_length : ℕ
round_length = 65536

abbrev pub first_rounds : (rounds : ℕ) → History → History
first_rounds rounds h = record h { entries = take (round_length * rounds) h.entries }

-- a sink got a first part of the output; at least what the rounds before the last one put out
pub record GetsRounds (h : History) (before after : List ℕ) : Type 0 where
  pub size : ℕ
  pub within : size ≤ length (output_of h)
  pub got : after ≡ before ++ take size (output_of h)
  pub rounds : ℕ
  pub last : length h.entries ≤ round_length * (rounds + 1)
  pub written : length (output_of (first_rounds rounds h)) ≤ size

-- the last round was run to its end
abbrev pub IsWholeRound : History → Type 0
IsWholeRound h = ((rounds : ℕ) × (length h.entries ≡ round_length * rounds)) ⊎ ((length h.entries ≡ h.limit) ⊎ IsSome (over_of h))

-- how a run ends, and what a sink got by then
abbrev pub RanTo : History → End → Option (List ℕ) → Option (List ℕ) → ℕ → ℕ → Type 0
RanTo h (Ran over) before after faults faults' =
    IsOver h over × WhereTold (GetsAll (output_of h)) before after × (faults' ≡ faults)
RanTo h WriteFault before after faults faults' =
    IsWholeRound h × WhereTold (GetsRounds h) before after × Faulted faults faults'
RanTo h NoMemory before after faults faults' = WhereTold (GetsRounds h) before after × (faults' ≡ faults)
RanTo h Made before after faults faults' = ⊥
RanTo h Words before after faults faults' = ⊥
RanTo h (BadSchedule bad) before after faults faults' = ⊥
RanTo h (BadEntry number) before after faults faults' = ⊥
RanTo h (BadNumber count) before after faults faults' = ⊥
RanTo h ReadFault before after faults faults' = ⊥
RanTo h (Refused reason) before after faults faults' = ⊥
RanTo h (BadImage fault) before after faults faults' = ⊥
