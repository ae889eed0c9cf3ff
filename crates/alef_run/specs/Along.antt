-- A world that goes along a schedule, whose output is written now and then.
use Rattle.std.specs.Prelude.{◌≡◌, ℕ, ◌≤◌, List, length, take, slice_get, Option, Some, None}
use Rattle.al_base.specs.declared.over.Over.{Over}
use Rattle.al_base.specs.declared.over.Over.TheVariants.{Spent}
use Rattle.al_event.specs.declared.entry.Entry.{Entry}
use Rattle.al_host.specs.Outside.{Faulted, WhereTold}
use Rattle.al_core.specs.History.{History, run_of, output_of, with_entry}
use Rattle.al_rounds.specs.Later.{followed_by}
use Rattle.alef_run.specs.Rounds.{IsOver, GetsRounds}
use Rattle.alef_texts.specs.Outside.{GetsAll}
use Rattle.alef_texts.specs.declared.report.End.{End}
use Rattle.alef_texts.specs.declared.report.End.TheVariants.{Ran, Made, Words, ReadFault, Refused, BadImage, BadSchedule, BadEntry, BadNumber, WriteFault, NoMemory}

-- ---- entries one after the other

-- the first of these entries were made behind those of a history
pub record MakesFirst (entries : List Entry) (old new : History) : Type 0 where
  pub count : ℕ
  pub within : count ≤ length entries
  pub made : new ≡ followed_by (take count entries) old

-- of these entries the first ones were made behind those of a history, and the next one is not permitted
pub record StopsAlong (entries : List Entry) (old new : History) : Type 0 where
  pub count : ℕ
  pub entry : Entry
  pub here : slice_get entries count ≡ Some entry
  pub made : new ≡ followed_by (take count entries) old
  pub none : run_of (with_entry entry new) ≡ None

-- how a history ended that has all entries of its schedule
abbrev pub end_by : Option Over → End
end_by (Some over) = Ran over
end_by None = Ran Spent

-- ---- along a schedule

-- entry k of a schedule, counted from 0, is the first that is not permitted: those before it were made
pub record IsStopped (g : History) (h : List Entry) (k : ℕ) : Type 0 where
  pub entry : Entry
  pub here : slice_get h k ≡ Some entry
  pub made : g.entries ≡ take k h
  pub none : run_of (with_entry entry g) ≡ None

-- the first entries of a schedule were made
abbrev pub IsFront : History → List Entry → Type 0
IsFront g h = (n : ℕ) × (n ≤ length h) × (g.entries ≡ take n h)

-- how going along a schedule ends, how far that went, and what a sink got by then
abbrev pub WentTo : History → List Entry → End → Option (List ℕ) → Option (List ℕ) → ℕ → ℕ → Type 0
WentTo g h (Ran over) before after faults faults' =
    (g.entries ≡ h) × IsOver g over × WhereTold (GetsAll (output_of g)) before after × (faults' ≡ faults)
WentTo g h (BadEntry k) before after faults faults' =
    IsStopped g h k × WhereTold (GetsAll (output_of g)) before after × (faults' ≡ faults)
WentTo g h WriteFault before after faults faults' =
    IsFront g h × WhereTold (GetsRounds g) before after × Faulted faults faults'
WentTo g h NoMemory before after faults faults' =
    IsFront g h × WhereTold (GetsRounds g) before after × (faults' ≡ faults)
WentTo g h Made before after faults faults' = ⊥
WentTo g h Words before after faults faults' = ⊥
WentTo g h ReadFault before after faults faults' = ⊥
WentTo g h (Refused reason) before after faults faults' = ⊥
WentTo g h (BadImage fault) before after faults faults' = ⊥
WentTo g h (BadSchedule bad) before after faults faults' = ⊥
WentTo g h (BadNumber count) before after faults faults' = ⊥
