-- No run of a program whose types are sound needs a number that has no room in a word.
use Rattle.std.specs.Prelude.{ℕ, ◌≤◌, ◌^◌, List, length}
use Rattle.al_event.specs.declared.entry.Entry.{Entry}
use Rattle.al_typed.specs.declared.program.Program.{Program}
use Rattle.al_typed.specs.Measures.{IsWithin}
use Rattle.al_typed.specs.Sound.{HasSoundTypes, IsShort}
use Rattle.al_counts.specs.Counts.{most_entries}
use Rattle.al_show.specs.Walks.{IsTooLarge}

-- A program whose types are sound, which passes no limit and is short: so is that of each text that is accepted within the limits.
pub record HasRoom (p : Program) : Type 0 where
  pub sound : HasSoundTypes p
  pub within : IsWithin p
  pub short : IsShort p

-- where the entries are as few as those of a schedule
abbrev pub NoneIsTooLarge : Type 0
NoneIsTooLarge = (p : Program) (region : ℕ) (h : List Entry) → HasRoom p → region ≤ 2 ^ 28 → length h ≤ most_entries → IsTooLarge p region h → ⊥
