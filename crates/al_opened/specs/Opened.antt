-- Worlds that have opened, and are not over.
use Rattle.std.specs.Prelude.{◌≡◌, ℕ, ◌≤◌, ◌^◌, List, length, Some, None}
use Rattle.al_event.specs.declared.entry.Entry.{Entry}
use Rattle.al_world.specs.World.{TaskName, Goes, World}
use Rattle.al_typed.specs.declared.program.Program.{Program}
use Rattle.al_typed.specs.Sound.{HasSoundTypes}
use Rattle.al_typed.specs.WellTyped.{IsWellTyped}
use Rattle.al_meaning.specs.Items.{Control}
use Rattle.al_meaning.specs.Meaning.{run, source}
use Rattle.al_lowering.specs.Addresses.{AddressesAreWords}
use Rattle.al_opened.specs.Sense.{HasSense}

-- the run of a program comes to this world, which is not over, in a region that is no larger than regions are
pub record IsGoing (p : Program) (region : ℕ) (h : List Entry) (w : World (source p)) : Type 0 where
  pub small : region ≤ 2 ^ 28
  pub runs : run p region h ≡ Some w
  pub goes : w.shared.over ≡ None

-- where a run goes, all addresses of the program are words
abbrev pub HaveAddresses : Type 0
HaveAddresses =
    (p : Program) (region : ℕ) (h : List Entry) (w : World (source p)) → HasSoundTypes p → length p.functions ≤ 2 ^ 28 → IsGoing p region h w → AddressesAreWords p

-- and each task that goes on has a sense
abbrev pub HaveSense : Type 0
HaveSense =
    (p : Program) (region : ℕ) (h : List Entry) (w : World (source p)) (t : TaskName) (c : Control) → IsWellTyped p → HasSoundTypes p → length p.functions ≤ 2 ^ 28 → IsGoing p region h w → w.tasks t ≡ Goes c → HasSense p c (w.privates t.proc)
