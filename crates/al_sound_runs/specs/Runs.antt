-- The runs of the programs of accepted texts.
use Rattle.std.specs.Prelude.{◌≡◌, ℕ, ◌↔◌, List, [], Some, None}
use Rattle.al_event.specs.declared.entry.Entry.{Entry}
use Rattle.al_world.specs.World.{Goes, TaskName, World}
use Rattle.al_typed.specs.declared.program.Program.{Program}
use Rattle.al_typed.specs.Measures.{IsWithin}
use Rattle.al_front.specs.Accepted.{IsAccepted}
use Rattle.al_meaning.specs.Items.{Control}
use Rattle.al_meaning.specs.Meaning.{run, source}
use Rattle.al_lowering.specs.Addresses.{AddressesAreWords}
use Rattle.al_opens.specs.Standing.{HaveRoom, Stand}
use Rattle.al_opened.specs.Opened.{IsGoing}
use Rattle.al_opened.specs.Sense.{HasSense}

-- what each task asks has a sense
abbrev pub AreNeverStuck : Type 0
AreNeverStuck =
    (text : List ℕ) (p : Program) (region : ℕ) (h : List Entry) (w : World (source p)) (t : TaskName) (c : Control) → IsAccepted text p → IsWithin p → IsGoing p region h w → w.tasks t ≡ Goes c → HasSense p c (w.privates t.proc)

-- the addresses of names and strings are words
abbrev pub HaveAddresses : Type 0
HaveAddresses =
    (text : List ℕ) (p : Program) (region : ℕ) (h : List Entry) (w : World (source p)) → IsAccepted text p → IsWithin p → IsGoing p region h w → AddressesAreWords p

-- the blocks stand in the first world, unless it is over, which it is exactly where there is no room for them
abbrev pub BlocksStand : Type 0
BlocksStand =
    (text : List ℕ) (p : Program) (region : ℕ) (w : World (source p)) → IsAccepted text p → run p region [] ≡ Some w → (w.shared.over ≡ None → Stand p region w.shared.store) × ((w.shared.over ≡ None) ↔ HaveRoom p region)
