-- What holds where a run goes.
use Rattle.std.proofs.Common.{◌<◌, ◌≤◌, ◌^◌, length}
use Rattle.al_typed.specs.declared.program.Program.{Program}
use Rattle.al_typed.specs.WellTyped.{IsWellTyped}
use Rattle.al_meaning.specs.Meaning.{main_start}
use Rattle.al_lower_code.specs.Functions.{lowered}
use Rattle.al_lowered.specs.Lowered.{Lowered}
use Rattle.al_lowered.specs.Rules.{IsKnownStart}
use Rattle.al_lowering.specs.Addresses.{AddressesAreWords, blocks_end}
use Rattle.al_opened.specs.Opened.{HaveAddresses, HaveSense}
use Rattle.al_opened.proofs.Ends.{end_is, has_room}
use Rattle.al_opened.proofs.Sense as sense

pub have_addresses : ((p : Program) → blocks_end p < 2 ^ 32 → length p.functions ≤ 2 ^ 28 → AddressesAreWords p) → HaveAddresses
have_addresses addressed p region h w sound few g = addressed p (end_is p region (has_room p sound region h w g) g.small) few

pub have_sense : ((p : Program) → blocks_end p < 2 ^ 32 → length p.functions ≤ 2 ^ 28 → AddressesAreWords p) → ((p : Program) → IsWellTyped p → AddressesAreWords p → Lowered p (lowered p))
    → ((p : Program) → IsWellTyped p → IsKnownStart p (main_start p)) → HaveSense
have_sense addressed keeps main p region h w t c typed sound few g goes =
    sense.have_sense p (keeps p typed (have_addresses addressed p region h w sound few g)) (main p typed) region h w t c g.runs goes
