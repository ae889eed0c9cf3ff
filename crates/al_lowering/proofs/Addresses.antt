-- Addresses that are words, as lowering was proved with them.
use Rattle.std.proofs.Common.{◌^◌, ◌<◌, ◌≤◌, length}
use Rattle.al_typed.specs.declared.program.Program.{Program}
use Rattle.al_lower_whole.proofs.Addresses.{IsAddressed}
use Rattle.al_lower_whole.proofs.Addresses as whole
use Rattle.al_lowering.specs.Addresses.{AddressesAreWords, blocks_end}

pub is_addressed : (p : Program) → AddressesAreWords p → IsAddressed p
is_addressed p A = record { globals = A.globals; texts = A.strings; functions = A.functions }

pub are_words : (p : Program) → blocks_end p < 2 ^ 32 → length p.functions ≤ 2 ^ 28 → AddressesAreWords p
are_words p end few =
    let h = whole.addressed p end few in
    record { globals = h.globals; strings = h.texts; functions = h.functions }
