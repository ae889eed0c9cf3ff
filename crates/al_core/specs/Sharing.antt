-- A world to the lock that keeps it.
use Rattle.std.specs.Prelude.{ℕ, List, Option}
use Rattle.al_event.specs.declared.entry.Entry.{Entry}
use Rattle.al_event.specs.declared.entry.Loan.{Loan}
use Rattle.al_core.specs.declared.sharing.Terms.{Terms}
use Rattle.al_core.specs.History.{History, loan_of}

abbrev pub world_entries : History → List Entry
world_entries h = h.entries

-- what no call under the lock changes
abbrev pub terms_of : History → Terms
terms_of h = record { image = h.image; region = h.region; limit = h.limit; quota = h.quota; dropped = h.dropped }

abbrev pub world_lent : History → ℕ → Option Loan
world_lent h k = loan_of h k
