-- A desk to its callers.
use Rattle.std.specs.Prelude.{ℕ, List, Option, None, slice_index_or}
use Rattle.al_event.specs.declared.entry.Entry.{Entry}
use Rattle.al_event.specs.declared.entry.Loan.{Loan}

pub record DeskValue : Type 0 where
  pub label : ℕ
  pub entries : List Entry
  pub loans : List (Option Loan)

abbrev pub desk_label : DeskValue → ℕ
desk_label d = d.label

abbrev pub desk_entries : DeskValue → List Entry
desk_entries d = d.entries

abbrev pub desk_lent : DeskValue → ℕ → Option Loan
desk_lent d k = slice_index_or d.loans k None

abbrev pub entry : ℕ → ℕ → Entry
entry proc worker = record { proc = proc; pick = 0; worker = worker }
