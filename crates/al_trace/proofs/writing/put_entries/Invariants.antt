use Rattle.std.proofs.Common.{◌≡◌, ◌*◌, ◌≤◌, take}
use Rattle.std.specs.List.{flat_map}
use Rattle.al_trace.specs.Schedule.{entry_line}
use Rattle.al_trace.proofs.writing.put_entries.Given as goal

abbrev pub invariant-loop-entry : goal.invariant-loop-entry
invariant-loop-entry l = record { short : l.end ≤ 33 * l.entry-index; text : take l.end l.piece ≡ flat_map entry_line (take l.entry-index l.entries) }
