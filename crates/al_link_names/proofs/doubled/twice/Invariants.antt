use Rattle.std.proofs.Common.{◌≡◌, ◌+◌, drop}
use Rattle.al_link_names.specs.Twice.{first_twice, twice_from}
use Rattle.al_link_names.proofs.doubled.twice.Given as goal

abbrev pub invariant-loop-file : goal.invariant-loop-file
invariant-loop-file l = (first_twice l.files ≡ twice_from l.earlier l.number (drop l.file-index l.files)) × (l.number ≡ l.file-index + 1)
