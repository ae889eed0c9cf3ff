-- The log's lines of a schedule that is none, that has too few entries, or that has one which is not permitted. Each has its line feed.
use Rattle.std.specs.Prelude.{ℕ, List, ◌++◌, codes, decimal}
use Rattle.alef_texts.specs.declared.report.ScheduleFault.{ScheduleFault}
use Rattle.alef_texts.specs.declared.report.ScheduleFault.TheVariants as bad

abbrev pub schedule_line : ScheduleFault → List ℕ
schedule_line (bad.Line line) = codes "alef: schedule line " ++ decimal line ++ codes "\n"
schedule_line bad.TooLong = codes "alef: schedule too long\n"

abbrev pub entry_line : ℕ → List ℕ
entry_line number = codes "alef: schedule entry " ++ decimal number ++ codes " is not permitted\n"

abbrev pub number_line : ℕ → List ℕ
number_line count = codes "alef: schedule has " ++ decimal count ++ codes " entries\n"
