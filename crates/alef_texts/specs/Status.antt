-- The exit status and the log's line of an end.
use Rattle.std.specs.Prelude.{ℕ, zero, suc, ◌+◌, ℤ, pos, negsuc, List, [], codes, unsigned_abs}
use Rattle.std.specs.Int.{int_rem_euclid}
use Rattle.al_base.specs.declared.over.Over.TheVariants.{Done, Stopped, Trapped, Blocked, Spent}
use Rattle.al_base.specs.Line.{line_of}
use Rattle.rv_image.specs.declared.fault.ImageFault.{ImageFault}
use Rattle.rv_image.specs.declared.fault.ImageFault.TheVariants.{Short, Magic, Version, Count, Extra}
use Rattle.alef_texts.specs.Line.{naming}
use Rattle.alef_texts.specs.TextLine.{text_line}
use Rattle.alef_texts.specs.ScheduleLine.{schedule_line, entry_line, number_line}
use Rattle.alef_texts.specs.declared.report.End.{End}
use Rattle.alef_texts.specs.declared.report.End.TheVariants.{Ran, Made, Words, ReadFault, Refused, BadImage, BadSchedule, BadEntry, BadNumber, WriteFault, NoMemory}

-- the status of a program that stopped itself: 0 stays, all others show the lowest seven bits
abbrev pub stopped : ℤ → ℕ
stopped (pos zero) = 0
stopped (pos (suc n)) = 128 + unsigned_abs (int_rem_euclid (pos (suc n)) (pos 128))
stopped (negsuc n) = 128 + unsigned_abs (int_rem_euclid (negsuc n) (pos 128))

-- the exit status
abbrev pub status_of : End → ℕ
status_of (Ran Done) = 0
status_of (Ran (Stopped status)) = stopped status
status_of (Ran (Trapped trap proc at)) = 5
status_of (Ran Blocked) = 6
status_of (Ran Spent) = 7
status_of Made = 0
status_of Words = 2
status_of ReadFault = 3
status_of (Refused reason) = 1
status_of (BadImage fault) = 9
status_of (BadSchedule fault) = 9
status_of (BadEntry number) = 9
status_of (BadNumber count) = 9
status_of WriteFault = 4
status_of NoMemory = 8

abbrev pub image_line : ImageFault → List ℕ
image_line Short = codes "alef: image Short\n"
image_line Magic = codes "alef: image Magic\n"
image_line Version = codes "alef: image Version\n"
image_line Count = codes "alef: image Count\n"
image_line Extra = codes "alef: image Extra\n"

-- The log's line, with its line feed; empty where there is none. That of a trap names the line of the text, where there is one.
abbrev pub line_of_end : (line : ℕ) → End → List ℕ
line_of_end line (Ran (Trapped trap proc at)) = naming line (line_of (Trapped trap proc at))
line_of_end line (Ran over) = line_of over
line_of_end line Made = []
line_of_end line Words =
    codes "alef: usage: alef MODE [FILE [SCHEDULE]] [--workers N] [--entries N] [--region N] [--number N]\n"
line_of_end line ReadFault = codes "alef: cannot read\n"
line_of_end line (Refused reason) = text_line reason
line_of_end line (BadImage fault) = image_line fault
line_of_end line (BadSchedule fault) = schedule_line fault
line_of_end line (BadEntry number) = entry_line number
line_of_end line (BadNumber count) = number_line count
line_of_end line WriteFault = codes "alef: cannot write\n"
line_of_end line NoMemory = codes "alef: out of memory\n"
