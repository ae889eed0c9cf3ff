-- The line that the log gets when a run is over.
use Rattle.std.specs.Prelude.{ℕ, List, [], ◌++◌, codes, decimal}
use Rattle.al_base.specs.declared.trap.Trap.{Trap}
use Rattle.al_base.specs.declared.trap.Trap.TheVariants.{Fault, Align, Divide, Memory, Unalloc, Chan, Busy, Check, Stack, Tasks, Print, Illegal, Call}
use Rattle.al_base.specs.declared.over.Over.{Over}
use Rattle.al_base.specs.declared.over.Over.TheVariants.{Done, Stopped, Trapped, Blocked, Spent}

-- a trap's name
abbrev pub name_of : Trap → List ℕ
name_of Fault = codes "Fault"
name_of Align = codes "Align"
name_of Divide = codes "Divide"
name_of Memory = codes "Memory"
name_of Unalloc = codes "Unalloc"
name_of Chan = codes "Chan"
name_of Busy = codes "Busy"
name_of Check = codes "Check"
name_of Stack = codes "Stack"
name_of Tasks = codes "Tasks"
name_of Print = codes "Print"
name_of Illegal = codes "Illegal"
name_of Call = codes "Call"

-- the line, with its line feed; a run that is done or was stopped has none
abbrev pub line_of : Over → List ℕ
line_of Done = []
line_of (Stopped status) = []
line_of (Trapped trap proc at) =
    codes "alef: trap " ++ name_of trap ++ codes " in proc " ++ decimal proc ++ codes " at entry " ++ decimal at ++ codes "\n"
line_of Blocked = codes "alef: blocked\n"
line_of Spent = codes "alef: entries spent\n"
