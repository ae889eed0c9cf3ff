-- The traps and their numbers.
use Rattle.std.specs.Prelude.{ℕ, zero, suc, Option, None, List, [], ◌∷◌, slice_get}
use Rattle.al_base.specs.declared.trap.Trap.{Trap}
use Rattle.al_base.specs.declared.trap.Trap.TheVariants.{Fault, Align, Divide, Memory, Unalloc, Chan, Busy, Check, Stack, Tasks, Print, Illegal, Call}

-- all traps, in the order of their numbers
abbrev pub traps : List Trap
traps =
    Fault ∷ Align ∷ Divide ∷ Memory ∷ Unalloc ∷ Chan ∷ Busy ∷ Check ∷ Stack ∷ Tasks ∷ Print ∷ Illegal ∷ Call ∷ []

-- the trap of a number: they are numbered from 1
abbrev pub trap_of : ℕ → Option Trap
trap_of zero = None
trap_of (suc k) = slice_get traps k

-- the number of a trap
abbrev pub number_of : Trap → ℕ
number_of Fault = 1
number_of Align = 2
number_of Divide = 3
number_of Memory = 4
number_of Unalloc = 5
number_of Chan = 6
number_of Busy = 7
number_of Check = 8
number_of Stack = 9
number_of Tasks = 10
number_of Print = 11
number_of Illegal = 12
number_of Call = 13
