-- The text of a schedule, which is this project's choice, and the lines at which a text is none.
use Rattle.std.specs.Prelude.{◌≡◌, ◌≢◌, ℕ, zero, suc, ◌^◌, ◌<◌, ◌≤◌, List, [], ◌++◌, length, All, codes, decimal, Result, Ok, Err}
use Rattle.std.specs.Global.{Vec}
use Rattle.std.specs.List.{flat_map}
use Rattle.al_event.specs.declared.entry.Entry.{Entry}
use Rattle.al_trace.specs.declared.stop.TraceStop.{TraceStop}
use Rattle.al_trace.specs.declared.stop.TraceStop.TheVariants.{ReadFault, BadLine, TooLong, NoMemory}

abbrev pub first_line : List ℕ
first_line = codes "alef-schedule 1\n"

-- the proc, the pick and the worker in decimal digits, with one space between
abbrev pub entry_line : Entry → List ℕ
entry_line e = decimal e.proc ++ codes " " ++ decimal e.pick ++ codes " " ++ decimal e.worker ++ codes "\n"

abbrev pub schedule_text : List Entry → List ℕ
schedule_text h = first_line ++ flat_map entry_line h

-- what a line can name
pub record IsEntry (e : Entry) : Type 0 where
  pub proc : e.proc < 2 ^ 32
  pub pick : e.pick < 65536
  pub worker : e.worker < 64

-- how many entries a schedule has at most
abbrev pub most : ℕ
most = 2 ^ 26

pub record IsSchedule (text : List ℕ) (h : List Entry) : Type 0 where
  pub whole : text ≡ schedule_text h
  pub entries : All IsEntry h
  pub few : length h ≤ most

-- ---- texts that are no schedule

-- the first line and the lines of these entries are right, and this is left
pub record Begins (text : List ℕ) (h : List Entry) (rest : List ℕ) : Type 0 where
  pub parts : text ≡ schedule_text h ++ rest
  pub entries : All IsEntry h

-- no entry's line is at the front
abbrev pub HasNoEntry : List ℕ → Type 0
HasNoEntry rest = (e : Entry) (more : List ℕ) → IsEntry e → rest ≡ entry_line e ++ more → ⊥

-- Line k of the text, from 1, is the first that is not right. An empty text has the one line 1, and no other line
-- is empty.
abbrev pub IsBadLine : ℕ → List ℕ → Type 0
IsBadLine zero text = ⊥
IsBadLine (suc zero) text = (more : List ℕ) → text ≡ first_line ++ more → ⊥
IsBadLine (suc (suc n)) text =
    (h : List Entry) × (rest : List ℕ) × Begins text h rest × (length h ≡ n) × (n < most) × (rest ≢ []) × HasNoEntry rest

-- as many lines as there can be are right, and more bytes follow
abbrev pub IsTooLong : List ℕ → Type 0
IsTooLong text = (h : List Entry) × (rest : List ℕ) × Begins text h rest × (length h ≡ most) × (rest ≢ [])

-- ---- what a text is

-- what a reader of bytes stopped at is so of the text
abbrev pub Stops : TraceStop → List ℕ → Type 0
Stops (BadLine k) text = IsBadLine k text
Stops TooLong text = IsTooLong text
Stops ReadFault text = ⊥
Stops NoMemory text = Unit {0}

-- the entries of a text, or where it is wrong
abbrev pub IsReading : List ℕ → Result (List Entry) TraceStop → Type 0
IsReading text (Ok h) = IsSchedule text h
IsReading text (Err (BadLine k)) = IsBadLine k text
IsReading text (Err TooLong) = IsTooLong text
IsReading text (Err ReadFault) = ⊥
IsReading text (Err NoMemory) = ⊥

-- the same, of a reader that may have stopped at a fault of the host too
abbrev pub StopsAt : TraceStop → List ℕ → Type 0
StopsAt ReadFault text = Unit {0}
StopsAt (BadLine k) text = Stops (BadLine k) text
StopsAt TooLong text = Stops TooLong text
StopsAt NoMemory text = Stops NoMemory text

-- what was answered is so of the text, unless the host had a fault or memory ran out
abbrev pub Gives : Result (Vec Entry) TraceStop → List ℕ → Type 0
Gives (Ok v) text = IsSchedule text v.items
Gives (Err stop) text = StopsAt stop text

-- the answer is this one, unless the host had a fault or memory ran out
abbrev pub Answers : Result (Vec Entry) TraceStop → Result (List Entry) TraceStop → Type 0
Answers (Ok v) reading = reading ≡ Ok v.items
Answers (Err (BadLine k)) reading = reading ≡ Err (BadLine k)
Answers (Err TooLong) reading = reading ≡ Err TooLong
Answers (Err ReadFault) reading = Unit {0}
Answers (Err NoMemory) reading = Unit {0}
