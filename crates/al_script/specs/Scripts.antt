-- Scripts as a kind of control: what their tasks ask, and how they go on with an answer.
use Rattle.std.specs.Prelude.{ℕ, ◌+◌, ◌<◌, ◌%◌, ◌^◌, max, List, [], ◌∷◌, ◌++◌, map, length, slice_get, slice_index, Option, Some, None, option_map, option_and_then}
use Rattle.al_event.specs.declared.act.Branch.{Branch}
use Rattle.al_event.specs.declared.act.Start.{Start}
use Rattle.al_event.specs.declared.act.Act.{Act}
use Rattle.al_event.specs.declared.act.Act.TheVariants as act
use Rattle.al_world.specs.Control.{Kind}
use Rattle.al_store.specs.Memory.{IsWidth}
use Rattle.al_script.specs.declared.script.Source.{Source}
use Rattle.al_script.specs.declared.script.Source.TheVariants.{Zero, Argument, Answer}
use Rattle.al_script.specs.declared.script.Operand.{Operand}
use Rattle.al_script.specs.declared.script.Width.{Width}
use Rattle.al_script.specs.declared.script.Width.TheVariants.{Byte, Half, Word}
use Rattle.al_script.specs.declared.script.Choice.{Choice}
use Rattle.al_script.specs.declared.script.Call.{Call}
use Rattle.al_script.specs.declared.script.Instruction.{Instruction}
use Rattle.al_script.specs.declared.script.Instruction.TheVariants.{Load, Store, Alloc, Free, NewChan, FreeChan, CanRecv, CanSend, Talk, Proc, Task, Par, Print, Terminate, Pause, Trap}
use Rattle.al_script.specs.declared.script.Control.{Control}

-- ---- operands

-- a word of an answer, 0 where there is none
abbrev pub word_at : ℕ → Option (List ℕ) → ℕ
word_at i None = 0
word_at i (Some words) = slice_index words i

abbrev pub source_word : Control → Source → ℕ
source_word c Zero = 0
source_word c (Argument i) = slice_index c.arguments i
source_word c (Answer k i) = word_at i (slice_get c.answers k)

abbrev pub value_of : Control → Operand → ℕ
value_of c o = (source_word c o.source + o.plus) % 2 ^ 32

abbrev pub values_of : Control → List Operand → List ℕ
values_of c operands = map (value_of c) operands

abbrev pub size_of : Width → ℕ
size_of Byte = 1
size_of Half = 2
size_of Word = 4

-- ---- actions

abbrev pub branch_of : Control → Choice → Branch
branch_of c choice = record { chan = value_of c choice.chan; words = choice.words; send = option_map (values_of c) choice.send }

abbrev pub start_of : Control → Call → Start
start_of c call = record { code = call.code; words = values_of c call.words }

-- the lowest byte of a number
abbrev pub byte_of : Control → Operand → ℕ
byte_of c o = value_of c o % 256

abbrev pub act_at : Control → Instruction → Act
act_at c (Load at width) = act.Load (value_of c at) (size_of width)
act_at c (Store at width word) = act.Store (value_of c at) (size_of width) (value_of c word)
act_at c (Alloc bytes kind) = act.Alloc (max (value_of c bytes) 1) kind
act_at c (Free at kind) = act.Free (value_of c at) kind
act_at c (NewChan capacity words) = act.NewChan capacity words
act_at c (FreeChan chan) = act.FreeChan (value_of c chan)
act_at c (CanRecv chan) = act.CanRecv (value_of c chan)
act_at c (CanSend chan) = act.CanSend (value_of c chan)
act_at c (Talk choices) = act.Talk (map (branch_of c) choices)
act_at c (Proc call) = act.Proc (start_of c call)
act_at c (Task call) = act.Task (start_of c call)
act_at c (Par calls) = act.Par (map (start_of c) calls)
act_at c (Print text) = act.Print (map (byte_of c) text)
act_at c (Terminate status) = act.Terminate status
act_at c Pause = act.Pause
act_at c (Trap trap) = act.Trap trap

-- the task ends after its last instruction
abbrev pub act_or_end : Control → Option Instruction → Act
act_or_end c None = act.End
act_or_end c (Some instruction) = act_at c instruction

-- the instruction that is next: as many were done as were answered
abbrev pub next_of : List (List Instruction) → Control → Option Instruction
next_of functions c =
    option_and_then (λ (f : List Instruction). slice_get f (length c.answers)) (slice_get functions c.code)

abbrev pub act_of : List (List Instruction) → Control → Act
act_of functions c = act_or_end c (next_of functions c)

-- ---- the kind

-- a task goes on behind the instruction that was answered
abbrev pub answered : Control → List ℕ → Control
answered c words = record c { answers = c.answers ++ words ∷ [] }

abbrev pub begun : Start → Control
begun start = record { code = start.code; arguments = start.words; answers = [] }

-- the line of a function is its number, from 1
abbrev pub line_in : Control → ℕ
line_in c = c.code + 1

-- the tasks that run these functions; they have no private globals
abbrev pub scripts : List (List Instruction) → Kind
scripts functions = record {
  Control = Control;
  Privates = Unit {0};
  ask = λ c u. record { act = act_of functions c; line = line_in c; work = 0; control = c; privates = u };
  resume = answered;
  start = begun;
  fresh = tt;
}

-- ---- which actions scripts ask

-- an access of such a size, and a block of 1 byte at least
abbrev pub IsSized : Act → Type 0
IsSized (act.Load at size) = IsWidth size
IsSized (act.Store at size word) = IsWidth size
IsSized (act.Alloc bytes kind) = 0 < bytes
IsSized _ = Unit {0}
