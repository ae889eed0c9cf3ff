-- The runtime calls that ECALL makes, by the number in register 17. Registers 10, 11 and 12 have the arguments, and an
-- answer goes to register 10. This list is the project's choice.
use Rattle.std.specs.Prelude.{ℕ, zero, suc, ◌+◌, ◌*◌, ◌%◌, ◌^◌, ◌==◌, nat_le, Bool, false, ◌&&◌, if◌then◌else◌, List, [], ◌∷◌, ◌++◌, length, Option, Some, None, slice_get, option_map, option_and_then, decimal}
use Rattle.std.specs.Fmt.{signed_decimal, radix_digits}
use Rattle.std.specs.Int.{cast_signed, w32, w64}
use Rattle.al_base.specs.declared.trap.Trap.{Trap}
use Rattle.al_base.specs.declared.trap.Trap.TheVariants.{Illegal, Print as TooLong}
use Rattle.al_base.specs.Trap.{trap_of}
use Rattle.al_event.specs.declared.act.Act.{Act}
use Rattle.al_event.specs.declared.act.Act.TheVariants.{Alloc, Free, NewChan, FreeChan, CanRecv, CanSend, Talk, Proc, Task, Par, Print, Terminate, Pause, Trap as Traps, End}
use Rattle.al_event.specs.declared.act.Block.{Block}
use Rattle.al_event.specs.declared.act.Block.TheVariants.{Heap, Frame}
use Rattle.al_event.specs.declared.act.Branch.{Branch}
use Rattle.al_event.specs.declared.act.Start.{Start}
use Rattle.rv_isa.specs.declared.image.Contents.{Contents}
use Rattle.rv_isa.specs.declared.image.Row.{Row}
use Rattle.rv_exec.specs.declared.state.Waits.{Waits}
use Rattle.rv_exec.specs.declared.state.Waits.TheVariants.{Done, Word, Talk as TalkWaits}
use Rattle.rv_exec.specs.Hart.{Hart, register, moved}
use Rattle.rv_exec.specs.Windows.{stack_place, stack_words}

-- private globals, by the number of a word
abbrev pub Privates : Type 0
Privates = ℕ → ℕ

-- what an instruction does: the hart goes on, or it asks an action and waits at the word that asks
pub data Move : Type 0 where
  Goes : (next : Hart) (privates : Privates) → Move
  Asks : (act : Act) (waiting : Hart) (privates : Privates) → Move

abbrev pub asks : Waits → Act → Hart → Privates → Move
asks waits act h p = Asks act (record h { waits = waits }) p

abbrev pub traps : Trap → Hart → Privates → Move
traps trap h p = asks Done (Traps trap) h p

abbrev pub illegal : Hart → Privates → Move
illegal h p = traps Illegal h p

-- an action, or Illegal where there is none
abbrev pub asks_if_any : Waits → Option Act → Hart → Privates → Move
asks_if_any waits None h p = illegal h p
asks_if_any waits (Some act) h p = asks waits act h p

-- the arguments
abbrev pub x10 : Hart → ℕ
x10 h = register h 10

abbrev pub x11 : Hart → ℕ
x11 h = register h 11

abbrev pub x12 : Hart → ℕ
x12 h = register h 12

-- ---- blocks and channels

abbrev pub block_of : ℕ → Option Block
block_of kind = if kind == 1 then Some Heap else (if kind == 2 then Some Frame else None)

abbrev pub alloc_act : (bytes kind : ℕ) → Option Act
alloc_act bytes kind = if bytes == 0 then None else option_map (λ block. Alloc bytes block) (block_of kind)

abbrev pub free_act : (at kind : ℕ) → Option Act
free_act at kind = option_map (λ block. Free at block) (block_of kind)

abbrev pub channel_act : (capacity words : ℕ) → Option Act
channel_act capacity words = if nat_le capacity 4096 && nat_le words 1024 then Some (NewChan capacity words) else None

-- ---- talks

-- a record's branch: channel, 0 for a receive or 1 for a send, address and number of words
abbrev pub branch_of : Hart → (chan direction address count : ℕ) → Option Branch
branch_of h chan direction address count =
    if nat_le count 1024
    then (if direction == 0
    then option_map (λ place. record { chan = chan; words = count; send = None }) (stack_place address count)
    else (if direction == 1
    then option_map (λ words. record { chan = chan; words = count; send = Some words }) (stack_words h address count)
    else None))
    else None

abbrev pub branch_at : Hart → (first : ℕ) → Option Branch
branch_at h first = branch_of h (h.stack first) (h.stack (first + 1)) (h.stack (first + 2)) (h.stack (first + 3))

abbrev pub also : {X : Type 0} → Option X → Option (List X) → Option (List X)
also (Some x) (Some xs) = Some (x ∷ xs)
also None xs = None
also x None = None

-- what so many records say, each of `each` words
abbrev pub records_from : {X : Type 0} → (record_at : ℕ → Option X) (each first count : ℕ) → Option (List X)
records_from record_at each first zero = Some []
records_from record_at each first (suc count) = also (record_at first) (records_from record_at each (first + each) count)

abbrev pub branches_from : Hart → (first count : ℕ) → Option (List Branch)
branches_from h first count = records_from (branch_at h) 4 first count

-- the first stack word of 1 to 64 records
abbrev pub records_at : (words_each address count : ℕ) → Option ℕ
records_at words_each address count =
    if nat_le 1 count && nat_le count 64 then stack_place address (words_each * count) else None

abbrev pub talk_branches : Hart → Option (List Branch)
talk_branches h = option_and_then (λ first. branches_from h first (x11 h)) (records_at 4 (x10 h) (x11 h))

abbrev pub talk_act : Hart → Option Act
talk_act h = option_map (λ branches. Talk branches) (talk_branches h)

-- ---- starts

-- the image has that function with that number of words
abbrev pub has_function : Contents → (function words : ℕ) → Bool
has_function image function words = has_words (slice_get image.functions function) where
  has_words : Option Row → Bool
  has_words None = false
  has_words (Some row) = row.words == words

abbrev pub start_of : Contents → Hart → (function address count : ℕ) → Option Start
start_of image h function address count =
    if has_function image function count
    then option_map (λ words. record { code = function; words = words }) (stack_words h address count)
    else None

abbrev pub start_at : Contents → Hart → (first : ℕ) → Option Start
start_at image h first = start_of image h (h.stack first) (h.stack (first + 1)) (h.stack (first + 2))

abbrev pub starts_from : Contents → Hart → (first count : ℕ) → Option (List Start)
starts_from image h first count = records_from (start_at image h) 3 first count

abbrev pub par_act : Contents → Hart → Option Act
par_act image h =
    option_map (λ starts. Par starts)
    (option_and_then (λ first. starts_from image h first (x11 h)) (records_at 3 (x10 h) (x11 h)))

-- ---- prints

-- a text being composed has at most this many bytes
abbrev pub longest_text : ℕ
longest_text = 1024

-- the text with a piece more
abbrev pub composed : List ℕ → Hart → Privates → Move
composed piece h p =
    if nat_le (length h.text + length piece) longest_text
    then Goes (moved (record h { text = h.text ++ piece })) p
    else traps TooLong h p

-- the number of two words, low word first
abbrev pub number_of : (low high : ℕ) → ℕ
number_of low high = low + high * 2 ^ 32

-- as a decimal number, signed where kind is 1
abbrev pub decimal_text : (low high kind : ℕ) → List ℕ
decimal_text low high kind =
    if kind == 1 then signed_decimal (cast_signed w64 (number_of low high)) else decimal (number_of low high)

-- as a hexadecimal number, in small letters and without leading zeros
abbrev pub hexadecimal_text : (low high : ℕ) → List ℕ
hexadecimal_text low high = radix_digits 16 false (number_of low high)

-- ---- the calls, in the order of their numbers from 1

abbrev pub calls : List (Contents → Hart → Privates → Move)
calls =
    (λ image h p. asks Done End h p)
    ∷ (λ image h p. asks Done Pause h p)
    ∷ (λ image h p. asks_if_any Done (option_map (λ trap. Traps trap) (trap_of (x10 h))) h p)
    ∷ (λ image h p. asks_if_any Word (alloc_act (x10 h) (x11 h)) h p)
    ∷ (λ image h p. asks_if_any Done (free_act (x10 h) (x11 h)) h p)
    ∷ (λ image h p. asks_if_any Word (channel_act (x10 h) (x11 h)) h p)
    ∷ (λ image h p. asks Done (FreeChan (x10 h)) h p)
    ∷ (λ image h p. asks Word (CanRecv (x10 h)) h p)
    ∷ (λ image h p. asks Word (CanSend (x10 h)) h p)
    ∷ (λ image h p. asks_if_any TalkWaits (talk_act h) h p)
    ∷ (λ image h p. asks_if_any Done (option_map (λ start. Proc start) (start_of image h (x10 h) (x11 h) (x12 h))) h p)
    ∷ (λ image h p. asks_if_any Done (option_map (λ start. Task start) (start_of image h (x10 h) (x11 h) (x12 h))) h p)
    ∷ (λ image h p. asks_if_any Done (par_act image h) h p)
    ∷ (λ image h p. asks Done (Print h.text) (record h { text = [] }) p)
    ∷ (λ image h p. asks Done (Terminate (cast_signed w32 (x10 h))) h p)
    ∷ (λ image h p. composed (x10 h % 256 ∷ []) h p)
    ∷ (λ image h p. composed (decimal_text (x10 h) (x11 h) (x12 h)) h p)
    ∷ (λ image h p. composed (hexadecimal_text (x10 h) (x11 h)) h p)
    ∷ []

abbrev pub called_if_any : Option (Contents → Hart → Privates → Move) → Contents → Hart → Privates → Move
called_if_any None image h p = illegal h p
called_if_any (Some call) image h p = call image h p

abbrev pub call_of : (number : ℕ) → Option (Contents → Hart → Privates → Move)
call_of zero = None
call_of (suc n) = slice_get calls n

abbrev pub called : (number : ℕ) → Contents → Hart → Privates → Move
called number image h p = called_if_any (call_of number) image h p
