-- The bounds of a program of operations as they are looked at: each is true only where the bound of the same name in `Bounds` of
-- al_ir is kept.
use Rattle.std.specs.Prelude.{ℕ, ◌+◌, ◌-◌, ◌*◌, ◌%◌, ◌^◌, if◌then◌else◌, nat_eq, nat_lt, nat_le, Bool, true, false, not, ◌&&◌, ◌||◌, List, [], ◌∷◌, length, sum_by, Option, Some, None, slice_get}
use Rattle.std.specs.List.{list_all}
use Rattle.al_base.specs.Arith.{divides}
use Rattle.al_base.specs.declared.arith.Op.{Op as Arith}
use Rattle.al_base.specs.declared.arith.Op.TheVariants as arith
use Rattle.al_event.specs.declared.act.Block.{Block}
use Rattle.al_event.specs.declared.act.Block.TheVariants as block
use Rattle.al_ir.specs.declared.ir.Function.{Function}
use Rattle.al_ir.specs.declared.ir.Operation.{Operation}
use Rattle.al_ir.specs.declared.ir.Run.{Run}
use Rattle.al_ir.specs.declared.ir.Global.{Global}
use Rattle.al_ir.specs.declared.ir.StartItem.{StartItem}
use Rattle.al_ir.specs.declared.ir.Ir.{Ir}
use Rattle.al_ir.specs.declared.op.TalkBranch.{TalkBranch}
use Rattle.al_ir.specs.declared.op.Op.{Op}
use Rattle.al_ir.specs.declared.op.Op.TheVariants.{Constant, Copy, Zero, Result, Word, WordBy, Long, Complement, IsZero, IsLongSet, Convert, Extract, Offset, Advance, Between, GetPrivate, PutPrivate, Skip, SkipIfZero, SkipIfSet, SkipUnless, GoTo, Back, Turn, Invoke, InvokePointer, Become, Leave, Load, Store, LoadUnits, StoreUnits, ClearUnits, Alloc, Free, NewChan, FreeChan, CanRecv, CanSend, Talk, Proc, Task, Par, PutByte, PutCharacter, PutDecimal, PutLongDecimal, PutHex, PutLongHex, PutText, Print, Terminate, Trap}
use Rattle.al_ir.specs.Bounds.{set_aside, most_words, most_jumps, stops, jumps_of}
use Rattle.al_ir.specs.Control.{arguments_of, function_at}
use Rattle.al_ir.specs.Step.{kind_words, long_words}

-- ---- parts of operations

abbrev pub is_size : ℕ → Bool
is_size n = nat_eq n 1 || nat_eq n 2 || nat_eq n 4

abbrev pub is_word : ℕ → Bool
is_word n = nat_lt n (2 ^ 32)

abbrev pub is_short : ℕ → Bool
is_short n = nat_lt n 2048 || (nat_le 4294965248 n && is_word n)

abbrev pub compares : Arith → Bool
compares arith.Lt = true
compares arith.Le = true
compares arith.Eq = true
compares arith.Ne = true
compares _ = false

abbrev pub has : Function → (t n : ℕ) → Bool
has f t n = nat_le (t + n) f.slots

abbrev pub are_apart : (t words from n : ℕ) → Bool
are_apart t words from n = nat_le (t + words) from || nat_le (from + n) t

-- that the slot is none of so many from another on
abbrev pub is_apart : (t from n : ℕ) → Bool
is_apart t from n = are_apart t 1 from n

abbrev pub takes_from : Ir → Function → (function arguments : ℕ) → Bool
takes_from ir f function arguments = nat_lt function (length ir.functions) && has f arguments (arguments_of (function_at ir function))

abbrev pub class_takes_from : Ir → Function → (class arguments : ℕ) → Bool
class_takes_from ir f class arguments =
    elim (slice_get ir.classes class) [ Some fs ↦ list_all (λ g. takes_from ir f g arguments) fs | None ↦ false ]

abbrev pub starts : Ir → (function words : ℕ) → Bool
starts ir function words = nat_lt function (length ir.functions) && nat_eq (arguments_of (function_at ir function)) words

abbrev pub sent_fits : Function → (records count to got words : ℕ) → Option ℕ → Bool
sent_fits f records count to got words None = has f got words && is_apart to got words
sent_fits f records count to got words (Some t) = has f t words && are_apart t words records count

abbrev pub branch_fits : Function → (records count to got : ℕ) → TalkBranch → Bool
branch_fits f records count to got b =
    has f b.chan 1 && (is_apart b.chan records count && (nat_le b.words most_words && sent_fits f records count to got b.words b.send))

abbrev pub skips : Function → (pc count : ℕ) → Bool
skips f pc count = nat_lt (pc + 1 + count) (length f.code)

abbrev pub is_made : Block → Bool
is_made block.Global = false
is_made _ = true

abbrev pub is_layout_of : Ir → ℕ → Bool
is_layout_of ir layout = nat_lt layout (length ir.layouts)

-- how many units runs have
abbrev pub count_of : List Run → ℕ
count_of runs = sum_by (λ (r : Run). r.count) runs

-- the same, where they are few
abbrev pub few_of : List Run → Option ℕ
few_of runs = if nat_le (count_of runs) most_words then Some (count_of runs) else None

abbrev pub few_if_there : Option (List Run) → Option ℕ
few_if_there (Some runs) = few_of runs
few_if_there None = None

-- how many units the layout of that number has, where it is a layout and they are few
abbrev pub units_count : Ir → (layout : ℕ) → Option ℕ
units_count ir layout = few_if_there (slice_get ir.layouts layout)

-- ---- operations

abbrev pub loads_fit : Function → (to at offset : ℕ) → Option ℕ → Bool
loads_fit f to at offset (Some n) = has f to n && (has f at 1 && (is_apart at to n && is_word offset))
loads_fit f to at offset None = false

abbrev pub stores_fit : Function → (at offset from : ℕ) → Option ℕ → Bool
stores_fit f at offset from (Some n) = has f at 1 && (has f from n && is_word offset)
stores_fit f at offset from None = false

-- an operation of number `pc` of a function
abbrev pub fits : Ir → Function → ℕ → Op → Bool
fits ir f pc (Constant to word) = has f to 1 && is_word word
fits ir f pc (Copy to from) = has f to 1 && has f from 1
fits ir f pc (Zero to count) = has f to count
fits ir f pc (Result to word) = has f to 1 && nat_lt word most_words
fits ir f pc (Word op signed to left right) = has f to 1 && (has f left 1 && has f right 1)
fits ir f pc (WordBy op signed to left word) = has f to 1 && (has f left 1 && (is_short word && not (divides op && nat_eq word 0)))
fits ir f pc (Long op signed to left right) = has f to (length (long_words op 0)) && (has f left 2 && has f right 2)
fits ir f pc (Complement to from) = has f to 1 && has f from 1
fits ir f pc (IsZero to from) = has f to 1 && has f from 1
fits ir f pc (IsLongSet to from) = has f to 1 && has f from 2
fits ir f pc (Convert from into to of) = has f to (kind_words into) && has f of (kind_words from)
fits ir f pc (Extract to from skip size) = has f to 1 && (has f from 1 && (nat_lt skip 4 && is_size size))
fits ir f pc (Offset to from bytes) = has f to 1 && (has f from 1 && is_word bytes)
fits ir f pc (Advance back size to pointer count) = has f to 1 && (has f pointer 1 && (has f count 1 && is_word size))
fits ir f pc (Between size to left right) = has f to 1 && (has f left 1 && (has f right 1 && (nat_le 1 size && nat_le size (2 ^ 28))))
fits ir f pc (GetPrivate to place) = has f to 1 && nat_lt place ir.privates
fits ir f pc (PutPrivate place from) = has f from 1 && nat_lt place ir.privates
fits ir f pc (Skip count) = skips f pc count
fits ir f pc (SkipIfZero slot count) = has f slot 1 && skips f pc count
fits ir f pc (SkipIfSet slot count) = has f slot 1 && skips f pc count
fits ir f pc (SkipUnless op signed left right count) = compares op && (has f left 1 && (has f right 1 && skips f pc count))
fits ir f pc (GoTo to) = nat_lt pc to && nat_lt to (length f.code)
fits ir f pc (Back count) = true
fits ir f pc (Turn to) = nat_lt to (length f.code)
fits ir f pc (Invoke function arguments) = takes_from ir f function arguments
fits ir f pc (InvokePointer class pointer arguments) = has f pointer 1 && class_takes_from ir f class arguments
fits ir f pc (Become function arguments) = takes_from ir f function arguments
fits ir f pc (Leave words) = has f 0 words && nat_le words most_words
fits ir f pc (Load to at offset size) = has f to 1 && (has f at 1 && (is_word offset && is_size size))
fits ir f pc (Store at offset size from) = has f at 1 && (has f from 1 && (is_word offset && is_size size))
fits ir f pc (LoadUnits to at offset layout) = loads_fit f to at offset (units_count ir layout)
fits ir f pc (StoreUnits at offset layout from) = stores_fit f at offset from (units_count ir layout)
fits ir f pc (ClearUnits at offset layout) = has f at 1 && (is_word offset && is_layout_of ir layout)
fits ir f pc (Alloc to bytes kind) = has f to 1 && (is_made kind && (nat_le 1 bytes && nat_le bytes (2 ^ 28)))
fits ir f pc (Free at kind) = has f at 1 && is_made kind
fits ir f pc (NewChan to capacity words) = has f to 1 && (nat_le capacity 4096 && nat_le words most_words)
fits ir f pc (FreeChan chan) = has f chan 1
fits ir f pc (CanRecv to chan) = has f to 1 && has f chan 1
fits ir f pc (CanSend to chan) = has f to 1 && has f chan 1
fits ir f pc (Talk branches records to got) =
    nat_le 1 (length branches) && (nat_le (length branches) 64 && (has f records (4 * length branches) && (has f to 1
    && list_all (branch_fits f records (4 * length branches) to got) branches)))
fits ir f pc (Proc function arguments words) = starts ir function words && has f arguments words
fits ir f pc (Task function arguments words) = starts ir function words && has f arguments words
fits ir f pc (Par functions arguments words records) =
    nat_le 1 (length functions) && (nat_le (length functions) 64 && (has f records (3 * length functions) && (has f arguments words
    && (are_apart arguments words records (3 * length functions) && list_all (λ g. starts ir g words) functions))))
fits ir f pc (PutByte byte) = nat_lt byte 256
fits ir f pc (PutCharacter from) = has f from 1
fits ir f pc (PutDecimal signed from) = has f from 1
fits ir f pc (PutLongDecimal signed from) = has f from 2
fits ir f pc (PutHex from) = has f from 1
fits ir f pc (PutLongHex from) = has f from 2
fits ir f pc (PutText at) = has f at 1
fits ir f pc Print = true
fits ir f pc (Terminate status) = has f status 1
fits ir f pc (Trap t) = true

abbrev pub operations_fit : Ir → Function → ℕ → List Operation → Bool
operations_fit ir f pc [] = true
operations_fit ir f pc (o ∷ os) = fits ir f pc o.op && operations_fit ir f (pc + 1) os

-- ---- functions

abbrev pub is_line : ℕ → Bool
is_line n = nat_le 1 n && nat_le n 1048577

abbrev pub stops_at : Option Operation → Bool
stops_at (Some o) = stops o.op
stops_at None = false

abbrev pub ends_well : List Operation → Bool
ends_well code = stops_at (slice_get code (length code - 1))

abbrev pub jumps_in : List Operation → ℕ
jumps_in code = sum_by (λ (o : Operation). jumps_of o.op) code

abbrev pub has_room : Function → Bool
has_room f = nat_le f.stack 16384 && (nat_le (f.slots + set_aside) f.stack && nat_le f.arguments f.slots)

abbrev pub is_function : Ir → Function → Bool
is_function ir f =
    is_line f.line && (list_all (λ (o : Operation). is_line o.line) f.code && (has_room f && (operations_fit ir f 0 f.code
    && (ends_well f.code && nat_le (jumps_in f.code) most_jumps))))

-- ---- layouts and globals

abbrev pub run_fits : Run → Bool
run_fits r = is_size r.size && nat_le (r.at + r.count * r.size) most_words

abbrev pub is_layout : List Run → Bool
is_layout runs = list_all run_fits runs && nat_le (count_of runs) most_words

abbrev pub item_fits : (behind bytes : ℕ) → StartItem → Bool
item_fits behind bytes i =
    nat_le behind i.at && (is_size i.size && (nat_eq (i.at % i.size) 0 && (nat_le (i.at + i.size) bytes && nat_lt i.word (256 ^ i.size))))

abbrev pub items_fit : (behind bytes : ℕ) → List StartItem → Bool
items_fit behind bytes [] = true
items_fit behind bytes (i ∷ is) = item_fits behind bytes i && items_fit (i.at + i.size) bytes is

abbrev pub is_global : Global → Bool
is_global g = nat_le 1 g.bytes && (nat_le g.bytes (2 ^ 28) && items_fit 0 g.bytes g.start)

-- ---- programs

abbrev pub start_count : List Global → ℕ
start_count globals = sum_by (λ (g : Global). length g.start) globals

abbrev pub main_words_fit : ℕ → Bool
main_words_fit n = nat_eq n 0 || nat_eq n 2

abbrev pub main_fits : Ir → Bool
main_fits ir = nat_lt ir.main (length ir.functions) && main_words_fit (arguments_of (function_at ir ir.main))

abbrev pub is_bounded : Ir → Bool
is_bounded ir =
    list_all (is_function ir) ir.functions && (nat_le (length ir.functions) 65536 && (list_all (λ (fs : List ℕ). nat_le (length fs) 65536) ir.classes
    && (list_all is_layout ir.layouts && (list_all is_global ir.globals && (nat_le (start_count ir.globals) (2 ^ 21) && (nat_le ir.privates 16384
    && main_fits ir))))))
