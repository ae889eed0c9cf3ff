-- The bounds that a program of operations keeps, and that code for it rests on.
use Rattle.std.specs.Prelude.{◌≡◌, ◌≢◌, ℕ, suc, ◌+◌, ◌-◌, ◌*◌, ◌/◌, ◌%◌, ◌≤◌, ◌<◌, ◌^◌, ◌⊎◌, Bool, true, false, ◌||◌, nat_eq, ⊤, List, [], ◌∷◌, length, sum_by, All, Some, None, slice_get}
use Rattle.al_base.specs.Arith.{divides}
use Rattle.al_base.specs.declared.arith.Op.{Op as Arith}
use Rattle.al_base.specs.declared.arith.Op.TheVariants as arith
use Rattle.al_event.specs.declared.act.Block.{Block}
use Rattle.al_event.specs.declared.act.Block.TheVariants as block
use Rattle.al_ir.specs.declared.ir.Function.{Function}
use Rattle.al_ir.specs.declared.ir.Operation.{Operation}
use Rattle.al_ir.specs.declared.ir.Run.{Run}
use Rattle.al_ir.specs.declared.ir.Global.{Global}
use Rattle.al_ir.specs.declared.ir.StartItem.{StartItem}
use Rattle.al_ir.specs.declared.ir.Ir.{Ir}
use Rattle.al_ir.specs.declared.op.TalkBranch.{TalkBranch}
use Rattle.al_ir.specs.declared.op.Op.{Op}
use Rattle.al_ir.specs.declared.op.Op.TheVariants.{Constant, Copy, Zero, Result, Word, WordBy, Long, Complement, IsZero, IsLongSet, Convert, Extract, Offset, Advance, Between, GetPrivate, PutPrivate, Skip, SkipIfZero, SkipIfSet, SkipUnless, GoTo, Back, Turn, Invoke, InvokePointer, Become, Leave, Load, Store, LoadUnits, StoreUnits, ClearUnits, Alloc, Free, NewChan, FreeChan, CanRecv, CanSend, Talk, Proc, Task, Par, PutByte, PutCharacter, PutDecimal, PutLongDecimal, PutHex, PutLongHex, PutText, Print, Terminate, Trap}
use Rattle.al_ir.specs.Units.{units_in, units_at}
use Rattle.al_ir.specs.Control.{arguments_of, function_at}
use Rattle.al_ir.specs.Step.{kind_words, long_words}

-- ---- parts of operations

-- words of a frame that are no slots: where to return to, and what code needs besides
abbrev pub set_aside : ℕ
set_aside = 8

-- the most words of a value
abbrev pub most_words : ℕ
most_words = 1024

abbrev pub IsSize : ℕ → Type 0
IsSize n = (nat_eq n 1 || nat_eq n 2 || nat_eq n 4) ≡ true

abbrev pub IsWord : ℕ → Type 0
IsWord n = n < 2 ^ 32

-- a word whose upper bits are those of its sign in 12 bits
abbrev pub IsShort : ℕ → Type 0
IsShort n = (n < 2 ^ 11) ⊎ ((2 ^ 32 - 2 ^ 11 ≤ n) × IsWord n)

abbrev pub Compares : Arith → Type 0
Compares arith.Lt = ⊤
Compares arith.Le = ⊤
Compares arith.Eq = ⊤
Compares arith.Ne = ⊤
Compares _ = ⊥

-- so many slots from one on are slots of the function
abbrev pub Has : Function → (t n : ℕ) → Type 0
Has f t n = t + n ≤ f.slots

-- a slot is none of so many from one on
abbrev pub IsApart : (t from n : ℕ) → Type 0
IsApart t from n = (t < from) ⊎ (from + n ≤ t)

-- so many slots from one on are none of so many from another on
abbrev pub AreApart : (t words from n : ℕ) → Type 0
AreApart t words from n = (t + words ≤ from) ⊎ (from + n ≤ t)

-- a function of that number takes so many words, from these slots on
abbrev pub TakesFrom : Ir → Function → (function arguments : ℕ) → Type 0
TakesFrom ir f function arguments = (function < length ir.functions) × Has f arguments (arguments_of (function_at ir function))

-- the functions of a class take equally many words
abbrev pub ClassTakesFrom : Ir → Function → (class arguments : ℕ) → Type 0
ClassTakesFrom ir f class arguments =
    (fs : List ℕ) × ((slice_get ir.classes class ≡ Some fs) × All (λ g. TakesFrom ir f g arguments) fs)

-- a start of a function with so many words
abbrev pub Starts : Ir → (function words : ℕ) → Type 0
Starts ir function words = (function < length ir.functions) × (arguments_of (function_at ir function) ≡ words)

-- A branch of a talk with records from one slot on, so many slots of them: its channel and what it sends stand apart from the
-- records. What it receives stands from `got` on, apart from the slot that gets the branch's number.
abbrev pub BranchFits : Function → (records count to got : ℕ) → TalkBranch → Type 0
BranchFits f records count to got b =
    Has f b.chan 1 × (IsApart b.chan records count × ((b.words ≤ most_words)
    × (elim b.send [ None ↦ Has f got b.words × IsApart to got b.words | Some t ↦ Has f t b.words × AreApart t b.words records count ])))

-- a jump over so many operations behind this one comes to an operation
abbrev pub Skips : Function → (pc count : ℕ) → Type 0
Skips f pc count = pc + 1 + count < length f.code

-- blocks of globals are not made and not given back
abbrev pub IsMade : Block → Type 0
IsMade block.Global = ⊥
IsMade _ = ⊤

abbrev pub IsLayoutOf : Ir → ℕ → Type 0
IsLayoutOf ir layout = layout < length ir.layouts

-- ---- operations

-- an operation of number `pc` of a function
abbrev pub Fits : Ir → Function → ℕ → Op → Type 0
Fits ir f pc (Constant to word) = Has f to 1 × IsWord word
Fits ir f pc (Copy to from) = Has f to 1 × Has f from 1
Fits ir f pc (Zero to count) = Has f to count
Fits ir f pc (Result to word) = Has f to 1 × (word < most_words)
Fits ir f pc (Word op signed to left right) = Has f to 1 × (Has f left 1 × Has f right 1)
Fits ir f pc (WordBy op signed to left word) = Has f to 1 × (Has f left 1 × (IsShort word × (divides op ≡ true → word ≢ 0)))
Fits ir f pc (Long op signed to left right) = Has f to (length (long_words op 0)) × (Has f left 2 × Has f right 2)
Fits ir f pc (Complement to from) = Has f to 1 × Has f from 1
Fits ir f pc (IsZero to from) = Has f to 1 × Has f from 1
Fits ir f pc (IsLongSet to from) = Has f to 1 × Has f from 2
Fits ir f pc (Convert from into to of) = Has f to (kind_words into) × Has f of (kind_words from)
Fits ir f pc (Extract to from skip size) = Has f to 1 × (Has f from 1 × ((skip < 4) × IsSize size))
Fits ir f pc (Offset to from bytes) = Has f to 1 × (Has f from 1 × IsWord bytes)
Fits ir f pc (Advance back size to pointer count) = Has f to 1 × (Has f pointer 1 × (Has f count 1 × IsWord size))
Fits ir f pc (Between size to left right) = Has f to 1 × (Has f left 1 × (Has f right 1 × ((1 ≤ size) × (size ≤ 2 ^ 28))))
Fits ir f pc (GetPrivate to place) = Has f to 1 × (place < ir.privates)
Fits ir f pc (PutPrivate place from) = Has f from 1 × (place < ir.privates)
Fits ir f pc (Skip count) = Skips f pc count
Fits ir f pc (SkipIfZero slot count) = Has f slot 1 × Skips f pc count
Fits ir f pc (SkipIfSet slot count) = Has f slot 1 × Skips f pc count
Fits ir f pc (SkipUnless op signed left right count) = Compares op × (Has f left 1 × (Has f right 1 × Skips f pc count))
Fits ir f pc (GoTo to) = (pc < to) × (to < length f.code)
Fits ir f pc (Back count) = ⊤
Fits ir f pc (Turn to) = to < length f.code
Fits ir f pc (Invoke function arguments) = TakesFrom ir f function arguments
Fits ir f pc (InvokePointer class pointer arguments) = Has f pointer 1 × ClassTakesFrom ir f class arguments
Fits ir f pc (Become function arguments) = TakesFrom ir f function arguments
Fits ir f pc (Leave words) = Has f 0 words × (words ≤ most_words)
Fits ir f pc (Load to at offset size) = Has f to 1 × (Has f at 1 × (IsWord offset × IsSize size))
Fits ir f pc (Store at offset size from) = Has f at 1 × (Has f from 1 × (IsWord offset × IsSize size))
Fits ir f pc (LoadUnits to at offset layout) =
    Has f to (length (units_at ir layout)) × (Has f at 1 × (IsApart at to (length (units_at ir layout)) × (IsWord offset × IsLayoutOf ir layout)))
Fits ir f pc (StoreUnits at offset layout from) =
    Has f at 1 × (Has f from (length (units_at ir layout)) × (IsWord offset × IsLayoutOf ir layout))
Fits ir f pc (ClearUnits at offset layout) = Has f at 1 × (IsWord offset × IsLayoutOf ir layout)
Fits ir f pc (Alloc to bytes kind) = Has f to 1 × (IsMade kind × ((1 ≤ bytes) × (bytes ≤ 2 ^ 28)))
Fits ir f pc (Free at kind) = Has f at 1 × IsMade kind
Fits ir f pc (NewChan to capacity words) = Has f to 1 × ((capacity ≤ 4096) × (words ≤ most_words))
Fits ir f pc (FreeChan chan) = Has f chan 1
Fits ir f pc (CanRecv to chan) = Has f to 1 × Has f chan 1
Fits ir f pc (CanSend to chan) = Has f to 1 × Has f chan 1
Fits ir f pc (Talk branches records to got) =
    (1 ≤ length branches) × ((length branches ≤ 64) × (Has f records (4 * length branches) × (Has f to 1 × All (BranchFits f records (4 * length branches) to got) branches)))
Fits ir f pc (Proc function arguments words) = Starts ir function words × Has f arguments words
Fits ir f pc (Task function arguments words) = Starts ir function words × Has f arguments words
Fits ir f pc (Par functions arguments words records) =
    (1 ≤ length functions) × ((length functions ≤ 64) × (Has f records (3 * length functions) × (Has f arguments words
    × (AreApart arguments words records (3 * length functions) × All (λ g. Starts ir g words) functions))))
Fits ir f pc (PutByte byte) = byte < 256
Fits ir f pc (PutCharacter from) = Has f from 1
Fits ir f pc (PutDecimal signed from) = Has f from 1
Fits ir f pc (PutLongDecimal signed from) = Has f from 2
Fits ir f pc (PutHex from) = Has f from 1
Fits ir f pc (PutLongHex from) = Has f from 2
Fits ir f pc (PutText at) = Has f at 1
Fits ir f pc Print = ⊤
Fits ir f pc (Terminate status) = Has f status 1
Fits ir f pc (Trap t) = ⊤

abbrev pub OperationsFit : Ir → Function → ℕ → List Operation → Type 0
OperationsFit ir f pc [] = ⊤
OperationsFit ir f pc (o ∷ os) = Fits ir f pc o.op × OperationsFit ir f (pc + 1) os

-- behind such an operation a function does not go on
abbrev pub stops : Op → Bool
stops (GoTo to) = true
stops (Back count) = true
stops (Turn to) = true
stops (Become function arguments) = true
stops (Leave words) = true
stops (Terminate status) = true
stops (Trap t) = true
stops _ = false

-- ---- jumps

-- How many jumps code for an operation makes at most that the machine counts, between turns and actions. Words are zeroed
-- eight in a round; a function that a pointer names is found by halving its class.
abbrev pub jumps_of : Op → ℕ
jumps_of (Zero to count) = 1 + count / 8
jumps_of (Word arith.Div signed to left right) = 1
jumps_of (Word arith.Rem signed to left right) = 1
jumps_of (Long op signed to left right) = 2
jumps_of (Skip count) = 1
jumps_of (SkipIfZero slot count) = 1
jumps_of (SkipIfSet slot count) = 1
jumps_of (SkipUnless op signed left right count) = 1
jumps_of (GoTo to) = 1
jumps_of (Back count) = 1
jumps_of (Turn to) = 1
jumps_of (Invoke function arguments) = 2
jumps_of (InvokePointer class pointer arguments) = 20
jumps_of (Become function arguments) = 2
jumps_of (Leave words) = 1
jumps_of (LoadUnits to at offset layout) = 2
jumps_of (StoreUnits at offset layout from) = 2
jumps_of (ClearUnits at offset layout) = 2
jumps_of (PutText at) = 2
jumps_of _ = 0

-- Between two turns a task stays in the operations of one function, forward alone. So many jumps, and a few more for the turn
-- itself, make at most 2^27 in 4,097 such stretches.
abbrev pub most_jumps : ℕ
most_jumps = 32736

-- ---- functions

-- a line of a text of at most 2^20 bytes
abbrev pub IsLine : ℕ → Type 0
IsLine n = (1 ≤ n) × (n ≤ 2 ^ 20 + 1)

pub record IsFunction (ir : Ir) (f : Function) : Type 0 where
  pub line : IsLine f.line
  pub lines : All (λ (o : Operation). IsLine o.line) f.code
  pub stack : f.stack ≤ 16384
  pub slots : f.slots + set_aside ≤ f.stack
  pub arguments : f.arguments ≤ f.slots
  pub operations : OperationsFit ir f 0 f.code
  -- its last operation is one behind which it does not go on
  pub before_last : ℕ
  pub ends : length f.code ≡ suc before_last
  pub last : Operation
  pub is_last : slice_get f.code before_last ≡ Some last
  pub goes_nowhere : stops last.op ≡ true
  pub jumps : sum_by (λ (o : Operation). jumps_of o.op) f.code ≤ most_jumps

-- ---- layouts and globals

-- a layout is that of a value which is copied whole
pub record IsLayout (runs : List Run) : Type 0 where
  pub sizes : All (λ (r : Run). IsSize r.size) runs
  pub within : All (λ (r : Run). r.at + r.count * r.size ≤ most_words) runs
  pub count : length (units_in runs) ≤ most_words

-- values at the start stand in the global, aligned and in ascending order
abbrev pub ItemsFit : (behind bytes : ℕ) → List StartItem → Type 0
ItemsFit behind bytes [] = ⊤
ItemsFit behind bytes (i ∷ is) =
    (behind ≤ i.at) × (IsSize i.size × ((i.at % i.size ≡ 0) × ((i.at + i.size ≤ bytes) × ((i.word < 256 ^ i.size) × ItemsFit (i.at + i.size) bytes is))))

pub record IsGlobal (g : Global) : Type 0 where
  pub some : 1 ≤ g.bytes
  pub most : g.bytes ≤ 2 ^ 28
  pub start : ItemsFit 0 g.bytes g.start

-- ---- programs

pub record IsBounded (ir : Ir) : Type 0 where
  pub functions : All (IsFunction ir) ir.functions
  pub count : length ir.functions ≤ 65536
  pub classes : All (λ (fs : List ℕ). length fs ≤ 65536) ir.classes
  pub layouts : All IsLayout ir.layouts
  pub globals : All IsGlobal ir.globals
  pub starts : sum_by (λ (g : Global). length g.start) ir.globals ≤ 2 ^ 21
  pub privates : ir.privates ≤ 16384
  pub main : ir.main < length ir.functions
  -- nothing, or a count and a pointer
  pub main_words : (arguments_of (function_at ir ir.main) ≡ 0) ⊎ (arguments_of (function_at ir ir.main) ≡ 2)
