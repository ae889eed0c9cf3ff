-- The slots that operations read and write, and the operations that come next.
use Rattle.std.specs.Prelude.{ℕ, ◌+◌, ◌-◌, ◌*◌, ◌≤◌, ◌<◌, nat_lt, if◌then◌else◌, List, [], ◌∷◌, ◌++◌, length, Option, Some, None, Any}
use Rattle.al_ir.specs.declared.ir.Ir.{Ir}
use Rattle.al_ir.specs.declared.op.TalkBranch.{TalkBranch}
use Rattle.al_ir.specs.declared.op.Op.{Op}
use Rattle.al_ir.specs.declared.op.Op.TheVariants.{Constant, Copy, Zero, Result, Word, WordBy, Long, Complement, IsZero, IsLongSet, Convert, Extract, Offset, Advance, Between, GetPrivate, PutPrivate, Skip, SkipIfZero, SkipIfSet, SkipUnless, GoTo, Back, Turn, Invoke, InvokePointer, Become, Leave, Load, Store, LoadUnits, StoreUnits, ClearUnits, Alloc, Free, NewChan, FreeChan, CanRecv, CanSend, Talk, Proc, Task, Par, PutCharacter, PutDecimal, PutLongDecimal, PutHex, PutLongHex, PutText, Terminate, Trap}
use Rattle.al_ir.specs.Units.{units_at}
use Rattle.al_ir.specs.Control.{arguments_of, function_at}
use Rattle.al_ir.specs.Step.{class_of, kind_words, long_words}

-- so many slots from one on
pub record Range : Type 0 where
  pub from : ℕ
  pub count : ℕ

abbrev pub one : ℕ → List Range
one t = record { from = t; count = 1 } ∷ []

abbrev pub several : (from count : ℕ) → List Range
several from count = record { from = from; count = count } ∷ []

abbrev pub IsInRange : ℕ → Range → Type 0
IsInRange t r = (r.from ≤ t) × (t < r.from + r.count)

-- a slot is one of these
abbrev pub IsIn : ℕ → List Range → Type 0
IsIn t ranges = Any (IsInRange t) ranges

-- ---- what is read

abbrev pub class_arguments : Ir → List ℕ → ℕ
class_arguments ir [] = 0
class_arguments ir (f ∷ fs) = arguments_of (function_at ir f)

abbrev pub units_count : Ir → (layout : ℕ) → ℕ
units_count ir layout = length (units_at ir layout)

abbrev pub sent : Option ℕ → (words : ℕ) → List Range
sent None words = []
sent (Some t) words = several t words

abbrev pub sent_by : List TalkBranch → List Range
sent_by [] = []
sent_by (b ∷ bs) = sent b.send b.words ++ sent_by bs

abbrev pub channels : List TalkBranch → List Range
channels [] = []
channels (b ∷ bs) = one b.chan ++ channels bs

abbrev pub reads : Ir → Op → List Range
reads ir (Copy to from) = one from
reads ir (Word op signed to left right) = one left ++ one right
reads ir (WordBy op signed to left word) = one left
reads ir (Long op signed to left right) = several left 2 ++ several right 2
reads ir (Complement to from) = one from
reads ir (IsZero to from) = one from
reads ir (IsLongSet to from) = several from 2
reads ir (Convert from _ to of) = several of (kind_words from)
reads ir (Extract to from skip size) = one from
reads ir (Offset to from bytes) = one from
reads ir (Advance back size to pointer count) = one pointer ++ one count
reads ir (Between size to left right) = one left ++ one right
reads ir (PutPrivate place from) = one from
reads ir (SkipIfZero slot count) = one slot
reads ir (SkipIfSet slot count) = one slot
reads ir (SkipUnless op signed left right count) = one left ++ one right
reads ir (Invoke function arguments) = several arguments (arguments_of (function_at ir function))
reads ir (InvokePointer class pointer arguments) = one pointer ++ several arguments (class_arguments ir (class_of ir class))
reads ir (Become function arguments) = several arguments (arguments_of (function_at ir function))
reads ir (Leave words) = several 0 words
reads ir (Load to at offset size) = one at
reads ir (Store at offset size from) = one at ++ one from
reads ir (LoadUnits to at offset layout) = one at
reads ir (StoreUnits at offset layout from) = one at ++ several from (units_count ir layout)
reads ir (ClearUnits at offset layout) = one at
reads ir (Free at kind) = one at
reads ir (FreeChan chan) = one chan
reads ir (CanRecv to chan) = one chan
reads ir (CanSend to chan) = one chan
reads ir (Talk branches records to got) = channels branches ++ sent_by branches
reads ir (Proc function arguments words) = several arguments words
reads ir (Task function arguments words) = several arguments words
reads ir (Par functions arguments words records) = several arguments words
reads ir (PutCharacter from) = one from
reads ir (PutDecimal signed from) = one from
reads ir (PutLongDecimal signed from) = several from 2
reads ir (PutHex from) = one from
reads ir (PutLongHex from) = several from 2
reads ir (PutText at) = one at
reads ir (Terminate status) = one status
reads ir _ = []

-- ---- what is written

-- the slots that a talk may receive words in
abbrev pub received : (got : ℕ) → List TalkBranch → List Range
received got [] = []
received got (b ∷ bs) = elim b.send [ None ↦ several got b.words | Some t ↦ [] ] ++ received got bs

-- slots that have another word behind it, or none
abbrev pub writes : Ir → Op → List Range
writes ir (Constant to word) = one to
writes ir (Copy to from) = one to
writes ir (Zero to count) = several to count
writes ir (Result to word) = one to
writes ir (Word op signed to left right) = one to
writes ir (WordBy op signed to left word) = one to
writes ir (Long op signed to left right) = several to (length (long_words op 0))
writes ir (Complement to from) = one to
writes ir (IsZero to from) = one to
writes ir (IsLongSet to from) = one to
writes ir (Convert from into to of) = several to (kind_words into)
writes ir (Extract to from skip size) = one to
writes ir (Offset to from bytes) = one to
writes ir (Advance back size to pointer count) = one to
writes ir (Between size to left right) = one to
writes ir (GetPrivate to place) = one to
writes ir (Load to at offset size) = one to
writes ir (LoadUnits to at offset layout) = several to (units_count ir layout)
writes ir (Alloc to bytes kind) = one to
writes ir (NewChan to capacity words) = one to
writes ir (CanRecv to chan) = one to
writes ir (CanSend to chan) = one to
writes ir (Talk branches records to got) = one to ++ several records (4 * length branches) ++ received got branches
writes ir (Par functions arguments words records) = several records (3 * length functions)
writes ir (PutText at) = one at
writes ir _ = []

-- those that have another word, or none, whatever is answered
abbrev pub surely_writes : Ir → Op → List Range
surely_writes ir (Talk branches records to got) = one to ++ several records (4 * length branches)
surely_writes ir (PutText at) = []
surely_writes ir o = writes ir o

-- ---- what stands in the frame whatever its home could be

-- Slots whose words code finds by an address: many words in a row that are zeroed, units of a value, records, words that are sent,
-- received, or given to a start.
abbrev pub in_frame : Ir → Op → List Range
in_frame ir (Zero to count) = if nat_lt 8 count then several to count else []
in_frame ir (LoadUnits to at offset layout) = several to (units_count ir layout)
in_frame ir (StoreUnits at offset layout from) = several from (units_count ir layout)
in_frame ir (Talk branches records to got) = several records (4 * length branches) ++ sent_by branches ++ received got branches
in_frame ir (Proc function arguments words) = several arguments words
in_frame ir (Task function arguments words) = several arguments words
in_frame ir (Par functions arguments words records) = several records (3 * length functions) ++ several arguments words
in_frame ir _ = []

-- ---- what comes next

-- the operations of the same function that may come behind operation number `pc`
abbrev pub comes_next : (pc : ℕ) → Op → List ℕ
comes_next pc (Skip count) = (pc + 1 + count) ∷ []
comes_next pc (SkipIfZero slot count) = (pc + 1) ∷ (pc + 1 + count) ∷ []
comes_next pc (SkipIfSet slot count) = (pc + 1) ∷ (pc + 1 + count) ∷ []
comes_next pc (SkipUnless op signed left right count) = (pc + 1) ∷ (pc + 1 + count) ∷ []
comes_next pc (GoTo to) = to ∷ []
comes_next pc (Back count) = (pc - count) ∷ []
comes_next pc (Turn to) = to ∷ []
comes_next pc (Become function arguments) = []
comes_next pc (Leave words) = []
comes_next pc (Terminate status) = []
comes_next pc (Trap t) = []
comes_next pc _ = (pc + 1) ∷ []

-- behind a call of another function
abbrev pub calls : Op → Type 0
calls (Invoke function arguments) = Unit {0}
calls (InvokePointer class pointer arguments) = Unit {0}
calls _ = ⊥
