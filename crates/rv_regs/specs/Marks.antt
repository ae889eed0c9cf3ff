-- What is found out of one slot before it gets a register: marks at the operations before which it is live.
use Rattle.std.specs.Prelude.{◌≡◌, ℕ, ◌+◌, nat_le, nat_lt, Bool, true, false, not, if◌then◌else◌, ◌&&◌, ◌||◌, List, [], ◌∷◌, Some, None, slice_get, slice_index_or}
use Rattle.al_ir.specs.declared.ir.Operation.{Operation}
use Rattle.al_ir.specs.declared.ir.Function.{Function}
use Rattle.al_ir.specs.declared.ir.Ir.{Ir}
use Rattle.al_ir.specs.declared.op.TalkBranch.{TalkBranch}
use Rattle.al_ir.specs.declared.op.Op.{Op}
use Rattle.al_ir.specs.declared.op.Op.TheVariants.{Invoke, InvokePointer, LoadUnits, StoreUnits, Talk, Proc, Task, Par, PutText}
use Rattle.rv_regs.specs.Uses.{Range, one, several, channels, reads, writes, in_frame, comes_next}

-- the slots of `IsIn`, as a test
abbrev pub is_in : ℕ → List Range → Bool
is_in t [] = false
is_in t (r ∷ rs) = (nat_le r.from t && nat_lt t (r.from + r.count)) || is_in t rs

-- the slots that a branch of a talk may receive words in
abbrev pub received_by : (got : ℕ) → TalkBranch → List Range
received_by got b = elim b.send [ None ↦ several got b.words | Some t ↦ [] ]

-- ---- what an operation does with slots that it finds by no address

abbrev pub named_reads : Ir → Op → List Range
named_reads ir (StoreUnits at offset layout from) = one at
named_reads ir (Talk branches records to got) = channels branches
named_reads ir (Proc function arguments words) = []
named_reads ir (Task function arguments words) = []
named_reads ir (Par functions arguments words records) = []
named_reads ir o = reads ir o

abbrev pub named_writes : Ir → Op → List Range
named_writes ir (LoadUnits to at offset layout) = []
named_writes ir (Talk branches records to got) = one to
named_writes ir (Par functions arguments words records) = []
named_writes ir o = writes ir o

-- whether it may find a slot by an address; where units are loaded or stored, any from the first on
abbrev pub may_find : Ir → Op → ℕ → Bool
may_find ir (LoadUnits to at offset layout) t = nat_le to t
may_find ir (StoreUnits at offset layout from) t = nat_le from t
may_find ir o t = is_in t (in_frame ir o)

abbrev pub is_call : Op → Bool
is_call (Invoke function arguments) = true
is_call (InvokePointer class pointer arguments) = true
is_call _ = false

-- whether it has another word in each slot that it writes, whatever is answered
abbrev pub is_sure : Op → Bool
is_sure (PutText at) = false
is_sure _ = true

-- ---- marks

-- whether the operation of that number is marked; none past the end is
abbrev pub marked : List Bool → ℕ → Bool
marked marks pc = slice_index_or marks pc false

abbrev pub any_marked : List Bool → List ℕ → Bool
any_marked marks [] = false
any_marked marks (pc ∷ pcs) = marked marks pc || any_marked marks pcs

-- An operation agrees with a slot that stands in a register and is live before the marked operations: it finds it by no address,
-- has it live before where it reads it or leaves it to one behind, and calls nothing while it is live.
abbrev pub agrees : (ir : Ir) (slot : ℕ) (live : List Bool) (pc : ℕ) (o : Op) → Bool
agrees ir slot live pc o =
    not (may_find ir o slot)
    && ((marked live pc || not (is_in slot (named_reads ir o)))
    && ((marked live pc || (not (any_marked live (comes_next pc o)) || (is_sure o && is_in slot (named_writes ir o))))
    && not (any_marked live (comes_next pc o) && is_call o)))

-- each of these operations does, the first of which has that number
abbrev pub all_agree : (ir : Ir) (slot : ℕ) (live : List Bool) (pc : ℕ) → List Operation → Bool
all_agree ir slot live pc [] = true
all_agree ir slot live pc (o ∷ os) = agrees ir slot live pc o.op && all_agree ir slot live (pc + 1) os

-- The operations before which a register is busy that has a slot: where the slot is live, and behind those that write it. `wrote`
-- says whether that was so before the first of these.
abbrev pub busy_from : (ir : Ir) (slot : ℕ) (live : List Bool) (pc : ℕ) (wrote : Bool) → List Operation → List Bool
busy_from ir slot live pc wrote [] = []
busy_from ir slot live pc wrote (o ∷ os) = (marked live pc || wrote) ∷ busy_from ir slot live (pc + 1) (is_in slot (named_writes ir o.op)) os

-- arguments come to their homes before the first operation
abbrev pub busy_of : (ir : Ir) (f : Function) (slot : ℕ) (live : List Bool) → List Bool
busy_of ir f slot live = busy_from ir slot live 0 (nat_lt slot f.arguments) f.code

-- ---- the least marks

-- an operation has a slot live before it, where the slot is live before the marked operations
abbrev pub demands : (ir : Ir) (slot : ℕ) (live : List Bool) (pc : ℕ) (o : Op) → Bool
demands ir slot live pc o =
    is_in slot (named_reads ir o) || (any_marked live (comes_next pc o) && not (is_sure o && is_in slot (named_writes ir o)))

-- each operation that has the slot live before it is marked
abbrev pub IsSettled : (ir : Ir) (slot : ℕ) (live : List Bool) (code : List Operation) → Type 0
IsSettled ir slot live code = (pc : ℕ) (o : Operation) → slice_get code pc ≡ Some o → demands ir slot live pc o.op ≡ true → marked live pc ≡ true

abbrev pub IsWithin : (a b : List Bool) → Type 0
IsWithin a b = (pc : ℕ) → marked a pc ≡ true → marked b pc ≡ true

-- no marks with which all operations agree are fewer
abbrev pub IsLeast : (ir : Ir) (slot : ℕ) (live : List Bool) (code : List Operation) → Type 0
IsLeast ir slot live code = (given : List Bool) → all_agree ir slot given 0 code ≡ true → IsWithin live given

-- how many operations are not marked
abbrev pub unmarked : List Bool → ℕ
unmarked [] = 0
unmarked (b ∷ bs) = (if b then 0 else 1) + unmarked bs

-- ---- two lists of marks

-- from the operation of that number on, none is marked in both
abbrev pub are_clear : (taken : List Bool) (pc : ℕ) → List Bool → Bool
are_clear taken pc [] = true
are_clear taken pc (b ∷ bs) = not (b && marked taken pc) && are_clear taken (pc + 1) bs

abbrev pub IsJoin : (a b joined : List Bool) → Type 0
IsJoin a b joined = (pc : ℕ) → marked joined pc ≡ (marked a pc || marked b pc)
