-- Shared storage: the live blocks, listed in the order of their places, and what each access does to them.
use Rattle.std.specs.Prelude.{ℕ, zero, suc, ◌+◌, ◌-◌, ◌*◌, ◌/◌, ◌%◌, ◌≡◌, ◌≤◌, ◌<◌, Bool, true, false, ◌&&◌, not, if◌then◌else◌, ◌==◌, nat_lt, nat_le, List, [], ◌∷◌, ◌++◌, map, filter, find, length, take, drop, replicate, Option, Some, None, Result, Ok, Err, IsTrue}
use Rattle.std.specs.List.{list_any}
use Rattle.al_base.specs.declared.trap.Trap.{Trap}
use Rattle.al_base.specs.declared.trap.Trap.TheVariants.{Fault, Align, Memory, Unalloc}
use Rattle.al_event.specs.declared.act.Block.{Block}
use Rattle.al_event.specs.declared.act.Block.TheVariants.{Heap, Frame, Global}

-- ---- the region: where blocks lie

-- a live block, as far as its place goes
pub record Span : Type 0 where
  pub at : ℕ
  pub size : ℕ
  pub kind : Block

-- where the region begins
abbrev pub region_base : ℕ
region_base = 0x10000000

-- the most blocks that live at one time
abbrev pub most_blocks : ℕ
most_blocks = 65536

-- the n bytes from at on lie in this block
abbrev pub lies_in : ℕ → ℕ → Span → Bool
lies_in at n b = nat_le b.at at && nat_le (at + n) (b.at + b.size)

-- the block in which the n bytes from at on lie
abbrev pub hit : List Span → ℕ → ℕ → Option Span
hit spans at n = find (lies_in at n) spans

-- this block has a byte among the n bytes from at on
abbrev pub overlaps : ℕ → ℕ → Span → Bool
overlaps at n b = nat_lt at (b.at + b.size) && nat_lt b.at (at + n)

-- the n bytes from at on lie in a region of so many bytes, and overlap no live block
abbrev pub has_room : ℕ → List Span → ℕ → ℕ → Bool
has_room region spans n at = nat_le (at + n) (region_base + region) && not (list_any (overlaps at n) spans)

-- the first of the next `steps` multiples of 8 from at on that has room for n bytes
abbrev pub least_from : ℕ → ℕ → List Span → ℕ → ℕ → Option ℕ
least_from zero region spans n at = None
least_from (suc steps) region spans n at =
    elim (has_room region spans n at) [ true ↦ Some at | false ↦ least_from steps region spans n (at + 8) ]

-- the least place for n bytes: the least multiple of 8 at which they lie in the region and overlap no live block
abbrev pub least : ℕ → List Span → ℕ → Option ℕ
least region spans n = least_from (region / 8 + 1) region spans n region_base

-- at is a place for n bytes
pub record IsPlace (region : ℕ) (spans : List Span) (n at : ℕ) : Type 0 where
  pub from_base : region_base ≤ at
  pub aligned : at % 8 ≡ 0
  pub room : IsTrue (has_room region spans n at)

-- at is a place for n bytes, and no smaller number is
pub record IsLeast (region : ℕ) (spans : List Span) (n at : ℕ) : Type 0 where
  pub place : IsPlace region spans n at
  pub least : (k : ℕ) → k < at → ¬ IsPlace region spans n k

-- where a new block of n bytes is put; none where there is no place, or as many blocks live as may
abbrev pub new_place : ℕ → List Span → ℕ → Option ℕ
new_place region spans n = if nat_lt (length spans) most_blocks then least region spans n else None

-- one more, before the first that has a greater place
abbrev pub in_order : {X : Type 0} → (X → ℕ) → X → List X → List X
in_order place x [] = x ∷ []
in_order place x (y ∷ ys) = if nat_lt (place x) (place y) then x ∷ y ∷ ys else y ∷ in_order place x ys

abbrev pub same_kind : Block → Block → Bool
same_kind Heap Heap = true
same_kind Frame Frame = true
same_kind Global Global = true
same_kind _ _ = false

-- a block of this kind begins there
abbrev pub begins_at : ℕ → Block → Span → Bool
begins_at at kind b = (b.at == at) && same_kind kind b.kind

-- the live blocks with a new one
abbrev pub with_span : Span → List Span → List Span
with_span b spans = in_order (λ (c : Span). c.at) b spans

-- the live blocks without the one of this kind that begins there
abbrev pub without_span : ℕ → Block → List Span → List Span
without_span at kind spans = filter (λ b. not (begins_at at kind b)) spans

-- the live block with the least place from there on
abbrev pub next_span : List Span → ℕ → Option Span
next_span spans from = find (λ b. nat_le from b.at) spans

-- ---- the store: blocks with their bytes

pub record Live : Type 0 where
  pub at : ℕ
  pub kind : Block
  pub bytes : List ℕ

abbrev pub span_of : Live → Span
span_of b = record { at = b.at; size = length b.bytes; kind = b.kind }

abbrev pub spans_of : List Live → List Span
spans_of store = map span_of store

-- the number that these bytes spell, the lowest first
abbrev pub number_of : List ℕ → ℕ
number_of [] = 0
number_of (b ∷ bs) = b + 256 * number_of bs

-- the lowest n bytes of a number, the lowest first
abbrev pub bytes_of : ℕ → ℕ → List ℕ
bytes_of zero word = []
bytes_of (suc n) word = word % 256 ∷ bytes_of n (word / 256)

-- xs with ys in the place of what stands from k on
abbrev pub overwritten : List ℕ → ℕ → List ℕ → List ℕ
overwritten xs k ys = take k xs ++ (ys ++ drop (k + length ys) xs)

abbrev pub word_in : ℕ → ℕ → Option Live → Result ℕ Trap
word_in at n None = Err Fault
word_in at n (Some b) = Ok (number_of (take n (drop (at - b.at) b.bytes)))

-- the word of n bytes at a place: Align where n does not divide it, else Fault where it lies in no one block
abbrev pub load : List Live → ℕ → ℕ → Result ℕ Trap
load store at n =
    if at % n == 0 then word_in at n (find (λ b. lies_in at n (span_of b)) store) else Err Align

-- this block after a store of the lowest n bytes of a word, where they lie in it
abbrev pub with_word : ℕ → ℕ → ℕ → Live → Live
with_word at n word b =
    if lies_in at n (span_of b) then record b { bytes = overwritten b.bytes (at - b.at) (bytes_of n word) } else b

-- the store after a store, with the traps of a load
abbrev pub store_word : List Live → ℕ → ℕ → ℕ → Result (List Live) Trap
store_word store at n word =
    if at % n == 0
    then (if list_any (λ b. lies_in at n (span_of b)) store then Ok (map (with_word at n word) store) else Err Fault)
    else Err Align

-- a block of zeros
abbrev pub zeros : ℕ → ℕ → Block → Live
zeros at n kind = record { at = at; kind = kind; bytes = replicate n 0 }

abbrev pub with_block : Live → List Live → List Live
with_block b store = in_order (λ (c : Live). c.at) b store

abbrev pub placed : List Live → ℕ → Block → Option ℕ → Result (ℕ × List Live) Trap
placed store n kind None = Err Memory
placed store n kind (Some at) = Ok (at, with_block (zeros at n kind) store)

-- the place of a new block of n zeros, and the store with it; Memory where there is no place for it
abbrev pub alloc_block : ℕ → List Live → ℕ → Block → Result (ℕ × List Live) Trap
alloc_block region store n kind = placed store n kind (new_place region (spans_of store) n)

-- nil, which is no block's place and may be given back as a heap block
abbrev pub is_nil_heap : ℕ → Block → Bool
is_nil_heap at kind = (at == 0) && same_kind kind Heap

-- the store without the block of this kind that begins there; Unalloc where there is none, except for nil
abbrev pub free_block : List Live → ℕ → Block → Result (List Live) Trap
free_block store at kind =
    if is_nil_heap at kind then Ok store
    else (if list_any (λ b. begins_at at kind (span_of b)) store
    then Ok (filter (λ b. not (begins_at at kind (span_of b))) store)
    else Err Unalloc)
