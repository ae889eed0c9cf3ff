-- Worked examples of the store.
use Rattle.std.specs.Prelude.{ℕ, ◌≡◌, List, [], ◌∷◌, Some, None, Ok, Err, refl}
use Rattle.al_base.specs.declared.trap.Trap.TheVariants.{Fault, Align, Memory, Unalloc}
use Rattle.al_event.specs.declared.act.Block.TheVariants.{Heap, Frame, Global}
use Rattle.al_event.specs.Store.{Span, Live, hit, new_place, without_span, load, store_word, alloc_block, free_block}

-- 1 MiB
abbrev mebibyte : ℕ
mebibyte = 1048576

abbrev heap_span : ℕ → ℕ → Span
heap_span at size = record { at = at; size = size; kind = Heap }

-- blocks of 4, 16 and 8 bytes
abbrev three : List Span
three = heap_span 0x10000000 4 ∷ heap_span 0x10000008 16 ∷ heap_span 0x10000018 8 ∷ []

pub first_place : new_place mebibyte [] 4 ≡ Some 0x10000000
first_place = refl

-- each block begins at a multiple of 8
pub second_place : new_place mebibyte (heap_span 0x10000000 4 ∷ []) 16 ≡ Some 0x10000008
second_place = refl

-- 17 bytes do not fit where 16 were given back
pub large_place : new_place mebibyte (without_span 0x10000008 Heap three) 17 ≡ Some 0x10000020
large_place = refl

pub place_again : new_place mebibyte (without_span 0x10000008 Heap three) 16 ≡ Some 0x10000008
place_again = refl

-- the byte after a block's last
pub past_block : hit three 0x10000004 1 ≡ None
past_block = refl

abbrev cells : List Live
cells =
    record { at = 0x10000000; kind = Global; bytes = 1 ∷ 2 ∷ 3 ∷ 4 ∷ [] } ∷ record { at = 0x10000008; kind = Heap; bytes = 5 ∷ 6 ∷ [] } ∷ []

-- the lowest byte stands first
pub loaded : load cells 0x10000000 4 ≡ Ok 0x04030201
loaded = refl

pub loaded_half : load cells 0x10000002 2 ≡ Ok 0x0403
loaded_half = refl

-- a word that begins in a block and ends past it
pub half_outside : load cells 0x10000008 4 ≡ Err Fault
half_outside = refl

-- an access that is not aligned and lies in no block is not aligned
pub align_first : load cells 0x10000101 4 ≡ Err Align
align_first = refl

pub stored : store_word cells 0x10000008 1 0x1ff ≡ Ok (record { at = 0x10000000; kind = Global; bytes = 1 ∷ 2 ∷ 3 ∷ 4 ∷ [] } ∷ record { at = 0x10000008; kind = Heap; bytes = 0xff ∷ 6 ∷ [] } ∷ [])
stored = refl

pub allocated : alloc_block 16 cells 3 Frame ≡ Err Memory
allocated = refl

-- nil may be given back as a heap block, and as no other
pub freed_nil : free_block cells 0 Heap ≡ Ok cells
freed_nil = refl

pub no_frame_at_nil : free_block cells 0 Frame ≡ Err Unalloc
no_frame_at_nil = refl

-- a block is given back by its kind
pub other_kind : free_block cells 0x10000000 Heap ≡ Err Unalloc
other_kind = refl
