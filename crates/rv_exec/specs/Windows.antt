-- The private windows: the stack of a task, and the private globals of a proc.
use Rattle.std.specs.Prelude.{ℕ, zero, suc, ◌+◌, ◌-◌, ◌*◌, ◌/◌, ◌%◌, ◌==◌, nat_le, nat_lt, ◌&&◌, ◌||◌, if◌then◌else◌, List, [], ◌∷◌, length, slice_index, Option, Some, None, Result, Ok, Err, option_map}
use Rattle.al_base.specs.declared.trap.Trap.{Trap}
use Rattle.al_base.specs.declared.trap.Trap.TheVariants.{Align, Illegal}
use Rattle.rv_isa.specs.declared.addresses.TheConstants.{STACK_START, STACK_END, GLOBALS_START}
use Rattle.rv_exec.specs.declared.windows.Window.{Window}
use Rattle.rv_exec.specs.declared.windows.Window.TheVariants.{Stack, Globals, Shared}
use Rattle.rv_exec.specs.Hart.{Hart}

-- where an access goes, by its base register
abbrev pub window_of : (rs1 : ℕ) → Window
window_of rs1 = if rs1 == 2 || rs1 == 8 then Stack else (if rs1 == 4 then Globals else Shared)

-- the offset of an access of `size` bytes in a window from `start` up to `end`, or the trap that it asks
abbrev pub offset_in : (start end size address : ℕ) → Result ℕ Trap
offset_in start end size address =
    if nat_le start address && nat_le (address + size) end
    then (if address % size == 0 then Ok (address - start) else Err Align)
    else Err Illegal

abbrev pub stack_offset : (size address : ℕ) → Result ℕ Trap
stack_offset size address = offset_in STACK_START STACK_END size address

-- `bytes` is how many bytes of private globals the image has
abbrev pub globals_offset : (bytes size address : ℕ) → Result ℕ Trap
globals_offset bytes size address = offset_in GLOBALS_START (GLOBALS_START + bytes) size address

-- so many words from a word number on
abbrev pub words_from : (ℕ → ℕ) → (first count : ℕ) → List ℕ
words_from f first zero = []
words_from f first (suc count) = f first ∷ words_from f (first + 1) count

-- with these words from a word number on
abbrev pub put_words : (ℕ → ℕ) → (first : ℕ) → List ℕ → (ℕ → ℕ)
put_words f first words = λ n. if nat_le first n && nat_lt n (first + length words) then slice_index words (n - first) else f n

-- the number of the first of so many words at an address, where they lie in the stack window; no words lie nowhere
abbrev pub stack_place : (address count : ℕ) → Option ℕ
stack_place address count =
    if count == 0 then Some 0
    else (if nat_le STACK_START address && (nat_le (address + 4 * count) STACK_END && (address % 4 == 0))
    then Some ((address - STACK_START) / 4)
    else None)

-- so many words at an address of the stack
abbrev pub stack_words : Hart → (address count : ℕ) → Option (List ℕ)
stack_words h address count = option_map (λ first. words_from h.stack first count) (stack_place address count)
