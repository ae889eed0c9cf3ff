-- The bounds of an image, which are this project's choice.
use Rattle.std.specs.Prelude.{ℕ, ◌+◌, ◌*◌, ◌%◌, ◌^◌, ◌==◌, nat_lt, nat_le, Bool, false, ◌&&◌, ◌||◌, IsTrue, List, length, drop, Option, Some, None, slice_get, slice_index}
use Rattle.std.specs.List.{list_all, zip}
use Rattle.rv_isa.specs.declared.image.Contents.{Contents}
use Rattle.rv_isa.specs.declared.image.Row.{Row}
use Rattle.rv_isa.specs.declared.image.Item.{Item}
use Rattle.rv_isa.specs.declared.image.LineRow.{LineRow}

-- from `low` up to and with `high`
abbrev pub is_from : (low high number : ℕ) → Bool
is_from low high number = nat_le low number && nat_le number high

-- the numbers of a header: how many words of code, functions, globals, items and lines, the bytes of private
-- globals, and the function that is main
abbrev pub are_counts : (code functions globals items privates main lines : ℕ) → Bool
are_counts code functions globals items privates main lines =
    is_from 1 (2 ^ 23) code
    && is_from 1 65536 functions
    && nat_le globals 65536
    && nat_le items (2 ^ 21)
    && (privates % 4 == 0)
    && nat_le privates 65536
    && nat_lt main functions
    && nat_le lines code

-- a function begins in the code, and has room for its slots and parameters
abbrev pub is_function : (code : ℕ) → Row → Bool
is_function code row = nat_lt row.entry code && nat_le row.slots 16384 && nat_le row.words 16384

-- main has no parameter, or two words
abbrev pub is_main : Option Row → Bool
is_main None = false
is_main (Some row) = (row.words == 0) || (row.words == 2)

abbrev pub is_global : (size : ℕ) → Bool
is_global size = is_from 1 (2 ^ 28) size

-- the value of an item fits its size, and the item lies in its global at a multiple of its size
abbrev pub is_item : (globals : List ℕ) → Item → Bool
is_item globals item =
    nat_lt item.global (length globals)
    && ((item.size == 1) || (item.size == 2) || (item.size == 4))
    && (item.offset % item.size == 0)
    && nat_le (item.offset + item.size) (slice_index globals item.global)
    && nat_lt item.value (2 ^ (8 * item.size))

-- b's place is past a's
abbrev pub is_past : (a b : Item) → Bool
is_past a b = nat_lt a.global b.global || ((a.global == b.global) && nat_le (a.offset + a.size) b.offset)

abbrev pub is_line : (code : ℕ) → LineRow → Bool
is_line code row = nat_lt row.word code && is_from 1 1048577 row.line

-- each element and the next one
abbrev pub adjacent : {X : Type 0} → List X → List (X × X)
adjacent xs = zip xs (drop 1 xs)

abbrev pub are_rows : Contents → Bool
are_rows c =
    list_all (is_function (length c.code)) c.functions
    && is_main (slice_get c.functions c.main)
    && list_all is_global c.globals
    && list_all (is_item c.globals) c.items
    && list_all (λ (pair : Item × Item). is_past pair.0 pair.1) (adjacent c.items)
    && list_all (is_line (length c.code)) c.lines
    && list_all (λ (pair : LineRow × LineRow). nat_lt pair.0.word pair.1.word) (adjacent c.lines)

abbrev pub is_within : Contents → Bool
is_within c =
    are_counts (length c.code) (length c.functions) (length c.globals) (length c.items) c.privates c.main (length c.lines)
    && are_rows c

abbrev pub IsWithin : Contents → Type 0
IsWithin c = IsTrue (is_within c)
