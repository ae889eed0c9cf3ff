-- What bytes are the image of, or why they are none: the first cause that there is.
use Rattle.std.specs.Prelude.{◌≡◌, ℕ, zero, suc, ◌+◌, ◌*◌, Bool, not, ◌||◌, ◌==◌, nat_lt, if◌then◌else◌, List, [], ◌∷◌, ◌++◌, length, take, drop, Result, Ok, Err}
use Rattle.std.specs.Int.{w32, from_le_bytes}
use Rattle.rv_isa.specs.declared.image.Contents.{Contents}
use Rattle.rv_isa.specs.declared.image.Row.{Row}
use Rattle.rv_isa.specs.declared.image.Item.{Item}
use Rattle.rv_isa.specs.declared.image.LineRow.{LineRow}
use Rattle.rv_isa.specs.Image.{are_counts, are_rows}
use Rattle.rv_image.specs.declared.fault.ImageFault.{ImageFault}
use Rattle.rv_image.specs.declared.fault.ImageFault.TheVariants.{Short, Magic, Version, Count, Extra}
use Rattle.rv_image.specs.declared.fault.ImageStop.{ImageStop}
use Rattle.rv_image.specs.declared.fault.ImageStop.TheVariants as stops
use Rattle.rv_image.specs.declared.header.Header.{Header}
use Rattle.rv_image.specs.Spelling.{magic}

-- What a function returned is what reading gives, unless memory ran out.
abbrev pub Stops : {A : Type 0} → ImageStop → Result A ImageFault → Type 0
Stops stops.NoMemory read = Unit {0}
Stops (stops.Fault fault) read = read ≡ Err fault

abbrev pub Gives : {A : Type 0} → Result A ImageStop → Result A ImageFault → Type 0
Gives (Ok x) read = read ≡ Ok x
Gives (Err stop) read = Stops stop read

-- ---- numbers by their places

-- number k of the bytes, from 0
abbrev pub number_at : List ℕ → ℕ → ℕ
number_at bytes k = from_le_bytes w32 (take 4 (drop (4 * k) bytes))

-- what stands at 0, 1, .. up to n - 1
abbrev pub listed : {X : Type 0} → (ℕ → X) → ℕ → List X
listed f zero = []
listed f (suc n) = listed f n ++ f n ∷ []

-- ---- the header

abbrev pub has_lines : (version : ℕ) → Bool
has_lines version = version == 2

-- how many numbers a header has
abbrev pub header_len : (version : ℕ) → ℕ
header_len version = if has_lines version then 9 else 8

-- a header, from what stands at each place
abbrev pub header_from : (at : ℕ → ℕ) → Header
header_from at = record {
  version = at 1;
  code = at 2;
  functions = at 3;
  globals = at 4;
  items = at 5;
  privates = at 6;
  main = at 7;
  lines = if has_lines (at 1) then at 8 else 0;
}

abbrev pub has_counts : Header → Bool
has_counts h = are_counts h.code h.functions h.globals h.items h.privates h.main h.lines

unfoldable pub header_of : List ℕ → Result Header ImageFault
header_of bytes =
    if nat_lt (length bytes) 32 then Err Short
    else if not (number_at bytes 0 == magic) then Err Magic
    else if not ((number_at bytes 1 == 1) || (number_at bytes 1 == 2)) then Err Version
    else if nat_lt (length bytes) (4 * header_len (number_at bytes 1)) then Err Short
    else if not (has_counts (header_from (number_at bytes))) then Err Count
    else Ok (header_from (number_at bytes))

-- ---- where the rows begin, counted in numbers

abbrev pub functions_begin : Header → ℕ
functions_begin h = header_len h.version

abbrev pub globals_begin : Header → ℕ
globals_begin h = functions_begin h + 3 * h.functions

abbrev pub items_begin : Header → ℕ
items_begin h = globals_begin h + h.globals

abbrev pub code_begins : Header → ℕ
code_begins h = items_begin h + 4 * h.items

abbrev pub lines_begin : Header → ℕ
lines_begin h = code_begins h + h.code

-- all the numbers that a header asks for
abbrev pub size_of : Header → ℕ
size_of h = lines_begin h + 2 * h.lines

-- ---- the rows

abbrev pub numbers_of : (at : ℕ → ℕ) (begin count : ℕ) → List ℕ
numbers_of at begin count = listed (λ k. at (begin + k)) count

abbrev pub functions_of : (at : ℕ → ℕ) (begin count : ℕ) → List Row
functions_of at begin count = listed (λ k. record { entry = at (begin + 3 * k); slots = at (begin + 3 * k + 1); words = at (begin + 3 * k + 2) }) count

-- the size of an item; one that is no byte is 0, which no item has either
abbrev pub size_from : ℕ → ℕ
size_from n = if nat_lt n 256 then n else 0

abbrev pub items_of : (at : ℕ → ℕ) (begin count : ℕ) → List Item
items_of at begin count = listed (λ k. record { global = at (begin + 4 * k); offset = at (begin + 4 * k + 1); size = size_from (at (begin + 4 * k + 2)); value = at (begin + 4 * k + 3) }) count

abbrev pub lines_of : (at : ℕ → ℕ) (begin count : ℕ) → List LineRow
lines_of at begin count = listed (λ k. record { word = at (begin + 2 * k); line = at (begin + 2 * k + 1) }) count

-- the contents that a header announces, from what stands at each place
abbrev pub contents_from : (at : ℕ → ℕ) → Header → Contents
contents_from at h = record {
  code = numbers_of at (code_begins h) h.code;
  functions = functions_of at (functions_begin h) h.functions;
  globals = numbers_of at (globals_begin h) h.globals;
  items = items_of at (items_begin h) h.items;
  privates = h.privates;
  main = h.main;
  lines = lines_of at (lines_begin h) h.lines;
}

-- ---- all of it

unfoldable pub contents_of : List ℕ → Header → Result Contents ImageFault
contents_of bytes h =
    if nat_lt (length bytes) (4 * size_of h) then Err Short
    else if not (are_rows (contents_from (number_at bytes) h)) then Err Count
    else if nat_lt (4 * size_of h) (length bytes) then Err Extra
    else Ok (contents_from (number_at bytes) h)

abbrev pub then_contents : List ℕ → Result Header ImageFault → Result Contents ImageFault
then_contents bytes (Ok header) = contents_of bytes header
then_contents bytes (Err fault) = Err fault

-- the causes, in their order
abbrev pub reading : List ℕ → Result Contents ImageFault
reading bytes = then_contents bytes (header_of bytes)
