-- The bytes of an image, which are this project's choice: numbers of 32 bits, low byte first.
use Rattle.std.specs.Prelude.{◌≡◌, ◌⊎◌, ◌<◌, ◌^◌, ℕ, List, [], ◌∷◌, ◌++◌, length, All}
use Rattle.std.specs.List.{flat_map}
use Rattle.std.specs.Int.{w32, to_le_bytes}
use Rattle.rv_isa.specs.declared.image.Contents.{Contents}
use Rattle.rv_isa.specs.declared.image.Row.{Row}
use Rattle.rv_isa.specs.declared.image.Item.{Item}
use Rattle.rv_isa.specs.declared.image.LineRow.{LineRow}
use Rattle.rv_isa.specs.Image.{IsWithin}

abbrev pub number : ℕ → List ℕ
number n = to_le_bytes w32 n

-- the bytes of numbers, one after the other
abbrev pub spelled : List ℕ → List ℕ
spelled numbers = flat_map number numbers

-- the bytes 41 4c 45 46, which are ALEF
abbrev pub magic : ℕ
magic = 1178946625

abbrev pub function_row : Row → List ℕ
function_row row = row.entry ∷ row.slots ∷ row.words ∷ []

abbrev pub item_row : Item → List ℕ
item_row item = item.global ∷ item.offset ∷ item.size ∷ item.value ∷ []

abbrev pub line_row : LineRow → List ℕ
line_row row = row.word ∷ row.line ∷ []

-- how many words of code, functions, globals and items there are, the bytes of private globals, and main
abbrev pub counts : Contents → List ℕ
counts c = length c.code ∷ length c.functions ∷ length c.globals ∷ length c.items ∷ c.privates ∷ c.main ∷ []

-- the rows of functions, the sizes of globals, the items, and the code
abbrev pub body : Contents → List ℕ
body c = flat_map function_row c.functions ++ c.globals ++ flat_map item_row c.items ++ c.code

-- version 1 has no line rows
abbrev pub header_1 : Contents → List ℕ
header_1 c = magic ∷ 1 ∷ counts c

abbrev pub version_1 : Contents → List ℕ
version_1 c = header_1 c ++ body c

-- version 2 has the number of its line rows after main, and the rows at the end
abbrev pub header_2 : Contents → List ℕ
header_2 c = magic ∷ 2 ∷ counts c ++ length c.lines ∷ []

abbrev pub version_2 : Contents → List ℕ
version_2 c = header_2 c ++ body c ++ flat_map line_row c.lines

-- contents within the bounds of an image, whose words of code have 32 bits
pub record IsContents (c : Contents) : Type 0 where
  pub within : IsWithin c
  pub words : All (λ word. word < 2 ^ 32) c.code

-- the bytes of version 2 are an image
pub record IsImage2 (bytes : List ℕ) (c : Contents) : Type 0 where
  pub contents : IsContents c
  pub spelling : bytes ≡ spelled (version_2 c)

-- the bytes of version 1 are an image, which has no line rows
pub record IsImage1 (bytes : List ℕ) (c : Contents) : Type 0 where
  pub contents : IsContents c
  pub spelling : bytes ≡ spelled (version_1 c)
  pub lines : c.lines ≡ []

-- the bytes are an image, in either version
abbrev pub IsImage : List ℕ → Contents → Type 0
IsImage bytes c = IsImage2 bytes c ⊎ IsImage1 bytes c
