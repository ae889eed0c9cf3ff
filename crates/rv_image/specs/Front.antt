-- How much of a text tells whether it is an image, and which.
use Rattle.std.specs.Prelude.{◌≡◌, ℕ, ◌+◌, ◌*◌, ◌≤◌, List, take, Result, Ok, Err}
use Rattle.rv_isa.specs.declared.image.Contents.{Contents}
use Rattle.rv_image.specs.declared.fault.ImageFault.{ImageFault}
use Rattle.rv_image.specs.declared.header.Header.{Header}
use Rattle.rv_image.specs.Spelling.{IsImage}
use Rattle.rv_image.specs.Reading.{header_of, size_of, reading}

-- all the bytes that a header asks for and one more; a header's own where it is refused
abbrev pub enough_by : Result Header ImageFault → ℕ
enough_by (Ok header) = 4 * size_of header + 1
enough_by (Err fault) = 36

abbrev pub enough_of : List ℕ → ℕ
enough_of bytes = enough_by (header_of bytes)

-- So many bytes of a text are read as the whole text is, the first 36 say how many these are, and where they are an image they
-- are the whole text.
pub record Suffices (text : List ℕ) : Type 0 where
  pub least : 36 ≤ enough_of text
  pub told : enough_of (take 36 text) ≡ enough_of text
  pub read : reading (take (enough_of text) text) ≡ reading text
  pub whole : (c : Contents) → IsImage (take (enough_of text) text) c → take (enough_of text) text ≡ text
