-- What a sink got of a piece.
use Rattle.std.specs.Prelude.{◌≡◌, ℕ, ◌≤◌, List, ◌++◌, length, take}

-- all of it
abbrev pub GetsAll : List ℕ → List ℕ → List ℕ → Type 0
GetsAll piece before after = after ≡ before ++ piece

-- a first part of it
abbrev pub GetsPart : List ℕ → List ℕ → List ℕ → Type 0
GetsPart piece before after = (n : ℕ) × (n ≤ length piece) × (after ≡ before ++ take n piece)
