-- What writing to a sink to the end does.
use Rattle.std.specs.Prelude.{◌≡◌, ℕ, ◌≤◌, List, ◌++◌, length, take}

-- a sink got all of a piece
abbrev pub GetsAll : List ℕ → List ℕ → List ℕ → Type 0
GetsAll piece before after = after ≡ before ++ piece

-- a sink got a first part of a piece
abbrev pub GetsPart : List ℕ → List ℕ → List ℕ → Type 0
GetsPart piece before after = (n : ℕ) × (n ≤ length piece) × (after ≡ before ++ take n piece)
