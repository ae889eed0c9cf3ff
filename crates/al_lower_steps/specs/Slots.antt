-- Words in slots, and which slots stay as they are.
use Rattle.std.specs.Prelude.{◌≡◌, ℕ, ◌+◌, ◌<◌, ◌≤◌, ◌⊎◌, ⊤, List, [], ◌∷◌, Option, Some, None}
use Rattle.al_ir.specs.Control.{Slots}

-- these words stand in slots from one on, one behind the other
abbrev pub Holds : Slots → ℕ → List ℕ → Type 0
Holds slots t [] = ⊤
Holds slots t (w ∷ ws) = (slots t ≡ Some w) × Holds slots (t + 1) ws

-- so do those of a value, if there is one
abbrev pub HoldsGiven : Slots → ℕ → Option (List ℕ) → Type 0
HoldsGiven slots t None = ⊤
HoldsGiven slots t (Some v) = Holds slots t v

-- the slots below one are the same
abbrev pub Below : ℕ → Slots → Slots → Type 0
Below t now old = (i : ℕ) → i < t → now i ≡ old i

-- the slots from one up to another are the same
abbrev pub Kept : (from to : ℕ) → Slots → Slots → Type 0
Kept from to now old = (i : ℕ) → from ≤ i → i < to → now i ≡ old i

-- all slots but so many from one on are the same
abbrev pub Outside : (t n : ℕ) → Slots → Slots → Type 0
Outside t n now old = (i : ℕ) → (i < t) ⊎ (t + n ≤ i) → now i ≡ old i
