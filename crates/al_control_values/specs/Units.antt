-- Units whose values fit in words.
use Rattle.std.specs.Prelude.{ℕ, ◌≤◌, List, [], ◌∷◌, ⊤}
use Rattle.al_typed.specs.declared.layout.Unit.{Unit}

-- none has more than 4 bytes
abbrev pub AreShort : List Unit → Type 0
AreShort [] = ⊤
AreShort (u ∷ us) = (u.size ≤ 4) × AreShort us
