-- Blocks of globals, put into a store one after another.
use Rattle.std.specs.Prelude.{◌≡◌, ℕ, List, [], ◌∷◌, length, Some}
use Rattle.al_event.specs.declared.act.Block.TheVariants.{Global}
use Rattle.al_event.specs.Store.{Live, new_place, spans_of, with_block}

-- blocks of these bytes went to these places, each the least one for it then
abbrev pub Placed : (region : ℕ) → (globals : List (List ℕ)) → (places : List ℕ) → (before after : List Live) → Type 0
Placed region [] [] before after = after ≡ before
Placed region [] (at ∷ places) before after = ⊥
Placed region (bytes ∷ globals) [] before after = ⊥
Placed region (bytes ∷ globals) (at ∷ places) before after =
    (new_place region (spans_of before) (length bytes) ≡ Some at) × Placed region globals places (with_block (record { at = at; kind = Global; bytes = bytes }) before) after
