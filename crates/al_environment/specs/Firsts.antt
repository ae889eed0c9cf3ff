-- The number of what stands at a place, where the first that is given there counts.
use Rattle.std.specs.Prelude.{ℕ, ◌==◌, ◌&&◌, Bool, true, false, List, find, Option, Some, None, option_map}
use Rattle.al_base.specs.declared.place.Place.{Place}
use Rattle.al_rules.specs.Outcome.{same_place}
use Rattle.al_environment.specs.declared.numbered.Numbered.{Numbered}

-- the number of what stands at a place
unfoldable pub number_at : List Numbered → Place → Option ℕ
number_at list at = option_map (λ (n : Numbered). n.number) (find (λ (n : Numbered). same_place n.at at) list)

-- what one place has, once another has that, which may be the same
abbrev pub first_given : Option ℕ → (is_same : Bool) → ℕ → Option ℕ
first_given (Some first) is_same n = Some first
first_given None true n = Some n
first_given None false n = None

-- a place as a key, and keys that are the same
abbrev pub key_of : Place → ℕ × ℕ
key_of at = (at.line, at.col)

abbrev pub same_key : ℕ × ℕ → ℕ × ℕ → Bool
same_key p q = p.0 == q.0 && p.1 == q.1
