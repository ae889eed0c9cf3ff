-- The number that belongs to a statement, by its place.
use Rattle.std.specs.Prelude.{ℕ, ◌==◌, ◌&&◌, Bool, List, find, Option, option_map}
use Rattle.al_base.specs.declared.place.Place.{Place}
use Rattle.al_rules.specs.Outcome.{same_place}
use Rattle.al_flow.specs.declared.target.Target.{Target}

unfoldable pub number_at : List Target → Place → Option ℕ
number_at list at = option_map (λ (t : Target). t.number) (find (λ (t : Target). same_place t.at at) list)

-- a place as a key, and keys that are the same
abbrev pub key_of : Place → ℕ × ℕ
key_of at = (at.line, at.col)

abbrev pub same_key : ℕ × ℕ → ℕ × ℕ → Bool
same_key p q = p.0 == q.0 && p.1 == q.1
