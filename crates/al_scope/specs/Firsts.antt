-- What the name at a place stands for, where the first that is met there counts.
use Rattle.std.specs.Prelude.{ℕ, ◌==◌, ◌&&◌, Bool, true, false, List, find, Option, Some, None, option_map}
use Rattle.al_base.specs.declared.place.Place.{Place}
use Rattle.al_rules.specs.Outcome.{same_place}
use Rattle.al_scope.specs.declared.declaration.Declaration.{Declaration}
use Rattle.al_scope.specs.declared.declaration.Resolved.{Resolved}

-- what the name at a place stands for
unfoldable pub declaration_at : List Resolved → Place → Option Declaration
declaration_at names at = option_map (λ (r : Resolved). r.declaration) (find (λ (r : Resolved). same_place r.at at) names)

-- what one place has, once another has that, which may be the same
abbrev pub first_given : Option Declaration → (is_same : Bool) → Declaration → Option Declaration
first_given (Some first) is_same d = Some first
first_given None true d = Some d
first_given None false d = None

-- a place as a key, and keys that are the same
abbrev pub key_of : Place → ℕ × ℕ
key_of at = (at.line, at.col)

abbrev pub same_key : ℕ × ℕ → ℕ × ℕ → Bool
same_key p q = p.0 == q.0 && p.1 == q.1
