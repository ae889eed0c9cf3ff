-- Parts one after the other.
use Rattle.std.proofs.Common.{◌≡◌, List, [], ◌∷◌, map, refl}
use Rattle.al_type_limits.specs.declared.size.Size.{Size}
use Rattle.al_type_limits.specs.Expressions.{Way, each}

-- the parts of a list by what they are made of
pub each_map : {A B : Type 0} (f : B → Way) (g : A → B) (xs : List A) (w : Size) → each f (map g xs) w ≡ each (λ x. f (g x)) xs w
each_map f g [] w = refl
each_map f g (x ∷ xs) w = each_map f g xs (f (g x) w)
