-- Parts one after the other.
use Rattle.std.proofs.Common.{◌≡◌, List, [], ◌∷◌, map, refl}
use Rattle.al_declare.specs.declared.text.Text.{Text}
use Rattle.al_declare.specs.declared.asked.Asked.{Asked}
use Rattle.al_declare.specs.Types.{Way, each}

-- parts that are made of others
pub each_map : {A B : Type 0} (g : B → Way) (f : A → B) (xs : List A) (c : Text) (w : Asked) → each g (map f xs) c w ≡ each (λ x. g (f x)) xs c w
each_map g f [] c w = refl
each_map g f (x ∷ xs) c w = each_map g f xs c (g (f x) c w)
