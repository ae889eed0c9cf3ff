-- Parts one after the other.
use Rattle.std.proofs.Common.{◌≡◌, ℕ, ◌&&◌, Bool, true, List, [], ◌∷◌, map, fold, Option, Some, None, refl, ap, ◌∙◌, sym}
use Rattle.al_base.specs.declared.place.Place.{Place}
use Rattle.al_tree.specs.declared.constants.EnumConstant.{EnumConstant}
use Rattle.al_scope.specs.declared.walk.Walk.{Walk}
use Rattle.al_scope.specs.Types.{Way, each}

-- parts that are made of others
pub each_map : {A B : Type 0} (g : B → Way) (f : A → B) (xs : List A) (c : List EnumConstant) (w : Walk) → each g (map f xs) c w ≡ each (λ x. g (f x)) xs c w
each_map g f [] c w = refl
each_map g f (x ∷ xs) c w = each_map g f xs c (g (f x) c w)
