-- Arrays of arrays.
use Rattle.std.proofs.Common.{◌≡◌, List, [], ◌∷◌, ◌++◌, refl, ap}
use Rattle.al_base.specs.declared.place.Place.{Place}
use Rattle.al_tree.specs.declared.type_tree.Bound.{Bound}
use Rattle.al_tree.specs.declared.type_tree.TypeTree.{TypeTree}
use Rattle.al_tree.specs.declared.type_tree.TypeTree.TheVariants as ty
use Rattle.al_tree.specs.Types.{arrays}

-- the last bound is innermost
pub arrays_last : (at : Place) (ns : List Bound) (n : Bound) (x : TypeTree) → arrays at (ns ++ n ∷ []) x ≡ arrays at ns (ty.Array at n x)
arrays_last at [] n x = refl
arrays_last at (m ∷ ns) n x = ap (ty.Array at m) (arrays_last at ns n x)
