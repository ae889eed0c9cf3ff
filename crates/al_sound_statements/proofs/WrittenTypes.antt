-- What a written type stands for hangs on the own adt alone of what is at hand.
use Rattle.std.proofs.Common.{◌≡◌, [], ◌∷◌, Option, refl, ap}
use Rattle.std.proofs.Math.Path.{fun_ext}
use Rattle.al_tree.specs.declared.type_tree.TypeTree.{TypeTree, fold-TypeTree}
use Rattle.al_tree.specs.declared.type_tree.TypeTree.TheOpen.{TypeTree-F}
use Rattle.al_typed.specs.declared.ty.Ty.{Ty}
use Rattle.al_environment.specs.declared.environment.Environment.{Environment}
use Rattle.al_environment.specs.declared.environment.Here.{Here}
use Rattle.al_environment.specs.declared.environment.OwnAdt.{OwnAdt}
use Rattle.al_environment.specs.Lookups.{inner_type, or_else, outer_type, plain_type}
use Rattle.al_environment.specs.Written.{written, written_step}

step_same : (env : Environment) (here there : Here) → here.own ≡ there.own → (y : TypeTree-F (Option Ty)) → written_step env here y ≡ written_step env there y
unfolding plain_type
step_same env here there e (TypeTree-F.Basic at b) = refl
step_same env here there e (TypeTree-F.Named at name []) = ap (λ (own : Option OwnAdt). or_else (inner_type own name) (outer_type env name)) e
step_same env here there e (TypeTree-F.Named at name (t ∷ ts)) = refl
step_same env here there e (TypeTree-F.Tuple at ts) = refl
step_same env here there e (TypeTree-F.Chan at t bound) = refl
step_same env here there e (TypeTree-F.Pointer at t) = refl
step_same env here there e (TypeTree-F.Array at bound t) = refl

pub written_same : (env : Environment) (here there : Here) → here.own ≡ there.own → (t : TypeTree) → written env here t ≡ written env there t
unfolding written
written_same env here there e t = ap (λ (f : TypeTree-F (Option Ty) → Option Ty). fold-TypeTree (Option Ty) f t) (fun_ext (step_same env here there e))
