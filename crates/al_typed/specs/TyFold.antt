-- How definitions go over a type: what each part gives is found first.
use Rattle.std.specs.Prelude.{List, [], ◌∷◌}
use Rattle.al_typed.specs.declared.ty.Ty.{Ty, Void, Integer, Pointer', Array', Chan', Tuple', Aggregate, Function', Row_of-Ty, end_of-Ty, more_of-Ty}
use Rattle.al_typed.specs.declared.ty.Ty.TheOpen.{Ty-F}

abbrev mutual
  pub fold_ty : {A : Type 0} → (Ty-F A → A) → Ty → A
  fold_ty step Void = step Ty-F.Void
  fold_ty step (Integer kind) = step (Ty-F.Integer kind)
  fold_ty step (Pointer' _ (more_of-Ty to end_of-Ty)) = step (Ty-F.Pointer (fold_ty step to))
  fold_ty step (Array' _ (more_of-Ty element end_of-Ty) count) = step (Ty-F.Array (fold_ty step element) count)
  fold_ty step (Chan' _ (more_of-Ty element end_of-Ty) capacity) = step (Ty-F.Chan (fold_ty step element) capacity)
  fold_ty step (Tuple' _ parts) = step (Ty-F.Tuple (fold_types step parts))
  fold_ty step (Aggregate number) = step (Ty-F.Aggregate number)
  fold_ty step (Function' _ (more_of-Ty returns end_of-Ty) _ parameters) = step (Ty-F.Function (fold_ty step returns) (fold_types step parameters))

  pub fold_types : {A : Type 0} → (Ty-F A → A) → {m : _} → Row_of-Ty m → List A
  fold_types step end_of-Ty = []
  fold_types step (more_of-Ty t rest) = fold_ty step t ∷ fold_types step rest
