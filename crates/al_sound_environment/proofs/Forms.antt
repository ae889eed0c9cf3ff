-- Sound types of pointers and functions, by their parts.
use Rattle.std.proofs.Common.{◌≡◌, ◌&&◌, ◌||◌, List, refl, ap, ◌∙◌}
use Rattle.std.specs.List.{list_all}
use Rattle.al_typed.specs.declared.program.Aggregate.{Aggregate}
use Rattle.al_typed.specs.declared.ty.Ty.{Ty, Row_of-Ty, end_of-Ty, more_of-Ty, items-the_row-Ty, items_hidden-the_row-Ty-1}
use Rattle.al_typed.specs.declared.ty.Ty.TheVariants as ty
use Rattle.al_typed.specs.declared.ty.Ty.TheBlock.{hidden-the_row-Ty-0, hidden-the_row-Ty-1}
use denote.Hole.Carrier.{hidden}
use Rattle.al_typed.specs.Types.{is_void, is_whole}
use Rattle.al_typed.specs.WellTyped.{are_sound, is_sound}
use Rattle.al_sound_nodes.specs.Nodes.{is_passed}

pub sound-Pointer : (rows : List Aggregate) (x : Ty) → is_sound rows (ty.Pointer x) ≡ is_sound rows x
unfolding hidden-the_row-Ty-0 hidden
sound-Pointer rows x = refl

are_sound-items : (rows : List Aggregate) {m : _} (r : Row_of-Ty m) → are_sound rows r ≡ list_all (is_passed rows) (items-the_row-Ty m r)
are_sound-items rows end_of-Ty = refl
are_sound-items rows (more_of-Ty x r) = ap (λ b. is_passed rows x && b) (are_sound-items rows r)

pub sound-Function : (rows : List Aggregate) (x : Ty) (ts : List Ty)
    → is_sound rows (ty.Function x ts) ≡ (is_sound rows x && (is_void x || is_whole rows x) && list_all (is_passed rows) ts)
unfolding hidden-the_row-Ty-0 hidden
sound-Function rows x ts =
    ap (λ b. is_sound rows x && (is_void x || is_whole rows x) && b) (are_sound-items rows (hidden-the_row-Ty-1 ts) ∙ ap (list_all (is_passed rows)) (items_hidden-the_row-Ty-1 ts))
