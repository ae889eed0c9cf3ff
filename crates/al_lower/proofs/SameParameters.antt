-- Types of parameters, from a place on.
use Rattle.std.proofs.Common.{◌≡◌, ℕ, ◌+◌, ◌<◌, List, ◌∷◌, drop, length, get_or, sym, ap, ap₂, ◌∙◌}
use Rattle.std.specs.Prelude.{true, false, ◌&&◌}
use Rattle.std.proofs.lemmas.List.{drop_more, drop_all, length-map}
use Rattle.al_typed.specs.declared.program.Local.{Local as LocalRow}
use Rattle.al_typed.specs.Typed.{local_types}
use Rattle.al_convert.specs.Same.{same, same_list}
use Rattle.al_convert.proofs.SameIs.{same_list-length}

from_place : (ls : List LocalRow) (i : ℕ) (l : LocalRow) → i < length ls → l ≡ get_or ls i l → local_types (drop i ls) ≡ l.ty ∷ local_types (drop (i + 1) ls)
from_place ls i l h is = ap local_types (drop_more ls i l h ∙ ap (λ x. x ∷ drop (i + 1) ls) (sym is))

pub types_from : (xs ys : List LocalRow) (i : ℕ) (x y : LocalRow) → i < length xs → i < length ys → x ≡ get_or xs i x → y ≡ get_or ys i y
    → same_list false (local_types (drop i xs)) (local_types (drop i ys)) ≡ (same false x.ty y.ty && same_list false (local_types (drop (i + 1) xs)) (local_types (drop (i + 1) ys)))
types_from xs ys i x y h k e d = ap₂ (same_list false) (from_place xs i x h e) (from_place ys i y k d)

pub types_length : (xs ys : List LocalRow) → same_list false (local_types xs) (local_types ys) ≡ true → length xs ≡ length ys
types_length xs ys e =
    sym (length-map xs (λ (l : LocalRow). l.ty)) ∙ same_list-length false (local_types xs) (local_types ys) e ∙ length-map ys (λ (l : LocalRow). l.ty)

pub ruleset parameters = (types_from, types_length, drop_all)
