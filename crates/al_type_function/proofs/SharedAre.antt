-- The types of shared locals, and how much room they take.
use Rattle.std.proofs.Common.{◌≡◌, ℕ, Bool, true, false, if◌then◌else◌, ◌+◌, ◌<◌, List, [], ◌∷◌, ◌++◌, map, length, get_or, take, refl, ap, ◌∙◌, sym, arith}
use Rattle.std.specs.Prelude.{nat_le, filter}
use Rattle.std.proofs.lemmas.Bool.Decides.{nat_tests}
use Rattle.std.proofs.lemmas.List.{take_more, map-append}
use Rattle.std.proofs.lemmas.List.Elements.{filter-append}
use Rattle.al_typed.specs.Capped.{capped}
use Rattle.al_typed.specs.declared.ty.Ty.{Ty}
use Rattle.al_typed.specs.declared.program.Local.{Local}
use Rattle.al_typed.specs.WellTyped.{shared_types}
use Rattle.al_type_function.specs.Locals.{shared_type}

abbrev ty_of : Local → Ty
ty_of l = l.ty

abbrev is_in : Local → Bool
is_in l = l.is_shared

one : (l : Local) → shared_types (l ∷ []) ≡ shared_type l
one l = elim l.is_shared as (λ b. map ty_of (if b then l ∷ [] else []) ≡ (if b then l.ty ∷ [] else [])) [ true ↦ refl | false ↦ refl ]

one_more : (ls : List Local) (l : Local) → shared_types (ls ++ l ∷ []) ≡ shared_types ls ++ shared_type l
one_more ls l =
    ap (map ty_of) (filter-append is_in ls (l ∷ [])) ∙ map-append ty_of (filter is_in ls) (filter is_in (l ∷ [])) ∙ ap (λ ts. shared_types ls ++ ts) (one l)

pub shared-more : (ls : List Local) (i : ℕ) (l : Local) → i < length ls → l ≡ get_or ls i l → shared_types (take (i + 1) ls) ≡ shared_types (take i ls) ++ shared_type l
shared-more ls i l h e =
    ap shared_types (take_more ls i l h) ∙ one_more (take i ls) (get_or ls i l) ∙ ap (λ m. shared_types (take i ls) ++ shared_type m) (sym e)

pub ruleset shared_are = (shared-more)

-- a size that counts as 2^64 - 1 where it is larger, against a limit far below
pub small_size : (size n : ℕ) → size ≡ capped n → nat_le size 268435456 ≡ nat_le n 268435456
small_size size n e = grind (arith, nat_tests)
