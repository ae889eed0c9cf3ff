-- What the name at a place stands for, with one name more.
use Rattle.std.proofs.Common.{◌≡◌, ℕ, Bool, true, false, cond, List, [], ◌∷◌, ◌++◌, Option, Some, None, option_map, refl}
use Rattle.std.specs.List.{find}
use Rattle.al_base.specs.declared.place.Place.{Place}
use Rattle.al_rules.specs.Outcome.{same_place}
use Rattle.al_scope.specs.declared.declaration.Declaration.{Declaration}
use Rattle.al_scope.specs.declared.declaration.Resolved.{Resolved}
use Rattle.al_scope.specs.Firsts.{first_given, declaration_at}

pub declaration_at-push : (list : List Resolved) (r : Resolved) (at : Place) → declaration_at (list ++ r ∷ []) at ≡ first_given (declaration_at list at) (same_place r.at at) r.declaration
unfolding declaration_at
declaration_at-push [] r at = elim (same_place r.at at) as (λ b. option_map (λ (r : Resolved). r.declaration) (cond b (Some r) None) ≡ first_given None b r.declaration) [ true ↦ refl | false ↦ refl ]
declaration_at-push (u ∷ list) r at =
    elim (same_place u.at at) as (λ b. option_map (λ (r : Resolved). r.declaration) (cond b (Some u) (find (λ (r : Resolved). same_place r.at at) (list ++ r ∷ [])))
    ≡ first_given (option_map (λ (r : Resolved). r.declaration) (cond b (Some u) (find (λ (r : Resolved). same_place r.at at) list))) (same_place r.at at) r.declaration)
    [ true ↦ refl | false ↦ declaration_at-push list r at ]

pub ruleset declaration_push = (declaration_at-push)
