-- The number of what stands at a place, with one more.
use Rattle.std.proofs.Common.{◌≡◌, ℕ, Bool, true, false, cond, List, [], ◌∷◌, ◌++◌, Option, Some, None, option_map, refl}
use Rattle.std.specs.List.{find}
use Rattle.al_base.specs.declared.place.Place.{Place}
use Rattle.al_rules.specs.Outcome.{same_place}
use Rattle.al_environment.specs.declared.numbered.Numbered.{Numbered}
use Rattle.al_environment.specs.Firsts.{first_given, number_at}

pub number_at-push : (list : List Numbered) (r : Numbered) (at : Place) → number_at (list ++ r ∷ []) at ≡ first_given (number_at list at) (same_place r.at at) r.number
unfolding number_at
number_at-push [] r at = elim (same_place r.at at) as (λ b. option_map (λ (r : Numbered). r.number) (cond b (Some r) None) ≡ first_given None b r.number) [ true ↦ refl | false ↦ refl ]
number_at-push (u ∷ list) r at =
    elim (same_place u.at at) as (λ b. option_map (λ (r : Numbered). r.number) (cond b (Some u) (find (λ (r : Numbered). same_place r.at at) (list ++ r ∷ [])))
    ≡ first_given (option_map (λ (r : Numbered). r.number) (cond b (Some u) (find (λ (r : Numbered). same_place r.at at) list))) (same_place r.at at) r.number)
    [ true ↦ refl | false ↦ number_at-push list r at ]

pub ruleset number_push = (number_at-push)
