-- The number at a place, with one target more.
use Rattle.std.proofs.Common.{◌≡◌, ℕ, Bool, true, false, cond, List, [], ◌∷◌, ◌++◌, Option, Some, None, option_map, refl}
use Rattle.std.specs.List.{find}
use Rattle.al_base.specs.declared.place.Place.{Place}
use Rattle.al_rules.specs.Outcome.{same_place}
use Rattle.al_flow.specs.declared.target.Target.{Target}
use Rattle.al_flow.specs.Firsts.{first_given}
use Rattle.al_flow.specs.Targets.{number_at}

pub number_at-push : (list : List Target) (t : Target) (at : Place) → number_at (list ++ t ∷ []) at ≡ first_given (number_at list at) (same_place t.at at) t.number
unfolding number_at
number_at-push [] t at = elim (same_place t.at at) as (λ b. option_map (λ (t : Target). t.number) (cond b (Some t) None) ≡ first_given None b t.number) [ true ↦ refl | false ↦ refl ]
number_at-push (u ∷ list) t at =
    elim (same_place u.at at) as (λ b. option_map (λ (t : Target). t.number) (cond b (Some u) (find (λ (t : Target). same_place t.at at) (list ++ t ∷ [])))
    ≡ first_given (option_map (λ (t : Target). t.number) (cond b (Some u) (find (λ (t : Target). same_place t.at at) list))) (same_place t.at at) t.number)
    [ true ↦ refl | false ↦ number_at-push list t at ]

pub ruleset number_push = (number_at-push)
