-- What stands at places of their own.
use Rattle.std.proofs.Common.{◌≡◌, ℕ, suc, Bool, true, false, cond, List, [], ◌∷◌, ◌++◌, map, Option, Some, refl, ap, ◌∙◌, arith}
use Rattle.std.specs.Prelude.{◌==◌, ◌&&◌, All, ⊤, option_map}
use Rattle.std.specs.List.{find}
use Rattle.std.proofs.lemmas.Grind.{common_steps}
use Rattle.std.proofs.lemmas.List.Elements.{All-cons, All-head, All-nil, All-tail}
use Rattle.al_base.specs.declared.place.Place.{Place}
use Rattle.al_rules.specs.Outcome.{same_place}
use Rattle.al_flow.specs.declared.target.Target.{Target}
use Rattle.al_flow.specs.Targets.{number_at}
use Rattle.al_tree_places.specs.Apart.{AreApart}

-- no two of these stand at one place
abbrev pub StandApart : List Target → Type 0
StandApart [] = ⊤
StandApart (t ∷ ts) = All (λ (u : Target). same_place t.at u.at ≡ false) ts × StandApart ts

same_itself : (at : Place) → same_place at at ≡ true
same_itself at = on (at.line == at.line) (at.col == at.col) (same at.line) (same at.col)
  where
    same : (n : ℕ) → (n == n) ≡ true
    same n = grind (arith, common_steps)

    on : (a b : Bool) → a ≡ true → b ≡ true → (a && b) ≡ true
    on true true e h = refl
    on true false e h = absurd (cc)
    on false b e h = absurd (cc)

abbrev number_in : Option Target → Option ℕ
number_in o = option_map (λ (t : Target). t.number) o

-- the number of one of these by its place
pub number_is : (before after : List Target) (t : Target) → StandApart (before ++ t ∷ after) → number_at (before ++ t ∷ after) t.at ≡ Some t.number
unfolding number_at
number_is [] after t apart =
    ap (λ (b : Bool). number_in (cond b (Some t) (find (λ (u : Target). same_place u.at t.at) after))) (same_itself t.at)
number_is (u ∷ before) after t apart =
    ap (λ (b : Bool). number_in (cond b (Some u) (find (λ (v : Target). same_place v.at t.at) (before ++ t ∷ after)))) (differs before after apart.0)
    ∙ number_is before after t apart.1
  where
    differs : (before after : List Target) → All (λ (v : Target). same_place u.at v.at ≡ false) (before ++ t ∷ after) → same_place u.at t.at ≡ false
    differs [] after h = All-head (λ (v : Target). same_place u.at v.at ≡ false) t after h
    differs (v ∷ before) after h = differs before after (All-tail (λ (v : Target). same_place u.at v.at ≡ false) v (before ++ t ∷ after) h)

pairs_first : (x : Place) (xs : List Place) → AreApart (x ∷ xs) → All (λ (y : Place). same_place x y ≡ false) xs
pairs_first x xs h k d lt = h 0 (suc k) d (omega arith) (omega (arith, lt))

pairs_rest : (x : Place) (xs : List Place) → AreApart (x ∷ xs) → AreApart xs
pairs_rest x xs h i j d lt within = h (suc i) (suc j) d (omega (arith, lt)) (omega (arith, within))

-- targets at places that differ
pub stand_apart : (ts : List Target) → AreApart (map (λ (t : Target). t.at) ts) → StandApart ts
stand_apart [] h = tt
stand_apart (t ∷ ts) h = (firsts ts (pairs_first t.at (map (λ (u : Target). u.at) ts) h), stand_apart ts (pairs_rest t.at (map (λ (u : Target). u.at) ts) h))
  where
    firsts : (us : List Target) → All (λ (at : Place). same_place t.at at ≡ false) (map (λ (u : Target). u.at) us) → All (λ (u : Target). same_place t.at u.at ≡ false) us
    firsts [] k = All-nil (λ (u : Target). same_place t.at u.at ≡ false)
    firsts (u ∷ us) k =
        All-cons (λ (v : Target). same_place t.at v.at ≡ false) u us (All-head (λ (at : Place). same_place t.at at ≡ false) u.at (map (λ (v : Target). v.at) us) k)
        (firsts us (All-tail (λ (at : Place). same_place t.at at ≡ false) u.at (map (λ (v : Target). v.at) us) k))
