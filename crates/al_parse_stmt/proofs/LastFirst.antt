-- The adts with parameters, the last first.
use Rattle.std.proofs.Common.{◌≡◌, ℕ, ◌+◌, ◌<◌, List, [], ◌∷◌, ◌++◌, length, take, get_or, refl, ap, ◌∙◌}
use Rattle.std.proofs.lemmas.List.{take_more}
use Rattle.al_tree.specs.Items.{parameters_of}
use Rattle.al_parse_stmt.specs.Begun.{owners}
use Rattle.al_parse_stmt.specs.Known.{parametrised, parameters_before, adts_of}
use Rattle.al_parse_stmt.specs.declared.known.AdtParameters.{AdtParameters}

pub last_first : (xs : List AdtParameters) (x : AdtParameters) → adts_of (xs ++ x ∷ []) ≡ parametrised x ∷ adts_of xs
last_first [] x = refl
last_first (y ∷ ys) x = ap (λ l. l ++ parametrised y ∷ []) (last_first ys x)

-- the parameters with those of one adt more in front
pub one_more : (xs : List AdtParameters) (i n : ℕ) (x : AdtParameters) → i < length xs → parameters_of (adts_of (take (i + 1) xs)) n ≡ parameters_before (get_or xs i x) n (parameters_of (adts_of (take i xs)) n)
one_more xs i n x h = ap (λ l. parameters_of (adts_of l) n) (take_more xs i x h) ∙ ap (λ l. parameters_of l n) (last_first (take i xs) (get_or xs i x))

-- the names with that of one adt more
pub one_owner : (xs : List AdtParameters) (i : ℕ) (x : AdtParameters) → i < length xs → owners (adts_of (take (i + 1) xs)) ≡ owners (adts_of (take i xs)) ++ (get_or xs i x).adt ∷ []
one_owner xs i x h = ap (λ l. owners (adts_of l)) (take_more xs i x h) ∙ ap owners (last_first (take i xs) (get_or xs i x))
