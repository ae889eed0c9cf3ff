-- Values that are joined.
use Rattle.std.proofs.Common.{◌≡◌, ℕ, List, [], ◌∷◌, ◌++◌, sym, ap, ◌∙◌, append_assoc}
use Rattle.std.proofs.lemmas.List.{append-nil}
use Rattle.al_meaning.specs.Calls.{joined}

pub value_joined : (values more : List (List ℕ)) (words ws all : List ℕ) → values ≡ ws ∷ more → words ++ joined values ≡ all → (words ++ ws) ++ joined more ≡ all
value_joined values more words ws all e so_far = append_assoc words ws (joined more) ∙ ap (λ vs. words ++ joined vs) (sym e) ∙ so_far

pub all_joined : (values : List (List ℕ)) (words all : List ℕ) → values ≡ [] → words ++ joined values ≡ all → words ≡ all
all_joined values words all e so_far = sym (append-nil words) ∙ ap (λ vs. words ++ joined vs) (sym e) ∙ so_far
