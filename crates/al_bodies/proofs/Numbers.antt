-- Lists that stand the last first.
use Rattle.std.proofs.Common.{◌≡◌, List, [], ◌∷◌, ◌++◌, reverse, ap, ◌∙◌}
use Rattle.std.proofs.lemmas.List.{reverse-append, reverse-reverse}

pub the-last : {A : Type 0} (all front : List A) (x : A) → all ≡ front ++ x ∷ [] → reverse all ≡ x ∷ reverse front
the-last all front x e = ap reverse e ∙ reverse-append front (x ∷ [])

pub none-left : {A : Type 0} (all : List A) → all ≡ [] → reverse all ≡ []
none-left all e = ap reverse e

pub ruleset the_last = (the-last, none-left, reverse-reverse)
