-- One more name of a list.
use Rattle.std.proofs.Common.{◌≡◌, ℕ, List, [], ◌∷◌, ◌++◌, sym, ap, ◌∙◌, append_assoc}
use Rattle.al_link_lists.specs.Lists.{list_text, line_of, line_feed}

pub text_push : (names : List (List ℕ)) (name more : List ℕ) → list_text (names ++ name ∷ []) ++ more ≡ list_text names ++ (name ++ line_feed ∷ more)
text_push [] name more = simp append_assoc
text_push (x ∷ xs) name more =
    append_assoc (line_of x) (list_text (xs ++ name ∷ [])) more ∙ ap (λ v. line_of x ++ v) (text_push xs name more)
    ∙ sym (append_assoc (line_of x) (list_text xs) (name ++ line_feed ∷ more))
