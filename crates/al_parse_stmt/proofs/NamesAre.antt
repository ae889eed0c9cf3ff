-- The names of tokens, one by one.
use Rattle.std.proofs.Common.{◌≡◌, ℕ, ◌+◌, ◌<◌, ◌≤◌, List, [], ◌∷◌, length, drop, get_or, sym, ap, ◌∙◌}
use Rattle.std.proofs.lemmas.List.{drop_more, drop_all}
use Rattle.al_lex.specs.declared.token.Token.{Token}
use Rattle.al_tree.specs.Leaves.{names_from}

-- one token more, and no more
pub names_step : (text : List ℕ) (names more : List (List ℕ)) (ts : List Token) (i : ℕ) (t : Token) → i < length ts → t ≡ get_or ts i t → more ≡ names_from text names (t ∷ [])
    → names_from text names (drop i ts) ≡ names_from text more (drop (i + 1) ts)
names_step text names more ts i t h e q =
    let front : drop i ts ≡ t ∷ drop (i + 1) ts = drop_more ts i t h ∙ ap (λ x. x ∷ drop (i + 1) ts) (sym e) in
    ap (names_from text names) front ∙ ap (λ l. names_from text l (drop (i + 1) ts)) (sym q)

pub names_none : (text : List ℕ) (names : List (List ℕ)) (ts : List Token) (i : ℕ) → length ts ≤ i → names_from text names (drop i ts) ≡ names
names_none text names ts i h = ap (names_from text names) (drop_all i ts h)
