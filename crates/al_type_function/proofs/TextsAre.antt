-- The numbers of string constants, from a place on.
use Rattle.std.proofs.Common.{◌≡◌, ℕ, suc, ◌+◌, ◌<◌, ◌≤◌, List, ◌∷◌, ◌++◌, length, get_or, drop, ap, ◌∙◌, sym, append_assoc, add_assoc, drop-cons, add-one}
use Rattle.std.proofs.lemmas.List.{drop_all, append-nil}
use Rattle.al_environment.specs.declared.numbered.Numbered.{Numbered}
use Rattle.al_body_parts.specs.declared.parts.WrittenText.{WrittenText}
use Rattle.al_type_stmt.specs.Iterators.{numbered_at}
use Rattle.al_type_function.specs.Texts.{numbered}

pub numbered-here : (from : ℕ) (ts : List WrittenText) (k : ℕ) (t : WrittenText) (d : List Numbered) → k < length ts → t ≡ get_or ts k t
    → d ++ numbered (from + k) (drop k ts) ≡ (d ++ numbered_at (from + k) t.at) ++ numbered (from + (k + 1)) (drop (k + 1) ts)
unfolding numbered
numbered-here from ts k t d h e =
    ap (λ l. d ++ numbered (from + k) l) (drop-cons ts k t h ∙ ap (λ y. y ∷ drop (suc k) ts) (sym e) ∙ ap (λ n. t ∷ drop n ts) (sym (add-one k)))
    ∙ ap (λ n. d ++ (numbered_at (from + k) t.at ++ numbered n (drop (k + 1) ts))) (add_assoc from k 1)
    ∙ sym (append_assoc d (numbered_at (from + k) t.at) (numbered (from + (k + 1)) (drop (k + 1) ts)))

pub numbered-end : (from : ℕ) (ts : List WrittenText) (k : ℕ) (d : List Numbered) → length ts ≤ k → d ++ numbered (from + k) (drop k ts) ≡ d
unfolding numbered
numbered-end from ts k d h = ap (λ l. d ++ numbered (from + k) l) (drop_all k ts h) ∙ append-nil d

pub ruleset numbered_are = (numbered-here, numbered-end)
