-- The numbers of string constants, from each of them on.
use Rattle.std.proofs.Common.{◌≡◌, ℕ, ◌+◌, ◌<◌, ◌≤◌, suc, List, ◌++◌, length, get_or, drop, ap, ◌∙◌, sym, drop-cons, add-one, append_assoc}
use Rattle.std.proofs.lemmas.List.{drop_all, append-nil}
use Rattle.al_environment.specs.declared.numbered.Numbered.{Numbered}
use Rattle.al_body_parts.specs.declared.parts.WrittenText.{WrittenText}
use Rattle.al_initial.specs.Whole.{numbered_text, numbered}

pub numbers-here :
    (texts : List WrittenText) (done : List Numbered) (n : ℕ) (t : WrittenText) → n < length texts → t ≡ get_or texts n t
    → done ++ numbered n (drop n texts) ≡ (done ++ numbered_text t.at n) ++ numbered (n + 1) (drop (n + 1) texts)
unfolding numbered
numbers-here texts done n t h e =
    ap (λ l. done ++ numbered n l) (drop-cons texts n t h)
    ∙ ap (λ (x : WrittenText). done ++ (numbered_text x.at n ++ numbered (n + 1) (drop (suc n) texts))) (sym e)
    ∙ ap (λ k. done ++ (numbered_text t.at n ++ numbered (n + 1) (drop k texts))) (sym (add-one n))
    ∙ sym (append_assoc done (numbered_text t.at n) (numbered (n + 1) (drop (n + 1) texts)))

pub numbers-end : (texts : List WrittenText) (done : List Numbered) (n : ℕ) → length texts ≤ n → done ++ numbered n (drop n texts) ≡ done
unfolding numbered
numbers-end texts done n h = ap (λ l. done ++ numbered n l) (drop_all n texts h) ∙ append-nil done

pub ruleset numbers_are = (numbers-here, numbers-end)
