use Rattle.std.proofs.Common.{ℕ, List, [], ◌∷◌, ◌++◌, drop, ap, ◌∙◌}
use Rattle.al_script_book.proofs.Channels.{held_becomes}
use Rattle.al_script_book.proofs.book.Book.with_later.Goals as goal

pub returns : goal.returns
returns c =
    held_becomes c.args.self _ c.args.chan (λ held. drop 1 held ++ c.args.words ∷ []) _ c.with_held.ensures (c.in_ok-push.ensures.ok ∙ ap (λ (h : List (List ℕ)). h ++ c.args.words ∷ []) c.in_ok-held.ensures)
