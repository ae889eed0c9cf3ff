use Rattle.std.proofs.Common.{drop}
use Rattle.al_script_book.proofs.Channels.{held_becomes}
use Rattle.al_script_book.proofs.book.Book.without_oldest.Goals as goal

pub returns : goal.returns
returns c =
    held_becomes c.args.self _ c.args.chan (λ held. drop 1 held) _ c.with_held.ensures (c.in_ok-held.ensures)
