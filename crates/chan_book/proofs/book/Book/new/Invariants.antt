use Rattle.std.proofs.Common.{◌≡◌, ℕ, length, get_or, None}
use Rattle.chan_book.proofs.book.Book.new.Given as goal

abbrev pub invariant-loop : goal.invariant-loop
invariant-loop l = record {
  count : length l.talks.items ≡ l.counter;
  none : (t : ℕ) → get_or l.talks.items t None ≡ None;
}
