use Rattle.std.proofs.Common.{◌≡◌, ◌<◌, length, drop, slice_get}
use Rattle.al_world.specs.Channels.{pairs_from}
use Rattle.alt_select.proofs.pairs.locate.Given as goal

-- the pair is this far in what is left
abbrev pub invariant-loop-number : goal.invariant-loop-number
invariant-loop-number l = record {
  within : l.place < length (pairs_from l.book.book l.number (drop l.number l.branches));
  small : l.place < 65536;
  pair : slice_get (pairs_from l.book.book l.number (drop l.number l.branches)) l.place ≡ slice_get (pairs_from l.book.book 0 l.branches) l.pick;
}
