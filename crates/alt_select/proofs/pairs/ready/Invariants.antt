use Rattle.std.proofs.Common.{◌≡◌, ◌+◌, ◌≤◌, length, min, drop}
use Rattle.al_world.specs.Channels.{has_bad, pairs_from}
use Rattle.alt_select.proofs.pairs.ready.Given as goal

-- what was counted and what is left is all
abbrev pub invariant-loop-branch : goal.invariant-loop-branch
invariant-loop-branch l = record {
  most : l.count ≤ 65536;
  whole : min 65536 (l.count + length (pairs_from l.book.book l.branch-index (drop l.branch-index l.branches))) ≡ min 65536 (length (pairs_from l.book.book 0 l.branches));
  bad : has_bad l.book.book (drop l.branch-index l.branches) ≡ has_bad l.book.book l.branches;
}
