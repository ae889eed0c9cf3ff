use Rattle.std.proofs.Common.{arith}
use Rattle.alt_select.proofs.Counts.{count_all}
use Rattle.alt_select.proofs.pairs.ready.Goals as goal

pub returns-clause-count : goal.returns-clause-count
returns-clause-count c = let h = c.loop-branch.invariant in count_all c.args.book.now.book c.args.branches.now c.loop-branch.count c.loop-branch.branch-index (omega arith) h.most h.whole
