use Rattle.std.proofs.Common.{◌≡◌, ◌+◌, ◌-◌}
use Rattle.chan_book.specs.Links.{IsRing}
use Rattle.chan_book.specs.Book.{CanLeave}
use Rattle.chan_book.proofs.Steps.{without_all}
use Rattle.chan_book.proofs.queues.leave.Given as goal

-- the rest taken out is all taken out
abbrev pub invariant-loop-gone : goal.invariant-loop-gone
invariant-loop-gone l = record {
  ring : IsRing l.queues;
  there : CanLeave l.queues l.gone (l.node + l.count - l.gone);
  whole : without_all l.queues l.gone (l.node + l.count - l.gone) ≡ without_all l.fn.queues l.node l.count;
}
