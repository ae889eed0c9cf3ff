use Rattle.std.proofs.Common.{◌≡◌, ◌+◌, ◌<◌, ◌^◌, drop}
use Rattle.std.specs.List.{AllByRecursion}
use Rattle.al_event.specs.declared.act.Branch.{Branch}
use Rattle.chan_book.specs.Links.{IsRing}
use Rattle.chan_book.specs.Book.{CanEnter}
use Rattle.chan_book.proofs.Steps.{with_all}
use Rattle.chan_book.proofs.queues.enter.Given as goal

-- the rest put in is all put in
abbrev pub invariant-loop-number : goal.invariant-loop-number
invariant-loop-number l = record {
  ring : IsRing l.queues;
  root : l.root ≡ l.queues.root;
  size : l.queues.size < 2 ^ 64;
  free : CanEnter l.queues (l.node + l.number) (drop l.number l.branches);
  made : AllByRecursion (λ (b : Branch). 0 < b.chan) (drop l.number l.branches);
  whole : with_all l.queues (l.node + l.number) (drop l.number l.branches) ≡ with_all l.fn.queues l.node l.branches;
}
