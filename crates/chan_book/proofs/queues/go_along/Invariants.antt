use Rattle.std.proofs.Common.{◌≡◌, ◌-◌, ◌≤◌, ◌⊎◌, drop, true}
use Rattle.std.proofs.Common.{length}
use Rattle.chan_book.specs.Links.{until, has}
use Rattle.chan_book.specs.Book.{queue_in}
use Rattle.chan_book.proofs.Along.{from}
use Rattle.chan_book.proofs.queues.go_along.Given as goal

-- what is left of the queue begins where we are
abbrev pub invariant-loop-count : goal.invariant-loop-count
invariant-loop-count l = record {
  place : (l.node ≡ l.queues.root) ⊎ (has l.node l.queues.items ≡ true);
  rest : until l.queues.root (from l.queues l.node) ≡ drop l.count (queue_in l.queues l.queue);
  steps : l.count ≤ l.most;
  few : l.count ≤ length (queue_in l.queues l.queue);
  root : l.root ≡ l.queues.root;
}

abbrev pub decreases-loop-count : goal.decreases-loop-count
decreases-loop-count l = l.most - l.count
