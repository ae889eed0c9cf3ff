use Rattle.std.proofs.Common.{◌≡◌, ◌+◌, ◌<◌, ◌^◌, ◌⊎◌, length, true}
use Rattle.chan_book.specs.Links.{has}
use Rattle.chan_book.specs.Book.{count_on}
use Rattle.chan_book.proofs.Along.{from}
use Rattle.chan_book.proofs.queues.count_on.Given as goal

-- what was counted and what is left is all
abbrev pub invariant-loop-task : goal.invariant-loop-task
invariant-loop-task l = record {
  root : l.root ≡ l.order.root;
  place : (l.task ≡ l.order.root) ⊎ (has l.task l.order.items ≡ true);
  whole : l.count + count_on l.chan l.talks (from l.order l.task) ≡ count_on l.chan l.talks l.order.items;
  bound : l.order.size < 2 ^ 64;
}

abbrev pub decreases-loop-task : goal.decreases-loop-task
decreases-loop-task l = length (from l.order l.task)
