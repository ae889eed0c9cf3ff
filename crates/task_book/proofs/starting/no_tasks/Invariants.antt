use Rattle.std.proofs.Common.{◌≡◌, None, replicate}
use Rattle.task_book.proofs.starting.no_tasks.Given as goal

abbrev pub invariant-loop : goal.invariant-loop
invariant-loop l = l.tasks.items ≡ replicate l.counter None
