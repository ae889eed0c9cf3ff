use Rattle.std.proofs.Common.{◌≡◌, ◌++◌}
use Rattle.al_sample.specs.Sample.{joined, worker_line}
use Rattle.al_sample.proofs.push_workers.Given as goal

abbrev pub invariant-loop-p : goal.invariant-loop-p
invariant-loop-p l = l.text.items ≡ l.initial.text.items ++ joined (worker_line l.calls) l.p
