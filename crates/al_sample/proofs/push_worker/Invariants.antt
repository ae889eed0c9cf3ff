use Rattle.std.proofs.Common.{◌≡◌, ◌+◌, ◌*◌, ◌++◌}
use Rattle.al_sample.specs.Sample.{joined, call}
use Rattle.al_sample.proofs.push_worker.Given as goal

abbrev pub invariant-loop-k : goal.invariant-loop-k
invariant-loop-k l = l.text.items ≡ l.initial.text.items ++ joined (λ k. call l.p (4 * k + l.p)) l.k
