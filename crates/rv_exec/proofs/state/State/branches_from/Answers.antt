use Rattle.std.proofs.Common.{◌≡◌, ◌+◌, ◌*◌, ◌∙◌, sym, arith}
use Rattle.std.proofs.lemmas.Grind.{common_steps}
use Rattle.rv_exec.specs.Calls.{branch_at}
use Rattle.rv_exec.specs.Seen.{seen}
use Rattle.rv_exec.proofs.Reading.{record_next}
use Rattle.rv_exec.proofs.state.State.branches_from.Goals as goal

pub loop-k-preserved : goal.loop-k-preserved
loop-k-preserved c =
    let first = c.args.first in
    let k = c.loop-k.k in
    let next : first + 4 * (k + 1) ≡ first + 4 * k + 4 = omega arith in
    let read = record_next (branch_at (seen c.args.self.now)) 4 (first + 4 * k) c.args.count k c.loop-k.branches _ c.loop-k.invariant.read (first + 4 * (k + 1)) c.in-Some.branch
    c.loop-k-test.true next (sym c.in_ok-branch.ensures ∙ c.in-Some.is) in
    record {
      read = rw c.in_ok-push-in-Some.ensures.ok read;
      count = grind (arith, common_steps, c.in_ok-push-in-Some.ensures.ok, c.loop-k.invariant.count);
    }
