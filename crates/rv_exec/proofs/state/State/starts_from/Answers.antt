use Rattle.std.proofs.Common.{◌≡◌, ◌+◌, ◌*◌, ◌∙◌, sym, arith}
use Rattle.rv_exec.specs.Calls.{start_at}
use Rattle.rv_exec.specs.Seen.{seen}
use Rattle.rv_exec.proofs.Reading.{record_next}
use Rattle.rv_exec.proofs.state.State.starts_from.Goals as goal

pub loop-k-preserved : goal.loop-k-preserved
loop-k-preserved c =
    let first = c.args.first in
    let k = c.loop-k.k in
    let next : first + 3 * (k + 1) ≡ first + 3 * k + 3 = omega arith in
    rw c.in_ok-push-in-Some.ensures.ok
    (record_next (start_at c.args.image.now (seen c.args.self.now)) 3 (first + 3 * k) c.args.count k c.loop-k.starts _ c.loop-k.invariant (first + 3 * (k + 1)) c.in-Some.start
    c.loop-k-test.true next (sym c.in_ok-start.ensures ∙ c.in-Some.is))
