use Rattle.rv_exec.specs.Seen.{words_of}
use Rattle.rv_exec.proofs.Reading.{words_next}
use Rattle.rv_exec.proofs.state.State.words_from.Goals as goal

pub loop-k-preserved : goal.loop-k-preserved
loop-k-preserved c =
    rw (c.in_ok-push.ensures.ok, c.word.ensures) (words_next (words_of c.args.self.now.stack.items) c.args.first c.args.count c.loop-k.k c.loop-k.words _ c.loop-k-test.true c.loop-k.invariant)
