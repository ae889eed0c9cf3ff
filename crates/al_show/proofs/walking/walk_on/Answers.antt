use Rattle.std.proofs.lemmas.Result.{err_from_is_err_and}
use Rattle.al_show.proofs.Walked.{at_element, walked_more, stops_along}
use Rattle.al_show.proofs.walking.walk_on.Goals as goal

pub loop-at-preserved : goal.loop-at-preserved
loop-at-preserved c =
    walked_more c.args.source c.loop-at.source c.args.entries.now c.loop-at.at _ c.loop-at.invariant c.loop-at-test.true
    (at_element c.args.entries.now c.loop-at.at _ c.loop-at-test.true) c.in_ok-source.source c.in_ok-source.ensures.goes

pub returns-in_err-source-clause-stop : goal.returns-in_err-source-clause-stop
returns-in_err-source-clause-stop c =
    let p = err_from_is_err_and c.from_residual.result c.from_residual.ensures.1 in
    rw (p.1, p.2)
    (stops_along c.args.source c.loop-at.source c.args.entries.now c.loop-at.at _ c.loop-at.invariant c.loop-at-test.true
    (at_element c.args.entries.now c.loop-at.at _ c.loop-at-test.true) _ c.in_err-source.ensures.stop)
