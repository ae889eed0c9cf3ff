use Rattle.al_walk_calls.proofs.BegunFrames.{local_more, locals_begun, locals_over}
use Rattle.al_walk_calls.proofs.begins.begun_locals.Goals as goal

pub loop-i-init : goal.loop-i-init
loop-i-init c = locals_begun c.args.p.now c.args.parameters c.args.locals.now c.in_ok-begun.begun c.args.words.now c.in_ok-begun.ensures

pub loop-i-preserved : goal.loop-i-preserved
loop-i-preserved c =
    local_more c.args.p.now c.as_slice-rows.result.now c.args.parameters c.loop-i.i c.args.locals.now c.index-locals-i.result c.loop-i.begun _ _ c.loop-i.rest.now
    c.behind-rest.result.now c.in_ok-own.own c.loop-i-test.true c.index-locals-i.is c.as_slice-rows.ensures.value c.in_ok-own.ensures c.in_ok-push.ensures.ok
    c.behind-rest.ensures c.loop-i.invariant

pub returns : goal.returns
returns c = locals_over c.args.p.now c.args.parameters c.loop-i.i c.args.locals.now c.loop-i.begun _ c.loop-i.rest.now c.loop-i-test.false c.loop-i.invariant
