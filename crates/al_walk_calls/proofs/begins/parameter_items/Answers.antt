use Rattle.std.proofs.Common.{ap, map}
use Rattle.al_control.specs.Models.{item_of}
use Rattle.al_walk_calls.proofs.BegunFrames.{parameter_more, parameters_begun, parameters_over}
use Rattle.al_walk_calls.proofs.begins.parameter_items.Goals as goal

pub loop-i-init : goal.loop-i-init
loop-i-init c =
    parameters_begun c.args.p.now c.args.line c.args.parameters.now (map item_of c.new-items.result) c.args.words.now (ap (map item_of) c.new-items.ensures)

pub loop-i-preserved : goal.loop-i-preserved
loop-i-preserved c =
    parameter_more c.args.p.now c.as_slice-rows.result.now c.args.line c.loop-i.i c.args.parameters.now c.index-parameters-i.result (map item_of c.loop-i.items) _ _
    c.loop-i.rest.now c.behind-rest.result.now c.loop-i-test.true c.index-parameters-i.is c.as_slice-rows.ensures.value c.in_ok-put_parameter.ensures c.behind-rest.ensures
    c.loop-i.invariant

pub returns : goal.returns
returns c =
    parameters_over c.args.p.now c.args.line c.loop-i.i c.args.parameters.now (map item_of c.loop-i.items) _ c.loop-i.rest.now c.loop-i-test.false c.loop-i.invariant
