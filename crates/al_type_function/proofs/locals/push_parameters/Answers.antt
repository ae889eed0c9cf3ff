use Rattle.std.proofs.Common.{◌<◌, length, rules}
use Rattle.al_type_function.specs.Locals.{declared_parameter}
use Rattle.al_type_function.proofs.IndexedAre.{indexed-more}
use Rattle.al_type_function.proofs.locals.push_parameters.Goals as goal

pub loop-k-preserved : goal.loop-k-preserved
loop-k-preserved c =
    let within : c.loop-k.k < length c.args.parameters.now = search rules in
    indexed-more (declared_parameter c.args.list.now) c.args.parameters.now c.loop-k.k c.index-parameters-k.result c.in_ok-d.d _ c.loop-k.declared c.push.new.self within c.index-parameters-k.is c.in_ok-d.ensures c.in_ok-push.ensures.ok c.loop-k.invariant
