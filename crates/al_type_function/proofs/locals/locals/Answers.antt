use Rattle.std.proofs.Common.{◌<◌, length, rules}
use Rattle.al_type_function.specs.Locals.{local}
use Rattle.al_type_function.proofs.IndexedAre.{indexed-more}
use Rattle.al_type_function.proofs.locals.locals.Goals as goal

pub loop-k-preserved : goal.loop-k-preserved
loop-k-preserved c =
    let within : c.loop-k.k < length c.args.declared.now = search rules in
    indexed-more (local c.args.names.now c.args.marks.now) c.args.declared.now c.loop-k.k c.index-declared-k.result c.in_ok-l.l _ c.loop-k.list c.push.new.self within c.index-declared-k.is c.in_ok-l.ensures c.in_ok-push.ensures.ok c.loop-k.invariant
