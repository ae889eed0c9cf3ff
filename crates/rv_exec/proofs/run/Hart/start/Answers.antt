use Rattle.std.proofs.Common.{◌≤◌, ◌^◌, length, rules}
use Rattle.rv_exec.proofs.Bounds.{entry_near}
use Rattle.rv_exec.proofs.run.Hart.start.Goals as goal

pub start-requires-clause-entry : goal.start-requires-clause-entry
start-requires-clause-entry c =
    let image = c.contents.result.now in
    let small : length image.code ≤ 2 ^ 23 = search rules in
    entry_near image c.args.function small c.contents.ensures.within
