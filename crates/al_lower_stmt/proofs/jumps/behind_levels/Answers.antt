use Rattle.std.proofs.Common.{◌<◌, sym, arith}
use Rattle.al_lower_stmt.proofs.Noting.{level_at, level_past}
use Rattle.al_lower_stmt.proofs.jumps.behind_levels.Goals as goal

pub returns-then-at-c : goal.returns-then-at-c
returns-then-at-c c =
    let some : 0 < c.args.levels = omega arith in
    sym (level_at 0 c.args.levels c.args.c.behind.now some)

pub returns-else-at-c : goal.returns-else-at-c
returns-else-at-c c =
    let some : 0 < c.args.levels = omega arith in
    level_past 0 c.args.levels c.args.c.behind.now some c.if-at-c.false
