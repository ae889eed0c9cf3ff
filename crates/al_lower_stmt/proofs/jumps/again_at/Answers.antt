use Rattle.std.proofs.Common.{◌<◌, ◌-◌, sym, ap, ◌∙◌, arith}
use Rattle.al_lower_stmt.specs.declared.jumps.Again.TheVariants.{Turned, Onward}
use Rattle.al_lower_stmt.specs.Leading.{again_of}
use Rattle.al_lower_stmt.proofs.Noting.{read_alike, level_at, level_past, level_mapped}
use Rattle.al_lower_stmt.proofs.jumps.again_at.Goals as goal

pub returns-then-at-c : goal.returns-then-at-c
returns-then-at-c c =
    let some : 0 < c.args.levels = omega arith in
    ap again_of (read_alike c.args.c.again.now (c.args.levels - 1) (Turned 0 0) (Onward 0) c.if-at-c.true ∙ sym (level_at (Onward 0) c.args.levels c.args.c.again.now some))
    ∙ level_mapped again_of (Onward 0) c.args.levels c.args.c.again.now

pub returns-else-at-c : goal.returns-else-at-c
returns-else-at-c c =
    let some : 0 < c.args.levels = omega arith in
    ap again_of (level_past (Onward 0) c.args.levels c.args.c.again.now some c.if-at-c.false) ∙ level_mapped again_of (Onward 0) c.args.levels c.args.c.again.now
