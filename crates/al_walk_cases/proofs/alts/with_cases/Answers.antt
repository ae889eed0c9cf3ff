use Rattle.std.proofs.Common.{◌-◌, arith}
use Rattle.al_control.specs.Models.{here_of}
use Rattle.al_walk_cases.proofs.PutCases.{case_before}
use Rattle.al_walk_cases.proofs.alts.with_cases.Goals as goal

pub loop-k-preserved : goal.loop-k-preserved
loop-k-preserved c =
    case_before c.args.body.now c.loop-k.k (c.loop-k.k - 1) c.index-body-k.result (here_of c.args.h) (here_of c.loop-k.h) (here_of c.in_ok-h.h)
    (omega arith) (omega arith) c.index-body-k.is c.loop-k.invariant c.in_ok-h.ensures
