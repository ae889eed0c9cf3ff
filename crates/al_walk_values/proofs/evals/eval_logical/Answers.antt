use Rattle.al_control.specs.Models.{here_of}
use Rattle.al_walk_values.proofs.Evaluations.{sides-And, sides-Or}
use Rattle.al_walk_values.proofs.evals.eval_logical.Goals as goal

pub returns-in-And : goal.returns-in-And
returns-in-And c =
    sides-And c.with_sides.result c.args.ty.now c.args.op c.args.left.now c.args.right.now (here_of c.args.h) c.in-And.is c.with_sides.ensures

pub returns-in-Or : goal.returns-in-Or
returns-in-Or c =
    sides-Or c.with_sides-in-Or.result c.args.ty.now c.args.op c.args.left.now c.args.right.now (here_of c.args.h) c.in-Or.is c.with_sides-in-Or.ensures
