use Rattle.al_control.specs.Models.{here_of}
use Rattle.al_walk_values.proofs.Evaluations.{moves-Forward, moves-CountFirst, moves-Back}
use Rattle.al_walk_values.proofs.evals.eval_moved.Goals as goal

pub returns-in-Forward : goal.returns-in-Forward
returns-in-Forward c =
    moves-Forward c.with_operands.result c.args.ty.now c.args.movement c.args.size c.args.pointer.now c.args.count.now (here_of c.args.h) c.in-Forward.is c.requires
    c.with_operands.ensures

pub returns-in-CountFirst : goal.returns-in-CountFirst
returns-in-CountFirst c =
    moves-CountFirst c.with_operands-in-CountFirst.result c.args.ty.now c.args.movement c.args.size c.args.pointer.now c.args.count.now (here_of c.args.h)
    c.in-CountFirst.is c.requires c.with_operands-in-CountFirst.ensures

pub returns-in-Back : goal.returns-in-Back
returns-in-Back c =
    moves-Back c.with_operands-in-Back.result c.args.ty.now c.args.movement c.args.size c.args.pointer.now c.args.count.now (here_of c.args.h) c.in-Back.is c.requires
    c.with_operands-in-Back.ensures
