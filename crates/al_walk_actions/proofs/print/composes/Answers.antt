use Rattle.std.proofs.Common.{map}
use Rattle.al_control.specs.Models.{argument_of, here_of, next_of}
use Rattle.al_walk_actions.proofs.Onward.{goes}
use Rattle.al_walk_actions.proofs.Verbs.{composes_past, composes_within}
use Rattle.al_walk_actions.proofs.print.composes.Goals as goal

pub returns-then-is_past : goal.returns-then-is_past
returns-then-is_past c =
    goes c.traps.result next_of _ _
    (composes_past (here_of c.args.h) c.args.pieces.now (map argument_of c.args.arguments) c.args.text c.args.more c.if-is_past.ensures) c.traps.ensures

pub returns : goal.returns
returns c =
    goes c.does.result next_of _ _
    (composes_within (here_of c.args.h) c.args.pieces.now (map argument_of c.args.arguments) c.args.text c.args.more _ c.if-is_past.ensures c.in_ok-append.ensures.ok)
    c.does.ensures
