use Rattle.std.proofs.Common.{map}
use Rattle.al_control.specs.Models.{argument_of, here_of, next_of}
use Rattle.al_walk_actions.proofs.Onward.{goes}
use Rattle.al_walk_actions.proofs.Scans.{scanned_more, scanned_past}
use Rattle.al_walk_actions.proofs.print.scans_on.Goals as goal

pub returns-then-not-has_room : goal.returns-then-not-has_room
returns-then-not-has_room c =
    goes c.traps.result next_of _ _
    (scanned_past c.args.byte c.args.at c.args.pieces.now (map argument_of c.args.arguments) c.args.text (here_of c.args.h) c.requires c.if-not-has_room.ensures)
    c.traps.ensures

pub returns : goal.returns
returns c =
    goes c.does.result next_of _ _
    (scanned_more c.args.byte c.args.at c.sum.result c.args.pieces.now (map argument_of c.args.arguments) c.args.text _ (here_of c.args.h) c.requires
    c.if-not-has_room.ensures c.sum.ensures c.in_ok-push.ensures.ok)
    c.does.ensures
