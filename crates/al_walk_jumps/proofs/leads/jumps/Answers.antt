use Rattle.std.proofs.Common.{map}
use Rattle.al_meaning.specs.Execute.{target_items}
use Rattle.al_control.specs.Models.{here_of, item_of}
use Rattle.al_walk_jumps.proofs.JumpTargets.{goes_there}
use Rattle.al_walk_jumps.proofs.leads.jumps.Goals as goal

pub returns : goal.returns
returns c =
    goes_there c.turns_to.result (here_of c.args.h) (map item_of c.in_ok-items.items) (target_items (here_of c.args.h) c.args.number) c.in_ok-items.ensures c.turns_to.ensures
