use Rattle.al_control.specs.Models.{here_of, next_of}
use Rattle.al_walk_actions.proofs.Onward.{goes}
use Rattle.al_walk_actions.proofs.TypeForms.{block_freed, chan_freed}
use Rattle.al_walk_actions.proofs.allocations.gives_back.Goals as goal

pub returns-then-is_channel : goal.returns-then-is_channel
returns-then-is_channel c =
    goes c.frees_chan.result next_of _ _ (chan_freed c.args.ty.now c.args.value (here_of c.args.h) c.if-is_channel.ensures) c.frees_chan.ensures

pub returns-else-is_channel : goal.returns-else-is_channel
returns-else-is_channel c =
    goes c.frees_block.result next_of _ _ (block_freed c.args.ty.now c.args.value (here_of c.args.h) c.if-is_channel.ensures) c.frees_block.ensures
