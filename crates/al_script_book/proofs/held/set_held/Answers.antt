use Rattle.std.proofs.Common.{arith}
use Rattle.al_script_book.proofs.Channels.{channel_changes, channel_changes_nothing}
use Rattle.al_script_book.proofs.held.set_held.Goals as goal

pub returns-in-None : goal.returns-in-None
returns-in-None c = channel_changes_nothing c.args.chan _ _ (omega arith) c.in-None.ensures.value

pub returns-in-Some : goal.returns-in-Some
returns-in-Some c =
    channel_changes c.args.chan _ _ _ _ _ (omega arith) c.in-Some.ensures.value c.holding-channel.ensures c.set_at.ensures
