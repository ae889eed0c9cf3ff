use Rattle.al_world.specs.Channels.{without_values}
use Rattle.chan_book.proofs.One.{set_channel}
use Rattle.chan_book.proofs.channels.give_up.Goals as goal

pub returns : goal.returns
returns c = set_channel c.args.channels.now c.args.chan without_values c.requires.at c.index-channels-chan.result c.give_up.new.self c.requires.is c.give_up.ensures
