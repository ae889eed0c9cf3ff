use Rattle.std.proofs.Common.{◌++◌, ◌∷◌, []}
use Rattle.al_world.specs.Channels.{Channel}
use Rattle.chan_book.proofs.One.{set_channel}
use Rattle.chan_book.proofs.channels.put.Goals as goal

pub returns : goal.returns
returns c = set_channel c.args.channels.now c.args.chan (λ (ch : Channel). record ch { held = ch.held ++ c.args.words ∷ [] }) c.requires.at c.index-channels-chan.result c.put.new.self c.requires.is c.put.ensures
