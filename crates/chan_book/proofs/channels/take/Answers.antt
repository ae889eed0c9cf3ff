use Rattle.std.proofs.Common.{◌≡◌, ◌-◌, ◌∷◌, drop, get_or, ap, sym, ◌∙◌}
use Rattle.al_world.specs.Channels.{Channel, held_of, channel}
use Rattle.chan_book.proofs.One.{set_channel, read_channel}
use Rattle.chan_book.proofs.channels.take.Goals as goal

pub returns-clause-taken : goal.returns-clause-taken
returns-clause-taken c = set_channel c.args.channels.now c.args.chan (λ (ch : Channel). record ch { held = drop 1 ch.held }) c.requires.at c.index-channels-chan.result c.take.new.self c.requires.is c.take.ensures.rest

pub returns-clause-oldest : goal.returns-clause-oldest
returns-clause-oldest c =
    let x : Channel = get_or c.args.channels.now (c.args.chan - 1) c.index-channels-chan.result in
    let is : x ≡ c.requires.at = read_channel c.args.channels.now c.args.chan c.requires.at c.index-channels-chan.result c.requires.is in
    let all : held_of (channel c.args.channels.now c.args.chan) ≡ x.held = ap held_of c.requires.is ∙ ap (λ (ch : Channel). ch.held) (sym is) in
    let parts : x.held ≡ c.take.result ∷ drop 1 x.held = c.take.ensures.oldest ∙ ap (λ (ch : Channel). c.take.result ∷ ch.held) c.take.ensures.rest in
    all ∙ parts ∙ ap (λ l. c.take.result ∷ drop 1 l) (sym all)
