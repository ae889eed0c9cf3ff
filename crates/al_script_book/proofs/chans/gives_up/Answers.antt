use Rattle.std.proofs.Common.{◌≡◌, ap, false, sym, rules}
use Rattle.al_world.specs.Channels.{Book}
use Rattle.al_world.specs.World.{TalkName}
use Rattle.al_script_book.proofs.Channels.{given_up}
use Rattle.al_script_book.proofs.chans.gives_up.Goals as goal

pub returns-clause-ok : goal.returns-clause-ok
returns-clause-ok c =
    let channels : c.book.inside.channels ≡ c.args.book.now.channels = ap (λ (b : Book TalkName). b.channels) c.book.view_is in
    let waiting : c.book.inside.waiting ≡ c.args.book.now.waiting = ap (λ (b : Book TalkName). b.waiting) c.book.view_is in
    let kept : c.in-Some.channel.now.given_up ≡ false = cc in
    given_up c.args.book.now c.args.chan c.in-Some.channel.now _ c.book.inside.channels _ c.book.inside.waiting channels waiting c.in-Some.ensures kept (sym c.if-is_waited_for.ensures) (search rules) c.replace.ensures
