use Rattle.alt_select.proofs.Picks.{talk_of}
use Rattle.alt_select.proofs.talk.block.Goals as goal

pub wait-requires-clause-talk : goal.wait-requires-clause-talk
wait-requires-clause-talk c = talk_of c.args.book.now.book c.args.branches c.requires.usable c.requires.some c.requires.few
