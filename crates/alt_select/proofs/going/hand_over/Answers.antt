use Rattle.alt_select.proofs.Goes.{blocked_of}
use Rattle.alt_select.proofs.going.hand_over.Goals as goal

pub withdraw-talk-requires : goal.withdraw-talk-requires
withdraw-talk-requires c = blocked_of c.args.book.now.book c.args.waiter c.requires.offer c.requires.of
