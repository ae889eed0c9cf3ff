use Rattle.alt_select.proofs.Goes.{blocked_of, number_within}
use Rattle.alt_select.proofs.going.meet.Goals as goal

pub withdraw-talk-requires : goal.withdraw-talk-requires
withdraw-talk-requires c = blocked_of c.args.book.now.book c.args.waiter c.requires.offer c.requires.of

pub words_sent-requires : goal.words_sent-requires
words_sent-requires c = number_within c.args.book.now.book c.args.waiter c.withdraw-talk.result c.requires c.withdraw-talk.ensures.talk
