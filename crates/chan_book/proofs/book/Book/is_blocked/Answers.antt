use Rattle.std.proofs.Common.{length, List, Option, None, get_or, is_some, ap, ◌∙◌}
use Rattle.al_event.specs.declared.act.Branch.{Branch}
use Rattle.chan_book.specs.Book.{Bounded, is_blocked}
use Rattle.chan_book.proofs.Kept.{blocked_is}
use Rattle.chan_book.proofs.book.Book.is_blocked.Goals as goal

pub returns : goal.returns
returns c =
    let i = c.self.inside in
    c.is_some_at.ensures ∙ ap (λ (l : List (Option (List Branch))). is_some (get_or l c.args.task None)) c.deref.ensures.value ∙ blocked_is (length i.talks.items) i.channels.items i.talks.items i.order i.queues c.self.invariant c.args.task ∙ ap (λ (v : Bounded). is_blocked v.book c.args.task) c.self.view_is
