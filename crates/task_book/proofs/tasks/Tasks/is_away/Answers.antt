use Rattle.std.proofs.Common.{◌≡◌, ◌∙◌, sym, slice_get, Some}
use Rattle.task_book.proofs.Items.{item_index}
use Rattle.task_book.proofs.Turns.{away_seen, none_away, none_not}
use Rattle.task_book.proofs.tasks.Tasks.is_away.Goals as goal

pub returns-in-Some : goal.returns-in-Some
returns-in-Some c =
    let s = c.self.inside in
    let there = rw c.deref.ensures.value at c.in-Some.ensures.there in
    let is : slice_get s.procs.items c.in-Some.at ≡ Some c.index.result.now = item_index s.procs.items c.in-Some.at c.index.result.now (rw c.deref.ensures.value at c.in-Some.ensures.within) c.index.ensures in
    rw (← c.self.view_is) (none_not c.index.result.now.privates c.is_none.result c.is_none.ensures ∙ sym (away_seen s.links.items s.procs.items s.tasks.items s.free.items s.made s.ready c.self.invariant.kept c.args.proc c.index.result.now (sym there ∙ is)))

pub returns-in-None : goal.returns-in-None
returns-in-None c =
    let s = c.self.inside in
    rw (← c.self.view_is) (sym (none_away s.links.items s.procs.items s.tasks.items s.free.items s.made s.ready c.self.invariant.kept c.args.proc (rw c.deref.ensures.value at c.in-None.ensures.none)))
