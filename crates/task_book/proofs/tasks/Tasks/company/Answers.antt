use Rattle.std.proofs.Common.{◌≡◌, ◌∙◌, sym, ap, slice_get, Some}
use Rattle.task_book.specs.Table.{live_of}
use Rattle.task_book.proofs.Items.{item_index}
use Rattle.task_book.proofs.Seen.{seen, lives_home, is_home, live_seen}
use Rattle.task_book.proofs.tasks.Tasks.company.Goals as goal

pub home-number-requires : goal.home-number-requires
home-number-requires c =
    let s = c.self.inside in
    rw c.deref.ensures.value (lives_home s.links.items s.procs.items s.tasks.items s.free.items s.made s.ready c.self.invariant.kept c.args.task (rw (← c.self.view_is) at c.requires))

pub place-at-requires-clause-known : goal.place-at-requires-clause-known
place-at-requires-clause-known c =
    rw c.deref-2.ensures.value (c.self.invariant.kept.known c.args.task c.home-number.result (rw c.deref.ensures.value at c.home-number.ensures))

pub returns-clause-live : goal.returns-clause-live
returns-clause-live c =
    let s = c.self.inside in
    let k = c.self.invariant.kept in
    let there = rw c.deref-2.ensures.value at c.place-at.ensures.there in
    let is : slice_get s.procs.items c.place-at.result ≡ Some c.index.result.now = item_index s.procs.items c.place-at.result c.index.result.now (rw c.deref-2.ensures.value at c.place-at.ensures.within) c.index.ensures in
    let home = is_home s.links.items s.procs.items s.tasks.items s.free.items s.made s.ready k c.args.task c.home-number.result c.place-at.result c.index.result.now (rw (← c.self.view_is) at c.requires) (rw c.deref.ensures.value at c.home-number.ensures) there is in
    rw (← c.self.view_is) (sym (ap (live_of (seen s.links.items s.procs.items s.tasks.items s.made)) (sym home.home ∙ home.number) ∙ live_seen s.links.items s.procs.items s.tasks.items s.free.items s.made s.ready k c.home-number.result c.index.result.now home.at_number))

pub returns-clause-some : goal.returns-clause-some
returns-clause-some c =
    let s = c.self.inside in
    let k = c.self.invariant.kept in
    let there = rw c.deref-2.ensures.value at c.place-at.ensures.there in
    let is : slice_get s.procs.items c.place-at.result ≡ Some c.index.result.now = item_index s.procs.items c.place-at.result c.index.result.now (rw c.deref-2.ensures.value at c.place-at.ensures.within) c.index.ensures in
    let home = is_home s.links.items s.procs.items s.tasks.items s.free.items s.made s.ready k c.args.task c.home-number.result c.place-at.result c.index.result.now (rw (← c.self.view_is) at c.requires) (rw c.deref.ensures.value at c.home-number.ensures) there is in
    (k.good c.home-number.result c.index.result.now home.at_number).some
