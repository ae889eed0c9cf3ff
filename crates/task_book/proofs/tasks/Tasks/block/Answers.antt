use Rattle.std.proofs.Common.{◌≡◌, refl, slice_get, Some}
use Rattle.task_book.proofs.Items.{item_index}
use Rattle.task_book.proofs.Seen.{lives_home, is_home, first_has, not_away, same_table, privates_stay}
use Rattle.task_book.proofs.Ready.{popped_proc, popped_kept, popped_view, ready_some, head_within}
use Rattle.task_book.proofs.tasks.Tasks.block.Goals as goal

pub home-number-requires : goal.home-number-requires
home-number-requires c =
    let s = c.self.inside in
    rw c.deref.ensures.value (lives_home s.links.items s.procs.items s.tasks.items s.free.items s.made s.ready c.self.invariant.kept c.args.task (rw (← c.self.view_is) at c.requires.lives))

pub place-at-requires-clause-known : goal.place-at-requires-clause-known
place-at-requires-clause-known c =
    rw c.deref-2.ensures.value (c.self.invariant.kept.known c.args.task c.home-number.result (rw c.deref.ensures.value at c.home-number.ensures))

pub pop-requires-clause-some : goal.pop-requires-clause-some
pop-requires-clause-some c =
    let s = c.self.inside in
    let k = c.self.invariant.kept in
    let there = rw c.deref-2.ensures.value at c.place-at.ensures.there in
    let is : slice_get s.procs.items c.place-at.result ≡ Some c.index_mut.result.now = item_index s.procs.items c.place-at.result c.index_mut.result.now (rw c.deref-2.ensures.value at c.place-at.ensures.within) c.index_mut.ensures.value in
    let home = is_home s.links.items s.procs.items s.tasks.items s.free.items s.made s.ready k c.args.task c.home-number.result c.place-at.result c.index_mut.result.now (rw (← c.self.view_is) at c.requires.lives) (rw c.deref.ensures.value at c.home-number.ensures) there is in
    (first_has s.links.items s.procs.items s.tasks.items s.free.items s.made s.ready k c.args.task c.home-number.result c.place-at.result c.index_mut.result.now home (rw (← c.self.view_is) at c.requires.first)).0

pub pop-requires-clause-within : goal.pop-requires-clause-within
pop-requires-clause-within c =
    let s = c.self.inside in
    let k = c.self.invariant.kept in
    let there = rw c.deref-2.ensures.value at c.place-at.ensures.there in
    let is : slice_get s.procs.items c.place-at.result ≡ Some c.index_mut.result.now = item_index s.procs.items c.place-at.result c.index_mut.result.now (rw c.deref-2.ensures.value at c.place-at.ensures.within) c.index_mut.ensures.value in
    let home = is_home s.links.items s.procs.items s.tasks.items s.free.items s.made s.ready k c.args.task c.home-number.result c.place-at.result c.index_mut.result.now (rw (← c.self.view_is) at c.requires.lives) (rw c.deref.ensures.value at c.home-number.ensures) there is in
    let some = (first_has s.links.items s.procs.items s.tasks.items s.free.items s.made s.ready k c.args.task c.home-number.result c.place-at.result c.index_mut.result.now home (rw (← c.self.view_is) at c.requires.first)).0 in
    rw c.deref-3.ensures.value (head_within s.links.items s.procs.items s.tasks.items s.free.items s.made s.ready c.place-at.result c.index_mut.result.now k is some)

pub overflow_sub-self : goal.overflow_sub-self
overflow_sub-self c =
    let s = c.self.inside in
    let k = c.self.invariant.kept in
    let there = rw c.deref-2.ensures.value at c.place-at.ensures.there in
    let is : slice_get s.procs.items c.place-at.result ≡ Some c.index_mut.result.now = item_index s.procs.items c.place-at.result c.index_mut.result.now (rw c.deref-2.ensures.value at c.place-at.ensures.within) c.index_mut.ensures.value in
    let home = is_home s.links.items s.procs.items s.tasks.items s.free.items s.made s.ready k c.args.task c.home-number.result c.place-at.result c.index_mut.result.now (rw (← c.self.view_is) at c.requires.lives) (rw c.deref.ensures.value at c.home-number.ensures) there is in
    let some = (first_has s.links.items s.procs.items s.tasks.items s.free.items s.made s.ready k c.args.task c.home-number.result c.place-at.result c.index_mut.result.now home (rw (← c.self.view_is) at c.requires.first)).0 in
    ready_some s.links.items s.procs.items s.tasks.items s.free.items s.made s.ready c.place-at.result c.index_mut.result.now k is some

pub invariant_of-self : goal.invariant_of-self
invariant_of-self c =
    let s = c.self.inside in
    let k = c.self.invariant.kept in
    let there = rw c.deref-2.ensures.value at c.place-at.ensures.there in
    let is : slice_get s.procs.items c.place-at.result ≡ Some c.index_mut.result.now = item_index s.procs.items c.place-at.result c.index_mut.result.now (rw c.deref-2.ensures.value at c.place-at.ensures.within) c.index_mut.ensures.value in
    let home = is_home s.links.items s.procs.items s.tasks.items s.free.items s.made s.ready k c.args.task c.home-number.result c.place-at.result c.index_mut.result.now (rw (← c.self.view_is) at c.requires.lives) (rw c.deref.ensures.value at c.home-number.ensures) there is in
    let some = (first_has s.links.items s.procs.items s.tasks.items s.free.items s.made s.ready k c.args.task c.home-number.result c.place-at.result c.index_mut.result.now home (rw (← c.self.view_is) at c.requires.first)).0 in
    let here = rw (← c.self.view_is, ← home.home, home.number) at c.requires.here in
    record {
      kept = rw (c.pop.ensures, c.deref-3.ensures.value) (popped_kept s.links.items s.procs.items s.tasks.items s.free.items s.made s.ready c.place-at.result c.index_mut.result.now k is some (not_away s.links.items s.procs.items s.tasks.items s.free.items s.made s.ready k c.home-number.result c.index_mut.result.now home.at_number here));
      procs_room = c.self.invariant.procs_room;
      free_room = c.self.invariant.free_room;
    }

pub returns : goal.returns
returns c =
    let s = c.self.inside in
    let k = c.self.invariant.kept in
    let there = rw c.deref-2.ensures.value at c.place-at.ensures.there in
    let is : slice_get s.procs.items c.place-at.result ≡ Some c.index_mut.result.now = item_index s.procs.items c.place-at.result c.index_mut.result.now (rw c.deref-2.ensures.value at c.place-at.ensures.within) c.index_mut.ensures.value in
    let home = is_home s.links.items s.procs.items s.tasks.items s.free.items s.made s.ready k c.args.task c.home-number.result c.place-at.result c.index_mut.result.now (rw (← c.self.view_is) at c.requires.lives) (rw c.deref.ensures.value at c.home-number.ensures) there is in
    let some = (first_has s.links.items s.procs.items s.tasks.items s.free.items s.made s.ready k c.args.task c.home-number.result c.place-at.result c.index_mut.result.now home (rw (← c.self.view_is) at c.requires.first)).0 in
    rw (← c.self.view_is, ← home.home, c.pop.ensures, c.deref-3.ensures.value) (same_table _ _ _ _ _ _
    (popped_view s.links.items s.procs.items s.tasks.items s.free.items s.made s.ready c.place-at.result c.index_mut.result.now k is some)
    refl
    (privates_stay s.procs.items s.made c.place-at.result c.index_mut.result.now (popped_proc s.links.items c.index_mut.result.now) k.rising is refl refl))
