use Rattle.std.proofs.Common.{◌≡◌, ◌<◌, ◌∙◌, sym, ap, refl, slice_get, Some, arith, length}
use Rattle.task_book.specs.Queues.{has, pushed_links}
use Rattle.task_book.specs.Table.{ready_of}
use Rattle.task_book.proofs.Items.{item_index}
use Rattle.std.specs.Vec.{with_items}
use Rattle.std.proofs.lemmas.List.{with_items_is}
use Rattle.task_book.proofs.Queueing.{tail_within, length-pushed}
use Rattle.task_book.proofs.Seen.{seen, lives_home, is_home, ready_seen, same_table, privates_stay}
use Rattle.task_book.proofs.Ready.{pushed_proc, pushed_kept, pushed_view, own_good, ready_fits, len_fits}
use Rattle.task_book.proofs.tasks.Tasks.wake.Goals as goal

pub home-number-requires : goal.home-number-requires
home-number-requires c =
    let s = c.self.inside in
    rw c.deref.ensures.value (lives_home s.links.items s.procs.items s.tasks.items s.free.items s.made s.ready c.self.invariant.kept c.args.task (rw (← c.self.view_is) at c.requires.lives))

pub place-at-requires-clause-known : goal.place-at-requires-clause-known
place-at-requires-clause-known c =
    rw c.deref-2.ensures.value (c.self.invariant.kept.known c.args.task c.home-number.result (rw c.deref.ensures.value at c.home-number.ensures))

pub push-requires-clause-room : goal.push-requires-clause-room
push-requires-clause-room c =
    let s = c.self.inside in
    let k = c.self.invariant.kept in
    let there = rw c.deref-2.ensures.value at c.place-at.ensures.there in
    let is : slice_get s.procs.items c.place-at.result ≡ Some c.index_mut.result.now = item_index s.procs.items c.place-at.result c.index_mut.result.now (rw c.deref-2.ensures.value at c.place-at.ensures.within) c.index_mut.ensures.value in
    let home = is_home s.links.items s.procs.items s.tasks.items s.free.items s.made s.ready k c.args.task c.home-number.result c.place-at.result c.index_mut.result.now (rw (← c.self.view_is) at c.requires.lives) (rw c.deref.ensures.value at c.home-number.ensures) there is in
    let at_home = home.at_home ∙ ap Some (sym home.number) in
    let out = sym (ap (has c.args.task) (ap (ready_of (seen s.links.items s.procs.items s.tasks.items s.made)) (sym home.home ∙ home.number) ∙ ready_seen s.links.items s.procs.items s.tasks.items s.free.items s.made s.ready k c.home-number.result c.index_mut.result.now home.at_number)) ∙ (rw (← c.self.view_is) at c.requires.blocked) in
    omega (arith, k.small, len_fits s.links.items s.procs.items s.tasks.items s.free.items s.made s.ready c.place-at.result c.index_mut.result.now k is c.args.task at_home out)

pub push-requires-clause-within : goal.push-requires-clause-within
push-requires-clause-within c =
    let s = c.self.inside in
    let k = c.self.invariant.kept in
    let there = rw c.deref-2.ensures.value at c.place-at.ensures.there in
    let is : slice_get s.procs.items c.place-at.result ≡ Some c.index_mut.result.now = item_index s.procs.items c.place-at.result c.index_mut.result.now (rw c.deref-2.ensures.value at c.place-at.ensures.within) c.index_mut.ensures.value in
    let home = is_home s.links.items s.procs.items s.tasks.items s.free.items s.made s.ready k c.args.task c.home-number.result c.place-at.result c.index_mut.result.now (rw (← c.self.view_is) at c.requires.lives) (rw c.deref.ensures.value at c.home-number.ensures) there is in
    let at_home = home.at_home ∙ ap Some (sym home.number) in
    let out = sym (ap (has c.args.task) (ap (ready_of (seen s.links.items s.procs.items s.tasks.items s.made)) (sym home.home ∙ home.number) ∙ ready_seen s.links.items s.procs.items s.tasks.items s.free.items s.made s.ready k c.home-number.result c.index_mut.result.now home.at_number)) ∙ (rw (← c.self.view_is) at c.requires.blocked) in
    rw c.deref_mut.ensures.value (tail_within s.links.items c.index_mut.result.now.ready (own_good s.links.items s.procs.items s.tasks.items s.free.items s.made s.ready c.place-at.result c.index_mut.result.now k is).queue)

pub overflow_add-self : goal.overflow_add-self
overflow_add-self c =
    let s = c.self.inside in
    let k = c.self.invariant.kept in
    let there = rw c.deref-2.ensures.value at c.place-at.ensures.there in
    let is : slice_get s.procs.items c.place-at.result ≡ Some c.index_mut.result.now = item_index s.procs.items c.place-at.result c.index_mut.result.now (rw c.deref-2.ensures.value at c.place-at.ensures.within) c.index_mut.ensures.value in
    let home = is_home s.links.items s.procs.items s.tasks.items s.free.items s.made s.ready k c.args.task c.home-number.result c.place-at.result c.index_mut.result.now (rw (← c.self.view_is) at c.requires.lives) (rw c.deref.ensures.value at c.home-number.ensures) there is in
    let at_home = home.at_home ∙ ap Some (sym home.number) in
    let out = sym (ap (has c.args.task) (ap (ready_of (seen s.links.items s.procs.items s.tasks.items s.made)) (sym home.home ∙ home.number) ∙ ready_seen s.links.items s.procs.items s.tasks.items s.free.items s.made s.ready k c.home-number.result c.index_mut.result.now home.at_number)) ∙ (rw (← c.self.view_is) at c.requires.blocked) in
    let fits : s.ready < length s.tasks.items = ready_fits s.links.items s.procs.items s.tasks.items s.free.items s.made s.ready c.place-at.result c.index_mut.result.now k is c.args.task at_home out in
    let small : length s.tasks.items < 4294967296 = k.small in
    omega arith

pub invariant_of-self : goal.invariant_of-self
invariant_of-self c =
    let s = c.self.inside in
    let k = c.self.invariant.kept in
    let there = rw c.deref-2.ensures.value at c.place-at.ensures.there in
    let is : slice_get s.procs.items c.place-at.result ≡ Some c.index_mut.result.now = item_index s.procs.items c.place-at.result c.index_mut.result.now (rw c.deref-2.ensures.value at c.place-at.ensures.within) c.index_mut.ensures.value in
    let home = is_home s.links.items s.procs.items s.tasks.items s.free.items s.made s.ready k c.args.task c.home-number.result c.place-at.result c.index_mut.result.now (rw (← c.self.view_is) at c.requires.lives) (rw c.deref.ensures.value at c.home-number.ensures) there is in
    let at_home = home.at_home ∙ ap Some (sym home.number) in
    let out = sym (ap (has c.args.task) (ap (ready_of (seen s.links.items s.procs.items s.tasks.items s.made)) (sym home.home ∙ home.number) ∙ ready_seen s.links.items s.procs.items s.tasks.items s.free.items s.made s.ready k c.home-number.result c.index_mut.result.now home.at_number)) ∙ (rw (← c.self.view_is) at c.requires.blocked) in
    let links = c.push.ensures.links ∙ ap (λ xs. pushed_links c.index_mut.result.now.ready xs c.args.task) c.deref_mut.ensures.value in
    let are : (with_items s.links c.push.new.links).items ≡ pushed_links c.index_mut.result.now.ready s.links.items c.args.task = with_items_is s.links c.push.new.links (ap length links ∙ length-pushed s.links.items c.index_mut.result.now.ready c.args.task ∙ sym s.links.ok.0) ∙ links in
    record {
      kept = rw (are, c.push.ensures.queue) (pushed_kept s.links.items s.procs.items s.tasks.items s.free.items s.made s.ready c.place-at.result c.index_mut.result.now k is c.args.task at_home out);
      procs_room = c.self.invariant.procs_room;
      free_room = c.self.invariant.free_room;
    }

pub returns : goal.returns
returns c =
    let s = c.self.inside in
    let k = c.self.invariant.kept in
    let there = rw c.deref-2.ensures.value at c.place-at.ensures.there in
    let is : slice_get s.procs.items c.place-at.result ≡ Some c.index_mut.result.now = item_index s.procs.items c.place-at.result c.index_mut.result.now (rw c.deref-2.ensures.value at c.place-at.ensures.within) c.index_mut.ensures.value in
    let home = is_home s.links.items s.procs.items s.tasks.items s.free.items s.made s.ready k c.args.task c.home-number.result c.place-at.result c.index_mut.result.now (rw (← c.self.view_is) at c.requires.lives) (rw c.deref.ensures.value at c.home-number.ensures) there is in
    let at_home = home.at_home ∙ ap Some (sym home.number) in
    let out = sym (ap (has c.args.task) (ap (ready_of (seen s.links.items s.procs.items s.tasks.items s.made)) (sym home.home ∙ home.number) ∙ ready_seen s.links.items s.procs.items s.tasks.items s.free.items s.made s.ready k c.home-number.result c.index_mut.result.now home.at_number)) ∙ (rw (← c.self.view_is) at c.requires.blocked) in
    let links = c.push.ensures.links ∙ ap (λ xs. pushed_links c.index_mut.result.now.ready xs c.args.task) c.deref_mut.ensures.value in
    let are : (with_items s.links c.push.new.links).items ≡ pushed_links c.index_mut.result.now.ready s.links.items c.args.task = with_items_is s.links c.push.new.links (ap length links ∙ length-pushed s.links.items c.index_mut.result.now.ready c.args.task ∙ sym s.links.ok.0) ∙ links in
    rw (← c.self.view_is, ← home.home, are, c.push.ensures.queue) (same_table _ _ _ _ _ _
    (pushed_view s.links.items s.procs.items s.tasks.items s.free.items s.made s.ready c.place-at.result c.index_mut.result.now k is c.args.task at_home out)
    refl
    (privates_stay s.procs.items s.made c.place-at.result c.index_mut.result.now (pushed_proc c.index_mut.result.now c.args.task) k.rising is refl refl))
