use Rattle.std.proofs.Common.{◌≡◌, ◌<◌, ◌∙◌, sym, ap, refl, subst, slice_get, Some, None, length, arith, set}
use Rattle.std.proofs.lemmas.List.{length-set, map-set}
use Rattle.al_world.specs.Procs.{loses_first}
use Rattle.task_book.specs.Kept.{procs_of, task_of, waits_on}
use Rattle.task_book.proofs.Items.{item_index}
use Rattle.task_book.proofs.Tables.{none_counts}
use Rattle.task_book.proofs.Seen.{same_table, privates_stay, lives_home, is_home, first_has, not_away, live_seen}
use Rattle.task_book.proofs.Ready.{ready_some, head_within}
use Rattle.task_book.proofs.Starts.{ended_proc, ended_kept, ended_view, free_less}
use Rattle.task_book.proofs.tasks.Tasks.end_one.Goals as goal

pub home-number-requires : goal.home-number-requires
home-number-requires c =
    let s = c.self.inside in
    rw c.deref.ensures.value (lives_home s.links.items s.procs.items s.tasks.items s.free.items s.made s.ready c.self.invariant.kept c.args.task (rw (← c.self.view_is) at c.requires.lives))

pub place-at-requires-clause-known : goal.place-at-requires-clause-known
place-at-requires-clause-known c =
    rw c.deref-2.ensures.value (c.self.invariant.kept.known c.args.task c.home-number.result (rw c.deref.ensures.value at c.home-number.ensures))

pub pop-requires-clause-some : goal.pop-requires-clause-some
pop-requires-clause-some c =
    let s = c.self.inside in
    let k = c.self.invariant.kept in
    let r = c.index_mut-own.result.now in
    let there = rw c.deref-2.ensures.value at c.place-at.ensures.there in
    let is : slice_get s.procs.items c.place-at.result ≡ Some r = item_index s.procs.items c.place-at.result r (rw c.deref-2.ensures.value at c.place-at.ensures.within) c.index_mut-own.ensures.value in
    let home = is_home s.links.items s.procs.items s.tasks.items s.free.items s.made s.ready k c.args.task c.home-number.result c.place-at.result r (rw (← c.self.view_is) at c.requires.lives) (rw c.deref.ensures.value at c.home-number.ensures) there is in
    let first = first_has s.links.items s.procs.items s.tasks.items s.free.items s.made s.ready k c.args.task c.home-number.result c.place-at.result r home (rw (← c.self.view_is) at c.requires.first) in
    first.0

pub pop-requires-clause-within : goal.pop-requires-clause-within
pop-requires-clause-within c =
    let s = c.self.inside in
    let k = c.self.invariant.kept in
    let r = c.index_mut-own.result.now in
    let there = rw c.deref-2.ensures.value at c.place-at.ensures.there in
    let is : slice_get s.procs.items c.place-at.result ≡ Some r = item_index s.procs.items c.place-at.result r (rw c.deref-2.ensures.value at c.place-at.ensures.within) c.index_mut-own.ensures.value in
    let home = is_home s.links.items s.procs.items s.tasks.items s.free.items s.made s.ready k c.args.task c.home-number.result c.place-at.result r (rw (← c.self.view_is) at c.requires.lives) (rw c.deref.ensures.value at c.home-number.ensures) there is in
    let first = first_has s.links.items s.procs.items s.tasks.items s.free.items s.made s.ready k c.args.task c.home-number.result c.place-at.result r home (rw (← c.self.view_is) at c.requires.first) in
    rw c.deref-3.ensures.value (head_within s.links.items s.procs.items s.tasks.items s.free.items s.made s.ready c.place-at.result r k is first.0)

pub overflow_sub-own : goal.overflow_sub-own
overflow_sub-own c =
    let s = c.self.inside in
    let k = c.self.invariant.kept in
    let r = c.index_mut-own.result.now in
    let there = rw c.deref-2.ensures.value at c.place-at.ensures.there in
    let is : slice_get s.procs.items c.place-at.result ≡ Some r = item_index s.procs.items c.place-at.result r (rw c.deref-2.ensures.value at c.place-at.ensures.within) c.index_mut-own.ensures.value in
    let home = is_home s.links.items s.procs.items s.tasks.items s.free.items s.made s.ready k c.args.task c.home-number.result c.place-at.result r (rw (← c.self.view_is) at c.requires.lives) (rw c.deref.ensures.value at c.home-number.ensures) there is in
    let first = first_has s.links.items s.procs.items s.tasks.items s.free.items s.made s.ready k c.args.task c.home-number.result c.place-at.result r home (rw (← c.self.view_is) at c.requires.first) in
    let here = not_away s.links.items s.procs.items s.tasks.items s.free.items s.made s.ready k c.home-number.result r home.at_number (rw (← c.self.view_is, ← home.home, home.number) at c.requires.here) in
    let alone = none_counts (waits_on c.args.task) (procs_of s.links.items s.procs.items s.made) (rw (← c.self.view_is) at c.requires.alone) in
    let others : 1 < r.live = subst (λ n. 1 < n) (live_seen s.links.items s.procs.items s.tasks.items s.free.items s.made s.ready k c.home-number.result r home.at_number) (rw (← c.self.view_is, ← home.home, home.number) at c.requires.others) in
    let at_home = home.at_home ∙ ap Some (sym home.number) in
    omega (arith, others)

pub unreachable-requires : goal.unreachable-requires
unreachable-requires c =
    let s = c.self.inside in
    let k = c.self.invariant.kept in
    let r = c.index_mut-own.result.now in
    let there = rw c.deref-2.ensures.value at c.place-at.ensures.there in
    let is : slice_get s.procs.items c.place-at.result ≡ Some r = item_index s.procs.items c.place-at.result r (rw c.deref-2.ensures.value at c.place-at.ensures.within) c.index_mut-own.ensures.value in
    let home = is_home s.links.items s.procs.items s.tasks.items s.free.items s.made s.ready k c.args.task c.home-number.result c.place-at.result r (rw (← c.self.view_is) at c.requires.lives) (rw c.deref.ensures.value at c.home-number.ensures) there is in
    let first = first_has s.links.items s.procs.items s.tasks.items s.free.items s.made s.ready k c.args.task c.home-number.result c.place-at.result r home (rw (← c.self.view_is) at c.requires.first) in
    let here = not_away s.links.items s.procs.items s.tasks.items s.free.items s.made s.ready k c.home-number.result r home.at_number (rw (← c.self.view_is, ← home.home, home.number) at c.requires.here) in
    let alone = none_counts (waits_on c.args.task) (procs_of s.links.items s.procs.items s.made) (rw (← c.self.view_is) at c.requires.alone) in
    let others : 1 < r.live = subst (λ n. 1 < n) (live_seen s.links.items s.procs.items s.tasks.items s.free.items s.made s.ready k c.home-number.result r home.at_number) (rw (← c.self.view_is, ← home.home, home.number) at c.requires.others) in
    let at_home = home.at_home ∙ ap Some (sym home.number) in
    let less = free_less s.links.items s.procs.items s.tasks.items s.free.items s.made s.ready c.place-at.result r c.args.task k is first.1 first.0 at_home others here alone in
    absurd (omega (arith, less, s.free.ok.0, c.self.invariant.free_room, c.in-Err.ensures.full))

pub overflow_sub-self : goal.overflow_sub-self
overflow_sub-self c =
    let s = c.self.inside in
    let k = c.self.invariant.kept in
    let r = c.index_mut-own.result.now in
    let there = rw c.deref-2.ensures.value at c.place-at.ensures.there in
    let is : slice_get s.procs.items c.place-at.result ≡ Some r = item_index s.procs.items c.place-at.result r (rw c.deref-2.ensures.value at c.place-at.ensures.within) c.index_mut-own.ensures.value in
    let home = is_home s.links.items s.procs.items s.tasks.items s.free.items s.made s.ready k c.args.task c.home-number.result c.place-at.result r (rw (← c.self.view_is) at c.requires.lives) (rw c.deref.ensures.value at c.home-number.ensures) there is in
    let first = first_has s.links.items s.procs.items s.tasks.items s.free.items s.made s.ready k c.args.task c.home-number.result c.place-at.result r home (rw (← c.self.view_is) at c.requires.first) in
    ready_some s.links.items s.procs.items s.tasks.items s.free.items s.made s.ready c.place-at.result r k is first.0

pub invariant_of-self : goal.invariant_of-self
invariant_of-self c =
    let s = c.self.inside in
    let k = c.self.invariant.kept in
    let r = c.index_mut-own.result.now in
    let there = rw c.deref-2.ensures.value at c.place-at.ensures.there in
    let is : slice_get s.procs.items c.place-at.result ≡ Some r = item_index s.procs.items c.place-at.result r (rw c.deref-2.ensures.value at c.place-at.ensures.within) c.index_mut-own.ensures.value in
    let home = is_home s.links.items s.procs.items s.tasks.items s.free.items s.made s.ready k c.args.task c.home-number.result c.place-at.result r (rw (← c.self.view_is) at c.requires.lives) (rw c.deref.ensures.value at c.home-number.ensures) there is in
    let first = first_has s.links.items s.procs.items s.tasks.items s.free.items s.made s.ready k c.args.task c.home-number.result c.place-at.result r home (rw (← c.self.view_is) at c.requires.first) in
    let here = not_away s.links.items s.procs.items s.tasks.items s.free.items s.made s.ready k c.home-number.result r home.at_number (rw (← c.self.view_is, ← home.home, home.number) at c.requires.here) in
    let alone = none_counts (waits_on c.args.task) (procs_of s.links.items s.procs.items s.made) (rw (← c.self.view_is) at c.requires.alone) in
    let others : 1 < r.live = subst (λ n. 1 < n) (live_seen s.links.items s.procs.items s.tasks.items s.free.items s.made s.ready k c.home-number.result r home.at_number) (rw (← c.self.view_is, ← home.home, home.number) at c.requires.others) in
    let at_home = home.at_home ∙ ap Some (sym home.number) in
    let size : length (set s.tasks.items c.args.task None) ≡ length s.tasks.items = length-set s.tasks.items c.args.task None in
    record {
      kept = rw (c.pop.ensures, c.deref-3.ensures.value, c.in-Ok.ensures.items) (ended_kept s.links.items s.procs.items s.tasks.items s.free.items s.made s.ready c.place-at.result r c.args.task k is first.1 first.0 at_home others here alone);
      procs_room = rw size c.self.invariant.procs_room;
      free_room = omega (arith, size, c.in-Ok.ensures.capacity, c.self.invariant.free_room);
    }

pub returns : goal.returns
returns c =
    let s = c.self.inside in
    let k = c.self.invariant.kept in
    let r = c.index_mut-own.result.now in
    let there = rw c.deref-2.ensures.value at c.place-at.ensures.there in
    let is : slice_get s.procs.items c.place-at.result ≡ Some r = item_index s.procs.items c.place-at.result r (rw c.deref-2.ensures.value at c.place-at.ensures.within) c.index_mut-own.ensures.value in
    let home = is_home s.links.items s.procs.items s.tasks.items s.free.items s.made s.ready k c.args.task c.home-number.result c.place-at.result r (rw (← c.self.view_is) at c.requires.lives) (rw c.deref.ensures.value at c.home-number.ensures) there is in
    let first = first_has s.links.items s.procs.items s.tasks.items s.free.items s.made s.ready k c.args.task c.home-number.result c.place-at.result r home (rw (← c.self.view_is) at c.requires.first) in
    let here = not_away s.links.items s.procs.items s.tasks.items s.free.items s.made s.ready k c.home-number.result r home.at_number (rw (← c.self.view_is, ← home.home, home.number) at c.requires.here) in
    let alone = none_counts (waits_on c.args.task) (procs_of s.links.items s.procs.items s.made) (rw (← c.self.view_is) at c.requires.alone) in
    let others : 1 < r.live = subst (λ n. 1 < n) (live_seen s.links.items s.procs.items s.tasks.items s.free.items s.made s.ready k c.home-number.result r home.at_number) (rw (← c.self.view_is, ← home.home, home.number) at c.requires.others) in
    let at_home = home.at_home ∙ ap Some (sym home.number) in
    let number = ap (λ n. loses_first n (procs_of s.links.items s.procs.items s.made)) home.home in
    rw (← c.self.view_is, c.pop.ensures, c.deref-3.ensures.value) (same_table _ _ _ _ _ _
    (ended_view s.links.items s.procs.items s.tasks.items s.free.items s.made s.ready c.place-at.result r c.args.task k is first.1 first.0 at_home others here alone ∙ number)
    (map-set task_of s.tasks.items c.args.task None)
    (privates_stay s.procs.items s.made c.place-at.result r (ended_proc s.links.items r) k.rising is refl refl))
