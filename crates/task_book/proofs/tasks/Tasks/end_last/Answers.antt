use Rattle.std.proofs.Common.{◌≡◌, ◌<◌, ◌∙◌, sym, ap, slice_get, Some, None, length, arith, ℕ, set}
use Rattle.std.specs.Prelude.{IsSome, option_and_then}
use Rattle.std.specs.Vec.{with_items}
use Rattle.std.proofs.lemmas.List.{with_items_is, map-set}
use Rattle.al_world.specs.Procs.{ProcState, loses_first, without_parent}
use Rattle.task_book.specs.declared.proc.Task.{Task}
use Rattle.task_book.specs.Homes.{homes_of, home_at}
use Rattle.task_book.specs.Starting.{without_branch_of}
use Rattle.task_book.specs.Kept.{procs_of, task_of, waits_on}
use Rattle.task_book.proofs.Items.{item_index}
use Rattle.task_book.proofs.Tables.{none_counts}
use Rattle.task_book.proofs.Good.{home_within}
use Rattle.task_book.proofs.Seen.{same_table, privates_seen, lives_home, is_home, first_has, live_seen}
use Rattle.task_book.proofs.Ready.{length-homes, own_good, own_state, ready_some}
use Rattle.task_book.proofs.Branches.{if_some, branch_some, length-left, seen-left}
use Rattle.task_book.proofs.Removed.{free_less, last_kept, ended_view, ended_privates, size}
use Rattle.task_book.proofs.tasks.Tasks.end_last.Goals as goal

pub home-number-requires : goal.home-number-requires
home-number-requires c =
    let s = c.self.inside in
    let k = c.self.invariant.kept in
    rw c.deref.ensures.value (lives_home s.links.items s.procs.items s.tasks.items s.free.items s.made s.ready k c.args.task (rw (← c.self.view_is) at c.requires.lives))

pub place-at-requires-clause-known : goal.place-at-requires-clause-known
place-at-requires-clause-known c =
    rw c.deref-2.ensures.value (c.self.invariant.kept.known c.args.task c.home-number.result (rw c.deref.ensures.value at c.home-number.ensures))

pub leave_parent-requires-clause-lives : goal.leave_parent-requires-clause-lives
leave_parent-requires-clause-lives c =
    let s = c.self.inside in
    let k = c.self.invariant.kept in
    let r = c.remove-proc.result in
    let there = rw c.deref-2.ensures.value at c.place-at.ensures.there in
    let is : slice_get s.procs.items c.place-at.result ≡ Some r = item_index s.procs.items c.place-at.result r (rw c.deref-2.ensures.value at c.place-at.ensures.within) c.remove-proc.ensures.value in
    let home = is_home s.links.items s.procs.items s.tasks.items s.free.items s.made s.ready k c.args.task c.home-number.result c.place-at.result r (rw (← c.self.view_is) at c.requires.lives) (rw c.deref.ensures.value at c.home-number.ensures) there is in
    rw c.deref_mut.ensures.value (if_some (λ u. IsSome (home_at (homes_of s.tasks.items) u)) r.parent (own_good s.links.items s.procs.items s.tasks.items s.free.items s.made s.ready c.place-at.result r k is).parent)

pub leave_parent-requires-clause-some : goal.leave_parent-requires-clause-some
leave_parent-requires-clause-some c =
    let s = c.self.inside in
    let k = c.self.invariant.kept in
    let r = c.remove-proc.result in
    let there = rw c.deref-2.ensures.value at c.place-at.ensures.there in
    let is : slice_get s.procs.items c.place-at.result ≡ Some r = item_index s.procs.items c.place-at.result r (rw c.deref-2.ensures.value at c.place-at.ensures.within) c.remove-proc.ensures.value in
    let home = is_home s.links.items s.procs.items s.tasks.items s.free.items s.made s.ready k c.args.task c.home-number.result c.place-at.result r (rw (← c.self.view_is) at c.requires.lives) (rw c.deref.ensures.value at c.home-number.ensures) there is in
    rw c.deref_mut.ensures.value (if_some (λ u. (x : Task) → slice_get s.tasks.items u ≡ Some (Some x) → 0 < x.branches) r.parent (λ u e x f. branch_some s.links.items s.procs.items s.tasks.items s.free.items s.made s.ready k u r.number r x f (own_state s.links.items s.procs.items s.tasks.items s.free.items s.made s.ready c.place-at.result r k is) e))

pub index_mut-requires : goal.index_mut-requires
index_mut-requires c =
    let s = c.self.inside in
    let k = c.self.invariant.kept in
    omega (arith, s.tasks.ok.0, length-homes s.tasks.items, home_within (homes_of s.tasks.items) c.args.task c.home-number.result (rw c.deref.ensures.value at c.home-number.ensures))

pub unreachable-requires : goal.unreachable-requires
unreachable-requires c =
    let s = c.self.inside in
    let k = c.self.invariant.kept in
    let r = c.remove-proc.result in
    let there = rw c.deref-2.ensures.value at c.place-at.ensures.there in
    let is : slice_get s.procs.items c.place-at.result ≡ Some r = item_index s.procs.items c.place-at.result r (rw c.deref-2.ensures.value at c.place-at.ensures.within) c.remove-proc.ensures.value in
    let home = is_home s.links.items s.procs.items s.tasks.items s.free.items s.made s.ready k c.args.task c.home-number.result c.place-at.result r (rw (← c.self.view_is) at c.requires.lives) (rw c.deref.ensures.value at c.home-number.ensures) there is in
    let first = first_has s.links.items s.procs.items s.tasks.items s.free.items s.made s.ready k c.args.task c.home-number.result c.place-at.result r home (rw (← c.self.view_is) at c.requires.first) in
    let alone = none_counts (waits_on c.args.task) (procs_of s.links.items s.procs.items s.made) (rw (← c.self.view_is) at c.requires.alone) in
    let last : r.live ≡ 1 = sym (live_seen s.links.items s.procs.items s.tasks.items s.free.items s.made s.ready k c.home-number.result r home.at_number) ∙ (rw (← c.self.view_is, ← home.home, home.number) at c.requires.last) in
    let at_home = home.at_home ∙ ap Some (sym home.number) in
    absurd (omega (arith, free_less s.links.items s.procs.items s.tasks.items s.free.items s.made s.ready c.place-at.result r c.args.task k is first.0 at_home last alone, s.free.ok.0, c.self.invariant.free_room, c.in-Err.ensures.full))

pub overflow_sub-self : goal.overflow_sub-self
overflow_sub-self c =
    let s = c.self.inside in
    let k = c.self.invariant.kept in
    let r = c.remove-proc.result in
    let there = rw c.deref-2.ensures.value at c.place-at.ensures.there in
    let is : slice_get s.procs.items c.place-at.result ≡ Some r = item_index s.procs.items c.place-at.result r (rw c.deref-2.ensures.value at c.place-at.ensures.within) c.remove-proc.ensures.value in
    let home = is_home s.links.items s.procs.items s.tasks.items s.free.items s.made s.ready k c.args.task c.home-number.result c.place-at.result r (rw (← c.self.view_is) at c.requires.lives) (rw c.deref.ensures.value at c.home-number.ensures) there is in
    let first = first_has s.links.items s.procs.items s.tasks.items s.free.items s.made s.ready k c.args.task c.home-number.result c.place-at.result r home (rw (← c.self.view_is) at c.requires.first) in
    let alone = none_counts (waits_on c.args.task) (procs_of s.links.items s.procs.items s.made) (rw (← c.self.view_is) at c.requires.alone) in
    let last : r.live ≡ 1 = sym (live_seen s.links.items s.procs.items s.tasks.items s.free.items s.made s.ready k c.home-number.result r home.at_number) ∙ (rw (← c.self.view_is, ← home.home, home.number) at c.requires.last) in
    let at_home = home.at_home ∙ ap Some (sym home.number) in
    ready_some s.links.items s.procs.items s.tasks.items s.free.items s.made s.ready c.place-at.result r k is first.0

pub invariant_of-self : goal.invariant_of-self
invariant_of-self c =
    let s = c.self.inside in
    let k = c.self.invariant.kept in
    let r = c.remove-proc.result in
    let there = rw c.deref-2.ensures.value at c.place-at.ensures.there in
    let is : slice_get s.procs.items c.place-at.result ≡ Some r = item_index s.procs.items c.place-at.result r (rw c.deref-2.ensures.value at c.place-at.ensures.within) c.remove-proc.ensures.value in
    let home = is_home s.links.items s.procs.items s.tasks.items s.free.items s.made s.ready k c.args.task c.home-number.result c.place-at.result r (rw (← c.self.view_is) at c.requires.lives) (rw c.deref.ensures.value at c.home-number.ensures) there is in
    let first = first_has s.links.items s.procs.items s.tasks.items s.free.items s.made s.ready k c.args.task c.home-number.result c.place-at.result r home (rw (← c.self.view_is) at c.requires.first) in
    let alone = none_counts (waits_on c.args.task) (procs_of s.links.items s.procs.items s.made) (rw (← c.self.view_is) at c.requires.alone) in
    let last : r.live ≡ 1 = sym (live_seen s.links.items s.procs.items s.tasks.items s.free.items s.made s.ready k c.home-number.result r home.at_number) ∙ (rw (← c.self.view_is, ← home.home, home.number) at c.requires.last) in
    let at_home = home.at_home ∙ ap Some (sym home.number) in
    let left = c.leave_parent.ensures ∙ ap (without_branch_of r.parent) c.deref_mut.ensures.value in
    let are : (with_items s.tasks c.leave_parent.new.tasks).items ≡ without_branch_of r.parent s.tasks.items = with_items_is s.tasks c.leave_parent.new.tasks (ap length left ∙ length-left r.parent s.tasks.items ∙ sym s.tasks.ok.0) ∙ left in
    let same : length (set (without_branch_of r.parent s.tasks.items) c.args.task None) ≡ length s.tasks.items = size s.links.items s.procs.items s.tasks.items s.free.items s.made s.ready c.place-at.result r c.args.task k is first.0 at_home last alone in
    record {
      kept = rw (are, c.remove-proc.ensures.items, c.in-Ok.ensures.items) (last_kept s.links.items s.procs.items s.tasks.items s.free.items s.made s.ready c.place-at.result r c.args.task k is first.0 at_home last alone);
      procs_room = rw (are, same, c.remove-proc.ensures.capacity) c.self.invariant.procs_room;
      free_room = rw are (omega (arith, same, c.in-Ok.ensures.capacity, c.self.invariant.free_room));
    }

pub returns-clause-parent : goal.returns-clause-parent
returns-clause-parent c =
    let s = c.self.inside in
    let k = c.self.invariant.kept in
    let r = c.remove-proc.result in
    let there = rw c.deref-2.ensures.value at c.place-at.ensures.there in
    let is : slice_get s.procs.items c.place-at.result ≡ Some r = item_index s.procs.items c.place-at.result r (rw c.deref-2.ensures.value at c.place-at.ensures.within) c.remove-proc.ensures.value in
    let home = is_home s.links.items s.procs.items s.tasks.items s.free.items s.made s.ready k c.args.task c.home-number.result c.place-at.result r (rw (← c.self.view_is) at c.requires.lives) (rw c.deref.ensures.value at c.home-number.ensures) there is in
    rw (← c.self.view_is, ← home.home) (sym (ap (option_and_then (λ (q : ProcState ℕ). q.parent)) (own_state s.links.items s.procs.items s.tasks.items s.free.items s.made s.ready c.place-at.result r k is)))

pub returns-clause-table : goal.returns-clause-table
returns-clause-table c =
    let s = c.self.inside in
    let k = c.self.invariant.kept in
    let r = c.remove-proc.result in
    let there = rw c.deref-2.ensures.value at c.place-at.ensures.there in
    let is : slice_get s.procs.items c.place-at.result ≡ Some r = item_index s.procs.items c.place-at.result r (rw c.deref-2.ensures.value at c.place-at.ensures.within) c.remove-proc.ensures.value in
    let home = is_home s.links.items s.procs.items s.tasks.items s.free.items s.made s.ready k c.args.task c.home-number.result c.place-at.result r (rw (← c.self.view_is) at c.requires.lives) (rw c.deref.ensures.value at c.home-number.ensures) there is in
    let first = first_has s.links.items s.procs.items s.tasks.items s.free.items s.made s.ready k c.args.task c.home-number.result c.place-at.result r home (rw (← c.self.view_is) at c.requires.first) in
    let alone = none_counts (waits_on c.args.task) (procs_of s.links.items s.procs.items s.made) (rw (← c.self.view_is) at c.requires.alone) in
    let last : r.live ≡ 1 = sym (live_seen s.links.items s.procs.items s.tasks.items s.free.items s.made s.ready k c.home-number.result r home.at_number) ∙ (rw (← c.self.view_is, ← home.home, home.number) at c.requires.last) in
    let at_home = home.at_home ∙ ap Some (sym home.number) in
    let left = c.leave_parent.ensures ∙ ap (without_branch_of r.parent) c.deref_mut.ensures.value in
    let are : (with_items s.tasks c.leave_parent.new.tasks).items ≡ without_branch_of r.parent s.tasks.items = with_items_is s.tasks c.leave_parent.new.tasks (ap length left ∙ length-left r.parent s.tasks.items ∙ sym s.tasks.ok.0) ∙ left in
    rw (← c.self.view_is, are, c.remove-proc.ensures.items) (same_table _ _ _ _ _ _
    (ended_view s.links.items s.procs.items s.tasks.items s.free.items s.made s.ready c.place-at.result r c.args.task k is first.0 at_home last alone ∙ ap (λ n. without_parent n (loses_first n (procs_of s.links.items s.procs.items s.made))) home.home)
    (map-set task_of (without_branch_of r.parent s.tasks.items) c.args.task None ∙ ap (λ ts. set ts c.args.task None) (seen-left r.parent s.tasks.items))
    (ended_privates s.links.items s.procs.items s.tasks.items s.free.items s.made s.ready c.place-at.result r c.args.task k is first.0 at_home last alone ∙ ap (λ n. set (privates_seen s.procs.items s.made) n None) home.home))
