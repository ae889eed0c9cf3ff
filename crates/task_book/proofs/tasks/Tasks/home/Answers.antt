use Rattle.std.proofs.Common.{◌≡◌, ◌<◌, ◌∙◌, sym, ap, refl, slice_get, Some, length}
use Rattle.std.specs.Prelude.{is_some, slice_set}
use Rattle.std.specs.Vec.{with_items}
use Rattle.std.proofs.lemmas.List.{with_items_is}
use Rattle.task_book.specs.Procs.{proc_at}
use Rattle.task_book.specs.Lending.{with_hart, one_with}
use Rattle.task_book.proofs.Items.{item_index}
use Rattle.task_book.proofs.Views.{at_number}
use Rattle.task_book.proofs.Seen.{seen, same_table, privates_set, privates_seen}
use Rattle.task_book.proofs.Harts.{away_known, away_none, head_home, first_is, home_kept, procs_stay, length-with, seen-with, with_privates}
use Rattle.std.proofs.lemmas.Option.{same_Some}
use Rattle.task_book.proofs.tasks.Tasks.home.Goals as goal

pub place-at-requires-clause-known : goal.place-at-requires-clause-known
place-at-requires-clause-known c =
    let s = c.self.inside in
    let k = c.self.invariant.kept in
    rw c.deref.ensures.value (away_known s.links.items s.procs.items s.tasks.items s.free.items s.made s.ready k c.args.held.proc (rw (← c.self.view_is) at c.requires))

pub put_hart-requires : goal.put_hart-requires
put_hart-requires c =
    let s = c.self.inside in
    let k = c.self.invariant.kept in
    let there = rw c.deref.ensures.value at c.place-at.ensures.there in
    let is : slice_get s.procs.items c.place-at.result ≡ Some c.index.result.now = item_index s.procs.items c.place-at.result c.index.result.now (rw c.deref.ensures.value at c.place-at.ensures.within) c.index.ensures in
    let found : proc_at c.args.held.proc s.procs.items ≡ Some c.index.result.now = sym there ∙ is in
    let none = away_none s.links.items s.procs.items s.tasks.items s.free.items s.made s.ready k c.args.held.proc c.index.result.now found (rw (← c.self.view_is) at c.requires) in
    let some : 0 < c.index.result.now.ready.len = (k.good c.args.held.proc c.index.result.now found).away none in
    rw c.deref_mut.ensures.value (ap is_some (head_home s.links.items s.procs.items s.tasks.items s.free.items s.made s.ready k c.args.held.proc c.index.result.now found some))

pub invariant_of-self : goal.invariant_of-self
invariant_of-self c =
    let s = c.self.inside in
    let k = c.self.invariant.kept in
    let there = rw c.deref.ensures.value at c.place-at.ensures.there in
    let is : slice_get s.procs.items c.place-at.result ≡ Some c.index.result.now = item_index s.procs.items c.place-at.result c.index.result.now (rw c.deref.ensures.value at c.place-at.ensures.within) c.index.ensures in
    let found : proc_at c.args.held.proc s.procs.items ≡ Some c.index.result.now = sym there ∙ is in
    let none = away_none s.links.items s.procs.items s.tasks.items s.free.items s.made s.ready k c.args.held.proc c.index.result.now found (rw (← c.self.view_is) at c.requires) in
    let some : 0 < c.index.result.now.ready.len = (k.good c.args.held.proc c.index.result.now found).away none in
    let again : slice_get s.procs.items c.place-at.result ≡ Some c.index_mut.result.now = item_index s.procs.items c.place-at.result c.index_mut.result.now (rw c.deref.ensures.value at c.place-at.ensures.within) c.index_mut.ensures.value in
    let same : c.index.result.now ≡ c.index_mut.result.now = same_Some c.index.result.now c.index_mut.result.now (sym is ∙ again) in
    let tasks = c.put_hart.ensures ∙ ap (with_hart c.index.result.now.ready.head (Some c.args.held.hart)) c.deref_mut.ensures.value in
    let are : (with_items s.tasks c.put_hart.new.tasks).items ≡ with_hart c.index.result.now.ready.head (Some c.args.held.hart) s.tasks.items = with_items_is s.tasks c.put_hart.new.tasks (ap length tasks ∙ length-with c.index.result.now.ready.head (Some c.args.held.hart) s.tasks.items ∙ sym s.tasks.ok.0) ∙ tasks in
    let size : length (with_items s.tasks c.put_hart.new.tasks).items ≡ length s.tasks.items = ap length are ∙ length-with c.index.result.now.ready.head (Some c.args.held.hart) s.tasks.items in
    record {
      kept = rw (are, ← same) (home_kept s.links.items s.procs.items s.tasks.items s.free.items s.made s.ready k c.args.held.proc c.place-at.result c.index.result.now is found c.args.held.hart c.args.held.privates some);
      procs_room = rw size c.self.invariant.procs_room;
      free_room = rw size c.self.invariant.free_room;
    }

pub returns : goal.returns
returns c =
    let s = c.self.inside in
    let k = c.self.invariant.kept in
    let there = rw c.deref.ensures.value at c.place-at.ensures.there in
    let is : slice_get s.procs.items c.place-at.result ≡ Some c.index.result.now = item_index s.procs.items c.place-at.result c.index.result.now (rw c.deref.ensures.value at c.place-at.ensures.within) c.index.ensures in
    let found : proc_at c.args.held.proc s.procs.items ≡ Some c.index.result.now = sym there ∙ is in
    let none = away_none s.links.items s.procs.items s.tasks.items s.free.items s.made s.ready k c.args.held.proc c.index.result.now found (rw (← c.self.view_is) at c.requires) in
    let some : 0 < c.index.result.now.ready.len = (k.good c.args.held.proc c.index.result.now found).away none in
    let again : slice_get s.procs.items c.place-at.result ≡ Some c.index_mut.result.now = item_index s.procs.items c.place-at.result c.index_mut.result.now (rw c.deref.ensures.value at c.place-at.ensures.within) c.index_mut.ensures.value in
    let same : c.index.result.now ≡ c.index_mut.result.now = same_Some c.index.result.now c.index_mut.result.now (sym is ∙ again) in
    let tasks = c.put_hart.ensures ∙ ap (with_hart c.index.result.now.ready.head (Some c.args.held.hart)) c.deref_mut.ensures.value in
    let are : (with_items s.tasks c.put_hart.new.tasks).items ≡ with_hart c.index.result.now.ready.head (Some c.args.held.hart) s.tasks.items = with_items_is s.tasks c.put_hart.new.tasks (ap length tasks ∙ length-with c.index.result.now.ready.head (Some c.args.held.hart) s.tasks.items ∙ sym s.tasks.ok.0) ∙ tasks in
    let first_one = first_is s.links.items s.procs.items s.tasks.items s.free.items s.made s.ready k c.args.held.proc c.index.result.now found some in
    let number = at_number s.procs.items c.args.held.proc c.index.result.now found in
    rw (← c.self.view_is, are, ← same) (same_table _ _ _ _ _ _
    (procs_stay s.links.items s.procs.items s.tasks.items s.free.items s.made s.ready k c.place-at.result c.index.result.now is (Some c.args.held.privates))
    (seen-with c.index.result.now.ready.head (Some c.args.held.hart) s.tasks.items ∙ ap (λ o. one_with o (Some c.args.held.hart) (seen s.links.items s.procs.items s.tasks.items s.made).tasks) (sym first_one))
    (privates_set s.procs.items s.made c.place-at.result c.index.result.now (with_privates (Some c.args.held.privates) c.index.result.now) k.rising is refl ∙ ap (λ n. slice_set (privates_seen s.procs.items s.made) n (Some c.args.held.privates)) number))
