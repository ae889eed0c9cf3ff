use Rattle.std.proofs.Common.{◌≡◌, ◌∙◌, sym, ap, refl, slice_get, Some, None, length}
use Rattle.std.specs.Prelude.{slice_set}
use Rattle.std.specs.Vec.{with_items}
use Rattle.std.proofs.lemmas.List.{with_items_is}
use Rattle.task_book.specs.Procs.{proc_at}
use Rattle.task_book.specs.Lending.{with_hart, one_with}
use Rattle.task_book.proofs.Items.{item_index}
use Rattle.task_book.proofs.Views.{at_number}
use Rattle.task_book.proofs.Seen.{seen, same_table, privates_set, privates_seen, get_privates}
use Rattle.task_book.proofs.Harts.{runs_known, runs_first, head_hart, first_is, lent_kept, procs_stay, hart_seen, length-with, seen-with, with_privates}
use Rattle.std.proofs.lemmas.Option.{same_Some}
use Rattle.task_book.specs.declared.proc.Proc.{Proc}
use Rattle.task_book.proofs.tasks.Tasks.lend.Goals as goal

pub place-at-requires-clause-known : goal.place-at-requires-clause-known
place-at-requires-clause-known c =
    let s = c.self.inside in
    let k = c.self.invariant.kept in
    rw c.deref.ensures.value (runs_known s.links.items s.procs.items s.tasks.items s.free.items s.made s.ready k c.args.proc (rw (← c.self.view_is) at c.requires))

pub take_hart-hart-requires : goal.take_hart-hart-requires
take_hart-hart-requires c =
    let s = c.self.inside in
    let k = c.self.invariant.kept in
    let there = rw c.deref.ensures.value at c.place-at.ensures.there in
    let is : slice_get s.procs.items c.place-at.result ≡ Some c.index.result.now = item_index s.procs.items c.place-at.result c.index.result.now (rw c.deref.ensures.value at c.place-at.ensures.within) c.index.ensures in
    let found : proc_at c.args.proc s.procs.items ≡ Some c.index.result.now = sym there ∙ is in
    let runs = rw (← c.self.view_is) at c.requires in
    let first = runs_first s.links.items s.procs.items s.tasks.items s.free.items s.made s.ready k c.args.proc c.index.result.now found runs in
    rw c.deref_mut.ensures.value (head_hart s.links.items s.procs.items s.tasks.items s.free.items s.made s.ready k c.args.proc c.index.result.now found first.0 first.1)

pub unreachable-requires : goal.unreachable-requires
unreachable-requires c =
    let s = c.self.inside in
    let k = c.self.invariant.kept in
    let there = rw c.deref.ensures.value at c.place-at.ensures.there in
    let is : slice_get s.procs.items c.place-at.result ≡ Some c.index.result.now = item_index s.procs.items c.place-at.result c.index.result.now (rw c.deref.ensures.value at c.place-at.ensures.within) c.index.ensures in
    let found : proc_at c.args.proc s.procs.items ≡ Some c.index.result.now = sym there ∙ is in
    let runs = rw (← c.self.view_is) at c.requires in
    let first = runs_first s.links.items s.procs.items s.tasks.items s.free.items s.made s.ready k c.args.proc c.index.result.now found runs in
    let again : slice_get s.procs.items c.place-at.result ≡ Some c.index_mut.result.now = item_index s.procs.items c.place-at.result c.index_mut.result.now (rw c.deref.ensures.value at c.place-at.ensures.within) c.index_mut.ensures.value in
    let same : c.index.result.now ≡ c.index_mut.result.now = same_Some c.index.result.now c.index_mut.result.now (sym is ∙ again) in
    first.1 (ap (λ (r : Proc). r.privates) same ∙ sym c.in-None.ensures.value)

pub invariant_of-self : goal.invariant_of-self
invariant_of-self c =
    let s = c.self.inside in
    let k = c.self.invariant.kept in
    let there = rw c.deref.ensures.value at c.place-at.ensures.there in
    let is : slice_get s.procs.items c.place-at.result ≡ Some c.index.result.now = item_index s.procs.items c.place-at.result c.index.result.now (rw c.deref.ensures.value at c.place-at.ensures.within) c.index.ensures in
    let found : proc_at c.args.proc s.procs.items ≡ Some c.index.result.now = sym there ∙ is in
    let runs = rw (← c.self.view_is) at c.requires in
    let first = runs_first s.links.items s.procs.items s.tasks.items s.free.items s.made s.ready k c.args.proc c.index.result.now found runs in
    let again : slice_get s.procs.items c.place-at.result ≡ Some c.index_mut.result.now = item_index s.procs.items c.place-at.result c.index_mut.result.now (rw c.deref.ensures.value at c.place-at.ensures.within) c.index_mut.ensures.value in
    let same : c.index.result.now ≡ c.index_mut.result.now = same_Some c.index.result.now c.index_mut.result.now (sym is ∙ again) in
    let tasks = c.take_hart-hart.ensures.tasks ∙ ap (with_hart c.index.result.now.ready.head None) c.deref_mut.ensures.value in
    let are : (with_items s.tasks c.take_hart-hart.new.tasks).items ≡ with_hart c.index.result.now.ready.head None s.tasks.items = with_items_is s.tasks c.take_hart-hart.new.tasks (ap length tasks ∙ length-with c.index.result.now.ready.head None s.tasks.items ∙ sym s.tasks.ok.0) ∙ tasks in
    let size : length (with_items s.tasks c.take_hart-hart.new.tasks).items ≡ length s.tasks.items = ap length are ∙ length-with c.index.result.now.ready.head None s.tasks.items in
    record {
      kept = rw (are, c.take.ensures.after, ← same) (lent_kept s.links.items s.procs.items s.tasks.items s.free.items s.made s.ready k c.args.proc c.place-at.result c.index.result.now is found first.0 first.1);
      procs_room = rw size c.self.invariant.procs_room;
      free_room = rw size c.self.invariant.free_room;
    }

pub returns-clause-held : goal.returns-clause-held
returns-clause-held c =
    let s = c.self.inside in
    let k = c.self.invariant.kept in
    let there = rw c.deref.ensures.value at c.place-at.ensures.there in
    let is : slice_get s.procs.items c.place-at.result ≡ Some c.index.result.now = item_index s.procs.items c.place-at.result c.index.result.now (rw c.deref.ensures.value at c.place-at.ensures.within) c.index.ensures in
    let found : proc_at c.args.proc s.procs.items ≡ Some c.index.result.now = sym there ∙ is in
    let runs = rw (← c.self.view_is) at c.requires in
    let first = runs_first s.links.items s.procs.items s.tasks.items s.free.items s.made s.ready k c.args.proc c.index.result.now found runs in
    let again : slice_get s.procs.items c.place-at.result ≡ Some c.index_mut.result.now = item_index s.procs.items c.place-at.result c.index_mut.result.now (rw c.deref.ensures.value at c.place-at.ensures.within) c.index_mut.ensures.value in
    let same : c.index.result.now ≡ c.index_mut.result.now = same_Some c.index.result.now c.index_mut.result.now (sym is ∙ again) in
    let privates = get_privates s.links.items s.procs.items s.tasks.items s.free.items s.made s.ready k c.args.proc c.index.result.now found ∙ ap (λ (r : Proc). r.privates) same ∙ sym c.in-Some.ensures.value in
    let hart = hart_seen s.tasks.items c.index.result.now.ready.head ∙ (rw c.deref_mut.ensures.value at c.take_hart-hart.ensures.hart) in
    rw (← c.self.view_is, first_is s.links.items s.procs.items s.tasks.items s.free.items s.made s.ready k c.args.proc c.index.result.now found first.0, hart, privates) refl

pub returns-clause-away : goal.returns-clause-away
returns-clause-away c =
    let s = c.self.inside in
    let k = c.self.invariant.kept in
    let there = rw c.deref.ensures.value at c.place-at.ensures.there in
    let is : slice_get s.procs.items c.place-at.result ≡ Some c.index.result.now = item_index s.procs.items c.place-at.result c.index.result.now (rw c.deref.ensures.value at c.place-at.ensures.within) c.index.ensures in
    let found : proc_at c.args.proc s.procs.items ≡ Some c.index.result.now = sym there ∙ is in
    let runs = rw (← c.self.view_is) at c.requires in
    let first = runs_first s.links.items s.procs.items s.tasks.items s.free.items s.made s.ready k c.args.proc c.index.result.now found runs in
    let again : slice_get s.procs.items c.place-at.result ≡ Some c.index_mut.result.now = item_index s.procs.items c.place-at.result c.index_mut.result.now (rw c.deref.ensures.value at c.place-at.ensures.within) c.index_mut.ensures.value in
    let same : c.index.result.now ≡ c.index_mut.result.now = same_Some c.index.result.now c.index_mut.result.now (sym is ∙ again) in
    let tasks = c.take_hart-hart.ensures.tasks ∙ ap (with_hart c.index.result.now.ready.head None) c.deref_mut.ensures.value in
    let are : (with_items s.tasks c.take_hart-hart.new.tasks).items ≡ with_hart c.index.result.now.ready.head None s.tasks.items = with_items_is s.tasks c.take_hart-hart.new.tasks (ap length tasks ∙ length-with c.index.result.now.ready.head None s.tasks.items ∙ sym s.tasks.ok.0) ∙ tasks in
    let first_one = first_is s.links.items s.procs.items s.tasks.items s.free.items s.made s.ready k c.args.proc c.index.result.now found first.0 in
    let number = at_number s.procs.items c.args.proc c.index.result.now found in
    rw (← c.self.view_is, are, c.take.ensures.after, ← same) (same_table _ _ _ _ _ _
    (procs_stay s.links.items s.procs.items s.tasks.items s.free.items s.made s.ready k c.place-at.result c.index.result.now is None)
    (seen-with c.index.result.now.ready.head None s.tasks.items ∙ ap (λ o. one_with o None (seen s.links.items s.procs.items s.tasks.items s.made).tasks) (sym first_one))
    (privates_set s.procs.items s.made c.place-at.result c.index.result.now (with_privates None c.index.result.now) k.rising is refl ∙ ap (λ n. slice_set (privates_seen s.procs.items s.made) n None) number))
