use Rattle.std.proofs.Common.{◌≡◌, ◌<◌, ◌∙◌, sym, ap, refl, subst, slice_get, Some, None, length, arith, ◌++◌, ◌∷◌, [], set}
use Rattle.std.specs.Vec.{with_items}
use Rattle.std.proofs.lemmas.List.{with_items_is, length-set, map-set}
use Rattle.std.proofs.lemmas.Option.{slice_get_within}
use Rattle.al_world.specs.Procs.{starts_in_proc}
use Rattle.task_book.specs.Queues.{pushed_links}
use Rattle.task_book.specs.Kept.{IsKept, procs_of, task_of}
use Rattle.task_book.proofs.Items.{item_index}
use Rattle.task_book.proofs.Queueing.{tail_within, length-pushed}
use Rattle.task_book.proofs.Views.{at_number}
use Rattle.task_book.proofs.Seen.{same_table, privates_stay, live_known}
use Rattle.task_book.proofs.Ready.{own_good}
use Rattle.task_book.proofs.Starts.{seen_none, all_front, started_proc, new_task, started_kept, started_view, started_len, started_sum}
use Rattle.task_book.proofs.tasks.Tasks.start_task.Goals as goal

pub place-at-requires-clause-known : goal.place-at-requires-clause-known
place-at-requires-clause-known c =
    let s = c.self.inside in
    rw c.deref.ensures.value (live_known s.links.items s.procs.items s.tasks.items s.free.items s.made s.ready c.self.invariant.kept c.args.proc (rw (← c.self.view_is) at c.requires))

pub index_mut-requires : goal.index_mut-requires
index_mut-requires c =
    let s = c.self.inside in
    let free = c.in-Some.ensures.items in
    let k : IsKept s.links.items s.procs.items s.tasks.items (c.pop.new.self.items ++ c.in-Some.slot ∷ []) s.made s.ready = subst (λ f. IsKept s.links.items s.procs.items s.tasks.items f s.made s.ready) free c.self.invariant.kept in
    let there : slice_get s.tasks.items c.in-Some.slot ≡ Some None = (all_front (λ u. slice_get s.tasks.items u ≡ Some None) c.pop.new.self.items c.in-Some.slot k.unused).1 in
    omega (arith, s.tasks.ok.0, slice_get_within s.tasks.items c.in-Some.slot None there)

pub push-requires-clause-room : goal.push-requires-clause-room
push-requires-clause-room c =
    let s = c.self.inside in
    let free = c.in-Some.ensures.items in
    let k : IsKept s.links.items s.procs.items s.tasks.items (c.pop.new.self.items ++ c.in-Some.slot ∷ []) s.made s.ready = subst (λ f. IsKept s.links.items s.procs.items s.tasks.items f s.made s.ready) free c.self.invariant.kept in
    let there = rw c.deref.ensures.value at c.place-at.ensures.there in
    let r = c.index_mut-own.result.now in
    let is : slice_get s.procs.items c.place-at.result ≡ Some r = item_index s.procs.items c.place-at.result r (rw c.deref.ensures.value at c.place-at.ensures.within) c.index_mut-own.ensures.value in
    let number : r.number ≡ c.args.proc = at_number s.procs.items c.args.proc r (sym there ∙ is) in
    omega (arith, k.small, started_len s.links.items s.procs.items s.tasks.items c.pop.new.self.items s.made s.ready c.place-at.result r c.in-Some.slot c.args.hart k is)

pub push-requires-clause-within : goal.push-requires-clause-within
push-requires-clause-within c =
    let s = c.self.inside in
    let free = c.in-Some.ensures.items in
    let k : IsKept s.links.items s.procs.items s.tasks.items (c.pop.new.self.items ++ c.in-Some.slot ∷ []) s.made s.ready = subst (λ f. IsKept s.links.items s.procs.items s.tasks.items f s.made s.ready) free c.self.invariant.kept in
    let there = rw c.deref.ensures.value at c.place-at.ensures.there in
    let r = c.index_mut-own.result.now in
    let is : slice_get s.procs.items c.place-at.result ≡ Some r = item_index s.procs.items c.place-at.result r (rw c.deref.ensures.value at c.place-at.ensures.within) c.index_mut-own.ensures.value in
    let number : r.number ≡ c.args.proc = at_number s.procs.items c.args.proc r (sym there ∙ is) in
    rw c.deref_mut.ensures.value (tail_within s.links.items r.ready (own_good s.links.items s.procs.items s.tasks.items (c.pop.new.self.items ++ c.in-Some.slot ∷ []) s.made s.ready c.place-at.result r k is).queue)

pub overflow_add-self : goal.overflow_add-self
overflow_add-self c =
    let s = c.self.inside in
    let free = c.in-Some.ensures.items in
    let k : IsKept s.links.items s.procs.items s.tasks.items (c.pop.new.self.items ++ c.in-Some.slot ∷ []) s.made s.ready = subst (λ f. IsKept s.links.items s.procs.items s.tasks.items f s.made s.ready) free c.self.invariant.kept in
    let there = rw c.deref.ensures.value at c.place-at.ensures.there in
    let r = c.index_mut-own.result.now in
    let is : slice_get s.procs.items c.place-at.result ≡ Some r = item_index s.procs.items c.place-at.result r (rw c.deref.ensures.value at c.place-at.ensures.within) c.index_mut-own.ensures.value in
    let number : r.number ≡ c.args.proc = at_number s.procs.items c.args.proc r (sym there ∙ is) in
    let fits : s.ready < length s.tasks.items = started_sum s.links.items s.procs.items s.tasks.items c.pop.new.self.items s.made s.ready c.place-at.result r c.in-Some.slot c.args.hart k is in
    let small : length s.tasks.items < 4294967296 = k.small in
    omega arith

pub invariant_of-self-2 : goal.invariant_of-self-2
invariant_of-self-2 c =
    let s = c.self.inside in
    let free = c.in-Some.ensures.items in
    let k : IsKept s.links.items s.procs.items s.tasks.items (c.pop.new.self.items ++ c.in-Some.slot ∷ []) s.made s.ready = subst (λ f. IsKept s.links.items s.procs.items s.tasks.items f s.made s.ready) free c.self.invariant.kept in
    let there = rw c.deref.ensures.value at c.place-at.ensures.there in
    let r = c.index_mut-own.result.now in
    let is : slice_get s.procs.items c.place-at.result ≡ Some r = item_index s.procs.items c.place-at.result r (rw c.deref.ensures.value at c.place-at.ensures.within) c.index_mut-own.ensures.value in
    let number : r.number ≡ c.args.proc = at_number s.procs.items c.args.proc r (sym there ∙ is) in
    let links = c.push.ensures.links ∙ ap (λ xs. pushed_links r.ready xs c.in-Some.slot) c.deref_mut.ensures.value in
    let are : (with_items s.links c.push.new.links).items ≡ pushed_links r.ready s.links.items c.in-Some.slot = with_items_is s.links c.push.new.links (ap length links ∙ length-pushed s.links.items r.ready c.in-Some.slot ∙ sym s.links.ok.0) ∙ links in
    let size : length (set s.tasks.items c.in-Some.slot (Some (new_task c.args.proc c.args.hart))) ≡ length s.tasks.items = length-set s.tasks.items c.in-Some.slot (Some (new_task c.args.proc c.args.hart)) in
    record {
      kept = rw (are, c.push.ensures.queue, ← number) (started_kept s.links.items s.procs.items s.tasks.items c.pop.new.self.items s.made s.ready c.place-at.result r c.in-Some.slot c.args.hart k is);
      procs_room = rw size c.self.invariant.procs_room;
      free_room = rw (size, c.pop.ensures.capacity) c.self.invariant.free_room;
    }

pub returns-clause-started : goal.returns-clause-started
returns-clause-started c =
    let s = c.self.inside in
    let free = c.in-Some.ensures.items in
    let k : IsKept s.links.items s.procs.items s.tasks.items (c.pop.new.self.items ++ c.in-Some.slot ∷ []) s.made s.ready = subst (λ f. IsKept s.links.items s.procs.items s.tasks.items f s.made s.ready) free c.self.invariant.kept in
    let there = rw c.deref.ensures.value at c.place-at.ensures.there in
    let r = c.index_mut-own.result.now in
    let is : slice_get s.procs.items c.place-at.result ≡ Some r = item_index s.procs.items c.place-at.result r (rw c.deref.ensures.value at c.place-at.ensures.within) c.index_mut-own.ensures.value in
    let number : r.number ≡ c.args.proc = at_number s.procs.items c.args.proc r (sym there ∙ is) in
    let links = c.push.ensures.links ∙ ap (λ xs. pushed_links r.ready xs c.in-Some.slot) c.deref_mut.ensures.value in
    let are : (with_items s.links c.push.new.links).items ≡ pushed_links r.ready s.links.items c.in-Some.slot = with_items_is s.links c.push.new.links (ap length links ∙ length-pushed s.links.items r.ready c.in-Some.slot ∙ sym s.links.ok.0) ∙ links in
    let view = ap (λ n. starts_in_proc n c.in-Some.slot (procs_of s.links.items s.procs.items s.made)) number in
    rw (← c.self.view_is) (record {
      unused = seen_none s.tasks.items c.in-Some.slot (all_front (λ u. slice_get s.tasks.items u ≡ Some None) c.pop.new.self.items c.in-Some.slot k.unused).1;
      table = rw (are, c.push.ensures.queue) (same_table _ _ _ _ _ _ (started_view s.links.items s.procs.items s.tasks.items c.pop.new.self.items s.made s.ready c.place-at.result r c.in-Some.slot c.args.hart k is ∙ view) (map-set task_of s.tasks.items c.in-Some.slot (Some (new_task c.args.proc c.args.hart))) (privates_stay s.procs.items s.made c.place-at.result r (started_proc r c.in-Some.slot) k.rising is refl refl));
    })
