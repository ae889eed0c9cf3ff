use Rattle.std.proofs.Common.{◌≡◌, ◌<◌, ◌+◌, ◌∙◌, sym, ap, subst, slice_get, Some, None, length, arith, ◌++◌, ◌∷◌, [], set}
use Rattle.std.specs.Prelude.{IsSome}
use Rattle.std.specs.Vec.{with_items}
use Rattle.std.proofs.lemmas.List.{with_items_is, length-append, map-set}
use Rattle.std.proofs.lemmas.Option.{slice_get_within}
use Rattle.task_book.specs.declared.proc.Task.{Task}
use Rattle.task_book.specs.Procs.{proc_at}
use Rattle.task_book.specs.Homes.{homes_of, home_at}
use Rattle.task_book.specs.Starting.{with_branch_of}
use Rattle.task_book.specs.Kept.{IsKept, procs_of, state_of, task_of}
use Rattle.task_book.proofs.Tables.{length-listed}
use Rattle.task_book.proofs.Seen.{same_table}
use Rattle.task_book.proofs.Starts.{seen_none, new_task}
use Rattle.task_book.proofs.Branches.{if_some, branch_fits, length-joined, seen-joined}
use Rattle.task_book.proofs.Firsts.{parent_lives}
use Rattle.task_book.proofs.Added.{unused, begun_room, begun_sum, begun_kept, begun_view, begun_privates, size}
use Rattle.task_book.proofs.tasks.Tasks.start_proc.Goals as goal

pub join_parent-requires-clause-lives : goal.join_parent-requires-clause-lives
join_parent-requires-clause-lives c =
    let s = c.self.inside in
    let k : IsKept s.links.items s.procs.items s.tasks.items (c.pop.new.self.items ++ c.in-Some.slot ∷ []) s.made s.ready = subst (λ f. IsKept s.links.items s.procs.items s.tasks.items f s.made s.ready) c.in-Some.ensures.items c.self.invariant.kept in
    let lives = parent_lives s.links.items s.procs.items s.tasks.items (c.pop.new.self.items ++ c.in-Some.slot ∷ []) s.made s.ready k c.args.parent (rw (← c.self.view_is) at c.requires.parent) in
    rw c.deref_mut.ensures.value (if_some (λ u. IsSome (home_at (homes_of s.tasks.items) u)) c.args.parent lives)

pub join_parent-requires-clause-few : goal.join_parent-requires-clause-few
join_parent-requires-clause-few c =
    let s = c.self.inside in
    let k : IsKept s.links.items s.procs.items s.tasks.items (c.pop.new.self.items ++ c.in-Some.slot ∷ []) s.made s.ready = subst (λ f. IsKept s.links.items s.procs.items s.tasks.items f s.made s.ready) c.in-Some.ensures.items c.self.invariant.kept in
    let lives = parent_lives s.links.items s.procs.items s.tasks.items (c.pop.new.self.items ++ c.in-Some.slot ∷ []) s.made s.ready k c.args.parent (rw (← c.self.view_is) at c.requires.parent) in
    rw c.deref_mut.ensures.value (if_some (λ u. (x : Task) → slice_get s.tasks.items u ≡ Some (Some x) → x.branches + 1 < 4294967296) c.args.parent (λ u e x f. branch_fits s.links.items s.procs.items s.tasks.items (c.pop.new.self.items ++ c.in-Some.slot ∷ []) s.made s.ready k u x f (omega (arith, length-append c.pop.new.self.items (c.in-Some.slot ∷ [])))))

pub index_mut-requires : goal.index_mut-requires
index_mut-requires c =
    let s = c.self.inside in
    let k : IsKept s.links.items s.procs.items s.tasks.items (c.pop.new.self.items ++ c.in-Some.slot ∷ []) s.made s.ready = subst (λ f. IsKept s.links.items s.procs.items s.tasks.items f s.made s.ready) c.in-Some.ensures.items c.self.invariant.kept in
    let lives = parent_lives s.links.items s.procs.items s.tasks.items (c.pop.new.self.items ++ c.in-Some.slot ∷ []) s.made s.ready k c.args.parent (rw (← c.self.view_is) at c.requires.parent) in
    omega (arith, s.tasks.ok.0, slice_get_within s.tasks.items c.in-Some.slot None (unused s.links.items s.procs.items s.tasks.items c.pop.new.self.items s.made s.ready c.in-Some.slot c.args.parent c.args.hart c.args.privates k lives))

pub unreachable-requires : goal.unreachable-requires
unreachable-requires c =
    let s = c.self.inside in
    let k : IsKept s.links.items s.procs.items s.tasks.items (c.pop.new.self.items ++ c.in-Some.slot ∷ []) s.made s.ready = subst (λ f. IsKept s.links.items s.procs.items s.tasks.items f s.made s.ready) c.in-Some.ensures.items c.self.invariant.kept in
    let lives = parent_lives s.links.items s.procs.items s.tasks.items (c.pop.new.self.items ++ c.in-Some.slot ∷ []) s.made s.ready k c.args.parent (rw (← c.self.view_is) at c.requires.parent) in
    absurd (omega (arith, begun_room s.links.items s.procs.items s.tasks.items c.pop.new.self.items s.made s.ready c.in-Some.slot c.args.parent c.args.hart c.args.privates k lives, s.procs.ok.0, c.self.invariant.procs_room, c.in-Err.ensures.full))

pub overflow_add-self : goal.overflow_add-self
overflow_add-self c =
    let s = c.self.inside in
    let few : length (procs_of s.links.items s.procs.items s.made) + 1 < 4294967296 = rw (← c.self.view_is) at c.requires.few in
    omega (arith, few, length-listed (λ n. state_of s.links.items (proc_at n s.procs.items)) s.made)

pub overflow_add-self-2 : goal.overflow_add-self-2
overflow_add-self-2 c =
    let s = c.self.inside in
    let k : IsKept s.links.items s.procs.items s.tasks.items (c.pop.new.self.items ++ c.in-Some.slot ∷ []) s.made s.ready = subst (λ f. IsKept s.links.items s.procs.items s.tasks.items f s.made s.ready) c.in-Some.ensures.items c.self.invariant.kept in
    let lives = parent_lives s.links.items s.procs.items s.tasks.items (c.pop.new.self.items ++ c.in-Some.slot ∷ []) s.made s.ready k c.args.parent (rw (← c.self.view_is) at c.requires.parent) in
    let fits : s.ready < length s.tasks.items = begun_sum s.links.items s.procs.items s.tasks.items c.pop.new.self.items s.made s.ready c.in-Some.slot c.args.parent c.args.hart c.args.privates k lives in
    let small : length s.tasks.items < 4294967296 = k.small in
    omega arith

pub invariant_of-self-2 : goal.invariant_of-self-2
invariant_of-self-2 c =
    let s = c.self.inside in
    let k : IsKept s.links.items s.procs.items s.tasks.items (c.pop.new.self.items ++ c.in-Some.slot ∷ []) s.made s.ready = subst (λ f. IsKept s.links.items s.procs.items s.tasks.items f s.made s.ready) c.in-Some.ensures.items c.self.invariant.kept in
    let lives = parent_lives s.links.items s.procs.items s.tasks.items (c.pop.new.self.items ++ c.in-Some.slot ∷ []) s.made s.ready k c.args.parent (rw (← c.self.view_is) at c.requires.parent) in
    let joined = c.join_parent.ensures ∙ ap (with_branch_of c.args.parent) c.deref_mut.ensures.value in
    let are : (with_items s.tasks c.join_parent.new.tasks).items ≡ with_branch_of c.args.parent s.tasks.items = with_items_is s.tasks c.join_parent.new.tasks (ap length joined ∙ length-joined c.args.parent s.tasks.items ∙ sym s.tasks.ok.0) ∙ joined in
    let same : length (set (with_branch_of c.args.parent s.tasks.items) c.in-Some.slot (Some (new_task s.made c.args.hart))) ≡ length s.tasks.items = size s.links.items s.procs.items s.tasks.items c.pop.new.self.items s.made s.ready c.in-Some.slot c.args.parent c.args.hart c.args.privates k lives in
    record {
      kept = rw (are, c.in-Ok.ensures.items, c.of.ensures) (begun_kept s.links.items s.procs.items s.tasks.items c.pop.new.self.items s.made s.ready c.in-Some.slot c.args.parent c.args.hart c.args.privates k lives);
      procs_room = rw are (omega (arith, same, c.in-Ok.ensures.capacity, c.self.invariant.procs_room));
      free_room = rw (are, same, c.pop.ensures.capacity) c.self.invariant.free_room;
    }

pub returns-clause-number : goal.returns-clause-number
returns-clause-number c =
    let s = c.self.inside in
    rw (← c.self.view_is) (sym (length-listed (λ n. state_of s.links.items (proc_at n s.procs.items)) s.made))

pub returns-clause-started : goal.returns-clause-started
returns-clause-started c =
    let s = c.self.inside in
    let k : IsKept s.links.items s.procs.items s.tasks.items (c.pop.new.self.items ++ c.in-Some.slot ∷ []) s.made s.ready = subst (λ f. IsKept s.links.items s.procs.items s.tasks.items f s.made s.ready) c.in-Some.ensures.items c.self.invariant.kept in
    let lives = parent_lives s.links.items s.procs.items s.tasks.items (c.pop.new.self.items ++ c.in-Some.slot ∷ []) s.made s.ready k c.args.parent (rw (← c.self.view_is) at c.requires.parent) in
    let joined = c.join_parent.ensures ∙ ap (with_branch_of c.args.parent) c.deref_mut.ensures.value in
    let are : (with_items s.tasks c.join_parent.new.tasks).items ≡ with_branch_of c.args.parent s.tasks.items = with_items_is s.tasks c.join_parent.new.tasks (ap length joined ∙ length-joined c.args.parent s.tasks.items ∙ sym s.tasks.ok.0) ∙ joined in
    rw (← c.self.view_is) (record {
      slot = c.in-Some.slot;
      unused = seen_none s.tasks.items c.in-Some.slot (unused s.links.items s.procs.items s.tasks.items c.pop.new.self.items s.made s.ready c.in-Some.slot c.args.parent c.args.hart c.args.privates k lives);
      table = rw (are, c.in-Ok.ensures.items, c.of.ensures) (same_table _ _ _ _ _ _ (begun_view s.links.items s.procs.items s.tasks.items c.pop.new.self.items s.made s.ready c.in-Some.slot c.args.parent c.args.hart c.args.privates k lives) (map-set task_of (with_branch_of c.args.parent s.tasks.items) c.in-Some.slot (Some (new_task s.made c.args.hart)) ∙ ap (λ ts. set ts c.in-Some.slot (task_of (Some (new_task s.made c.args.hart)))) (seen-joined c.args.parent s.tasks.items)) (begun_privates s.links.items s.procs.items s.tasks.items c.pop.new.self.items s.made s.ready c.in-Some.slot c.args.parent c.args.hart c.args.privates k lives));
    })
