use Rattle.std.proofs.Common.{◌≡◌, ◌<◌, ◌∙◌, ap, refl, length, arith}
use Rattle.std.proofs.lemmas.List.{length-replicate}
use Rattle.std.proofs.lemmas.List.FromFn.{length-range_with_len}
use Rattle.task_book.proofs.Seen.{same_table}
use Rattle.task_book.proofs.Empty.{empty_kept, seen_empty, nothing}
use Rattle.task_book.proofs.tasks.Tasks.new.Goals as goal

pub invariant_of-result : goal.invariant_of-result
invariant_of-result c =
    let small : c.args.most < 4294967296 = c.ranges.most.fits in
    let links : length c.in_ok-links.links.items ≡ c.args.most = omega (arith, c.in_ok-links.ensures.len, c.in_ok-links.links.ok.0) in
    let tasks = ap length c.in_ok-tasks.ensures ∙ length-replicate c.args.most nothing in
    let free = ap length c.in_ok-free.ensures ∙ length-range_with_len 0 c.args.most in
    record {
      kept = rw (c.in_ok-procs.ensures.items, c.in_ok-tasks.ensures, c.in_ok-free.ensures) (empty_kept c.in_ok-links.links.items c.args.most small links);
      procs_room = omega (arith, tasks, c.in_ok-procs.ensures.capacity);
      free_room = omega (arith, tasks, free, c.in_ok-free.free.ok.0, c.in_ok-free.free.ok.1);
    }

pub returns : goal.returns
returns c = rw c.in_ok-tasks.ensures (same_table _ _ _ _ _ _ refl (seen_empty c.args.most) refl)
