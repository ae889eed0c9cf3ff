use Rattle.std.proofs.Common.{◌≡◌, ◌∙◌, sym, ap, Some, slice_get}
use Rattle.std.specs.Prelude.{nat_lt}
use Rattle.task_book.specs.Kept.{procs_of, waits_on}
use Rattle.task_book.proofs.Tables.{any_counts}
use Rattle.task_book.proofs.Harts.{some_task}
use Rattle.task_book.proofs.Seen.{lives_home}
use Rattle.task_book.proofs.tasks.Tasks.waits.Goals as goal

pub returns : goal.returns
returns c =
    let s = c.self.inside in
    let k = c.self.invariant.kept in
    let home = lives_home s.links.items s.procs.items s.tasks.items s.free.items s.made s.ready k c.args.task (rw (← c.self.view_is) at c.requires) in
    let there : slice_get s.tasks.items c.args.task ≡ Some (Some c.in-Some.task) = some_task s.tasks.items c.args.task c.in-Some.task c.index.result.now home (sym c.index.ensures ∙ c.in-Some.is) in
    rw (← c.self.view_is) (ap (nat_lt 0) (k.branches c.args.task c.in-Some.task there) ∙ sym (any_counts (waits_on c.args.task) (procs_of s.links.items s.procs.items s.made)))
