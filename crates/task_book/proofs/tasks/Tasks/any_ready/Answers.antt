use Rattle.std.proofs.Common.{◌∙◌, sym, ap}
use Rattle.std.specs.Prelude.{nat_lt}
use Rattle.task_book.specs.Kept.{procs_of}
use Rattle.task_book.proofs.Tables.{any_ready_sum}
use Rattle.task_book.proofs.tasks.Tasks.any_ready.Goals as goal

pub returns : goal.returns
returns c = rw (← c.self.view_is) (ap (nat_lt 0) (sym c.self.invariant.kept.sum) ∙ sym (any_ready_sum (procs_of c.self.inside.links.items c.self.inside.procs.items c.self.inside.made)))
