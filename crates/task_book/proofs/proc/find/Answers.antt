use Rattle.std.proofs.Common.{rules, ◌≡◌, slice_get, Some, sym, ◌∙◌, ap}
use Rattle.std.specs.Prelude.{is_some}
use Rattle.task_book.proofs.Items.{item_get, item_none}
use Rattle.task_book.proofs.Places.{found_at, missed_at, missed_past}
use Rattle.task_book.proofs.proc.find.Goals as goal

pub returns-then-proc-number-clause-there : goal.returns-then-proc-number-clause-there
returns-then-proc-number-clause-there c =
    let e : slice_get c.args.procs.now c.first_from-at.result ≡ Some c.in-Some.proc.now = item_get c.args.procs.now c.first_from-at.result c.in-Some.proc c.in-Some.ensures.lookup in
    found_at c.args.procs.now c.args.number c.first_from-at.result c.in-Some.proc.now c.requires c.first_from-at.ensures e (search rules)

pub returns-then-proc-number-clause-found : goal.returns-then-proc-number-clause-found
returns-then-proc-number-clause-found c =
    let e : slice_get c.args.procs.now c.first_from-at.result ≡ Some c.in-Some.proc.now = item_get c.args.procs.now c.first_from-at.result c.in-Some.proc c.in-Some.ensures.lookup in
    let there = found_at c.args.procs.now c.args.number c.first_from-at.result c.in-Some.proc.now c.requires c.first_from-at.ensures e (search rules) in
    ap is_some (sym (sym e ∙ there))

pub returns-else-proc-number-clause-none : goal.returns-else-proc-number-clause-none
returns-else-proc-number-clause-none c =
    missed_at c.args.procs.now c.args.number c.first_from-at.result c.in-Some.proc.now c.requires c.first_from-at.ensures (item_get c.args.procs.now c.first_from-at.result c.in-Some.proc c.in-Some.ensures.lookup) (search rules)

pub returns-in-None-clause-none : goal.returns-in-None-clause-none
returns-in-None-clause-none c =
    missed_past c.args.procs.now c.args.number c.first_from-at.result c.requires c.first_from-at.ensures (item_none c.args.procs.now c.first_from-at.result c.in-None.ensures.lookup)
