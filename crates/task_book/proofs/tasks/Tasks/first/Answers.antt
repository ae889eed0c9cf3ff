use Rattle.std.proofs.Common.{◌≡◌, ◌∙◌, sym, slice_get, Some}
use Rattle.task_book.proofs.Items.{item_index}
use Rattle.task_book.proofs.Views.{first_view, first_none}
use Rattle.task_book.specs.Table.{LivesIn}
use Rattle.task_book.proofs.Seen.{seen}
use Rattle.task_book.proofs.Branches.{if_some}
use Rattle.task_book.proofs.Firsts.{first_home}
use Rattle.task_book.proofs.Sound.{lives_in}
use Rattle.task_book.proofs.tasks.Tasks.first.Goals as goal

pub returns-in_err-at-clause-ready : goal.returns-in_err-at-clause-ready
returns-in_err-at-clause-ready c =
    rw (← c.self.view_is) (c.from_residual.ensures ∙ sym (first_none c.self.inside.links.items c.self.inside.procs.items c.self.inside.made c.args.proc (rw c.deref.ensures.value at c.in_err-at.ensures.none)))

pub returns-clause-ready : goal.returns-clause-ready
returns-clause-ready c =
    let there = rw c.deref.ensures.value at c.in_ok-at.ensures.there in
    let is : slice_get c.self.inside.procs.items c.in_ok-at.at ≡ Some c.index.result.now = item_index c.self.inside.procs.items c.in_ok-at.at c.index.result.now (rw c.deref.ensures.value at c.in_ok-at.ensures.within) c.index.ensures in
    rw (← c.self.view_is) (c.first.ensures ∙ first_view c.self.inside.links.items c.self.inside.procs.items c.self.inside.made c.args.proc c.index.result.now c.self.invariant.kept.under (sym there ∙ is))

pub returns-clause-home : goal.returns-clause-home
returns-clause-home c =
    let s = c.self.inside in
    let there = rw c.deref.ensures.value at c.in_ok-at.ensures.there in
    let is : slice_get s.procs.items c.in_ok-at.at ≡ Some c.index.result.now = item_index s.procs.items c.in_ok-at.at c.index.result.now (rw c.deref.ensures.value at c.in_ok-at.ensures.within) c.index.ensures in
    let ready = c.first.ensures ∙ first_view s.links.items s.procs.items s.made c.args.proc c.index.result.now c.self.invariant.kept.under (sym there ∙ is) in
    rw (← c.self.view_is) (if_some (LivesIn (seen s.links.items s.procs.items s.tasks.items s.made) c.args.proc) c.first.result (λ t e. lives_in s.links.items s.procs.items s.tasks.items s.free.items s.made s.ready c.self.invariant.kept t c.args.proc (first_home s.links.items s.procs.items s.tasks.items s.free.items s.made s.ready c.self.invariant.kept c.args.proc t (sym ready ∙ e))))
