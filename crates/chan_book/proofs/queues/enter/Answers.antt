use Rattle.std.proofs.Common.{◌≡◌, ℕ, ◌+◌, ◌<◌, ◌∷◌, suc, drop, subst, sym, ap, ◌∙◌, arith}
use Rattle.std.specs.List.{AllByRecursion}
use Rattle.al_event.specs.declared.act.Branch.{Branch}
use Rattle.chan_book.specs.Links.{Ring, inserted}
use Rattle.chan_book.specs.Book.{queue_of}
use Rattle.chan_book.proofs.Steps.{with_branch, drop_at, enter_more, mark_below}
use Rattle.chan_book.proofs.queues.enter.Goals as goal

pub overflow_add-root : goal.overflow_add-root
overflow_add-root c =
    let parts : drop c.loop-number.number c.args.branches.now ≡ c.index-branches-number.result ∷ drop (c.loop-number.number + 1) c.args.branches.now = drop_at c.loop-number.number c.args.branches.now c.index-branches-number.result c.loop-number-test.true c.index-branches-number.is in
    let h = c.loop-number.invariant in
    omega (arith, h.size, mark_below _ _ _ c.root-root.result c.queue_of.result _ _ _ h.ring h.free parts h.root c.queue_of.ensures)

pub overflow_add-root-in-loop-number : goal.overflow_add-root-in-loop-number
overflow_add-root-in-loop-number c =
    let parts : drop c.loop-number.number c.args.branches.now ≡ c.index-branches-number.result ∷ drop (c.loop-number.number + 1) c.args.branches.now = drop_at c.loop-number.number c.args.branches.now c.index-branches-number.result c.loop-number-test.true c.index-branches-number.is in
    let h = c.loop-number.invariant in
    omega (arith, h.size, mark_below _ _ _ c.root-root.result c.queue_of.result _ _ _ h.ring h.free parts h.root c.queue_of.ensures)

-- a branch put in before its mark
put : (r s : Ring) (n at : ℕ) (b : Branch) → s ≡ record r { items = inserted n at r.items } → at ≡ suc (r.root + queue_of b) → s ≡ with_branch r n b
put r s n at b e f = subst (λ a. s ≡ record r { items = inserted n a r.items }) f e

pub loop-number-preserved : goal.loop-number-preserved
loop-number-preserved c =
    let parts : drop c.loop-number.number c.args.branches.now ≡ c.index-branches-number.result ∷ drop (c.loop-number.number + 1) c.args.branches.now = drop_at c.loop-number.number c.args.branches.now c.index-branches-number.result c.loop-number-test.true c.index-branches-number.is in
    let h = c.loop-number.invariant in
    let at : c.root-root.result + c.queue_of.result + 1 ≡ suc (c.loop-number.queues.root + queue_of c.index-branches-number.result) = omega (arith, h.root, c.queue_of.ensures) in
    let is : c.insert.new.self ≡ with_branch c.loop-number.queues (c.args.node + c.loop-number.number) c.index-branches-number.result = put _ _ _ _ c.index-branches-number.result c.insert.ensures.inserted at in
    let more = enter_more _ _ _ _ _ _ _ _ is parts h.free h.whole in
    record {
      ring = c.insert.ensures.ring;
      root = h.root ∙ sym (ap (λ (r : Ring). r.root) is);
      size = rw (ap (λ (r : Ring). r.size) is) h.size;
      free = more.0;
      made = (subst (AllByRecursion (λ (b : Branch). 0 < b.chan)) parts h.made).1;
      whole = more.1;
    }
