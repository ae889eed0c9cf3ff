use Rattle.std.proofs.Common.{◌≡◌, ◌∙◌, ◌-◌, ◌<◌, ℕ, List, ap, subst, sym, map, arith}
use Rattle.al_meaning.specs.Parts.{next_of_loop}
use Rattle.al_control.specs.declared.control.Item.{Item}
use Rattle.al_control.specs.Models.{item_of, work_of}
use Rattle.al_walk_jumps.specs.Ends.{loops_at}
use Rattle.al_walk_jumps.proofs.Borders.{loop_behind, loop_none, loop_reached, one_loop}
use Rattle.al_walk_jumps.proofs.leads.next_of_loop.Goals as goal

pub overflow_sub-left : goal.overflow_sub-left
overflow_sub-left c = omega (arith, c.loops_at-ended.ensures, one_loop (work_of c.in-Some.item.work) c.loop-left.left c.loop-left-test.true)

pub loop-left-preserved : goal.loop-left-preserved
loop-left-preserved c =
    let above : 0 < c.loop-left.left - loops_at (work_of c.in-Some.item.work) =
    let P : ℕ → Type 0 = λ n. 0 < c.loop-left.left - n in
    subst P c.loops_at-ended.ensures
    (omega (arith, c.loops_at-ended.ensures, one_loop (work_of c.in-Some.item.work) c.loop-left.left c.loop-left-test.true))
    in
    ap (λ (n : ℕ). next_of_loop (c.loop-left.left - n) (map item_of c.pop.new.self)) c.loops_at-ended.ensures
    ∙ sym (loop_behind c.loop-left.left (item_of c.in-Some.item) (map item_of c.pop.new.self) above)
    ∙ sym (ap (λ (l : List Item). next_of_loop c.loop-left.left (map item_of l)) c.in-Some.ensures)
    ∙ c.loop-left.invariant

pub returns-in-None : goal.returns-in-None
returns-in-None c =
    ap (map item_of) c.in-None.ensures.1
    ∙ sym (loop_none c.loop-left.left)
    ∙ sym (ap (λ (l : List Item). next_of_loop c.loop-left.left (map item_of l)) c.in-None.ensures.0)
    ∙ c.loop-left.invariant

pub returns-then-left-ended : goal.returns-then-left-ended
returns-then-left-ended c =
    ap (map item_of) c.in_ok-push-in-Some.ensures
    ∙ sym (loop_reached c.loop-left.left (item_of c.in-Some.item) (map item_of c.pop.new.self) c.loop-left-test.true
    (ap (λ (n : ℕ). c.loop-left.left - n) (sym c.loops_at-ended.ensures) ∙ omega arith))
    ∙ sym (ap (λ (l : List Item). next_of_loop c.loop-left.left (map item_of l)) c.in-Some.ensures)
    ∙ c.loop-left.invariant

pub returns : goal.returns
returns c =
    let none : c.loop-left.left ≡ 0 = omega arith in
    sym (ap (λ (n : ℕ). next_of_loop n (map item_of c.loop-left.items)) none) ∙ c.loop-left.invariant
