use Rattle.std.proofs.Common.{◌≡◌, ◌∙◌, ◌-◌, ℕ, List, ap, sym, map, arith}
use Rattle.al_meaning.specs.Parts.{behind_bodies}
use Rattle.al_control.specs.declared.control.Item.{Item}
use Rattle.al_control.specs.Models.{item_of, work_of}
use Rattle.al_walk_jumps.proofs.Borders.{behind_none, behind_one, one_body}
use Rattle.al_walk_jumps.proofs.leads.behind_bodies.Goals as goal

pub overflow_sub-left : goal.overflow_sub-left
overflow_sub-left c = omega (arith, c.bodies_at-ended.ensures, one_body (work_of c.in-Some.item.work) c.loop-left.left c.loop-left-test.true)

pub loop-left-preserved : goal.loop-left-preserved
loop-left-preserved c =
    ap (λ (n : ℕ). behind_bodies (c.loop-left.left - n) (map item_of c.pop.new.self)) c.bodies_at-ended.ensures
    ∙ sym (behind_one c.loop-left.left (item_of c.in-Some.item) (map item_of c.pop.new.self) c.loop-left-test.true)
    ∙ sym (ap (λ (l : List Item). behind_bodies c.loop-left.left (map item_of l)) c.in-Some.ensures)
    ∙ c.loop-left.invariant

pub returns-in-None : goal.returns-in-None
returns-in-None c =
    ap (map item_of) c.in-None.ensures.1
    ∙ sym (behind_none c.loop-left.left)
    ∙ sym (ap (λ (l : List Item). behind_bodies c.loop-left.left (map item_of l)) c.in-None.ensures.0)
    ∙ c.loop-left.invariant

pub returns : goal.returns
returns c =
    let none : c.loop-left.left ≡ 0 = omega arith in
    sym (ap (λ (n : ℕ). behind_bodies n (map item_of c.loop-left.items)) none) ∙ c.loop-left.invariant
