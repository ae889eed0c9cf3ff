use Rattle.std.proofs.Common.{◌≡◌, Some, None, refl, sym, ap, ◌∙◌, arith}
use Rattle.al_run_tree.specs.Tree.{blocks}
use Rattle.al_run_tree.specs.Runs.{first_gap}
use Rattle.al_run_tree.proofs.Reading.{leaf_at, some_at, top_open, left_tree, right_tree, height_is, left_lower, right_lower, gap_in_left, gap_in_right}
use Rattle.al_run_tree.proofs.search.+first_fit.Goals as goal
use Rattle.std.proofs.Common.{◌+◌, leb, cond, Bool, true, false}
use Rattle.std.specs.Bool.{then_some}
use Rattle.std.proofs.Common.{ℕ}

place_in : (t : Bool) (from : ℕ) → then_some t from ≡ cond t (Some from) None
place_in true from = refl
place_in false from = refl

pub returns-then-top-eq-NIL-clause-place : goal.returns-then-top-eq-NIL-clause-place
returns-then-top-eq-NIL-clause-place g t c = λ s is.
    let answer = rw (c.from.ensures, c.from-then-top-eq-NIL.ensures, c.from-then-top-eq-NIL-2.ensures) at c.then_some.ensures in
    answer ∙ place_in (leb (c.args.from + c.args.bytes) c.args.until) c.args.from ∙ sym (ap (λ w. first_gap c.args.from (blocks w) c.args.until c.args.bytes) (leaf_at c.args.nodes.now c.args.top s is c.if-top-eq-NIL.true))

pub first_fit-requires : goal.first_fit-requires
first_fit-requires g t c κs within = (omega (arith, left_lower c.args.nodes.now c.args.top c.requires.tree.tree c.requires.tree.is (some_at c.args.nodes.now c.args.top c.requires.tree.tree c.requires.tree.is c.if-top-eq-NIL.false) c.read-node.result c.read-node.ensures.node), (within, ((record { tree = (top_open c.args.nodes.now c.args.top c.requires.tree.tree c.requires.tree.is (some_at c.args.nodes.now c.args.top c.requires.tree.tree c.requires.tree.is c.if-top-eq-NIL.false) c.read-node.result c.read-node.ensures.node).left; is = left_tree c.args.nodes.now c.args.top c.requires.tree.tree c.requires.tree.is (some_at c.args.nodes.now c.args.top c.requires.tree.tree c.requires.tree.is c.if-top-eq-NIL.false) c.read-node.result c.read-node.ensures.node }), c.requires.some)))

pub returns-then-has_room-clause-place : goal.returns-then-has_room-clause-place
returns-then-has_room-clause-place g t c = λ s is. c.first_fit.ensures.place (top_open c.args.nodes.now c.args.top s is (some_at c.args.nodes.now c.args.top s is c.if-top-eq-NIL.false) c.read-node.result c.read-node.ensures.node).left (left_tree c.args.nodes.now c.args.top s is (some_at c.args.nodes.now c.args.top s is c.if-top-eq-NIL.false) c.read-node.result c.read-node.ensures.node) ∙ sym (gap_in_left c.args.nodes.now c.args.top s is (some_at c.args.nodes.now c.args.top s is c.if-top-eq-NIL.false) c.read-node.result c.read-node.ensures.node c.read.result c.args.from c.args.until c.args.bytes c.read.ensures.node c.requires.some (sym c.has_room.ensures ∙ c.if-has_room.true))

pub returns-then-has_room-clause-cost : goal.returns-then-has_room-clause-cost
returns-then-has_room-clause-cost g t c = λ s is. omega (arith, c.first_fit.ensures.cost (top_open c.args.nodes.now c.args.top s is (some_at c.args.nodes.now c.args.top s is c.if-top-eq-NIL.false) c.read-node.result c.read-node.ensures.node).left (left_tree c.args.nodes.now c.args.top s is (some_at c.args.nodes.now c.args.top s is c.if-top-eq-NIL.false) c.read-node.result c.read-node.ensures.node), height_is c.args.nodes.now c.args.top s is (some_at c.args.nodes.now c.args.top s is c.if-top-eq-NIL.false) c.read-node.result c.read-node.ensures.node)

pub first_fit-requires-2 : goal.first_fit-requires-2
first_fit-requires-2 g t c κs within = (omega (arith, right_lower c.args.nodes.now c.args.top c.requires.tree.tree c.requires.tree.is (some_at c.args.nodes.now c.args.top c.requires.tree.tree c.requires.tree.is c.if-top-eq-NIL.false) c.read-node.result c.read-node.ensures.node), (within, ((record { tree = (top_open c.args.nodes.now c.args.top c.requires.tree.tree c.requires.tree.is (some_at c.args.nodes.now c.args.top c.requires.tree.tree c.requires.tree.is c.if-top-eq-NIL.false) c.read-node.result c.read-node.ensures.node).right; is = right_tree c.args.nodes.now c.args.top c.requires.tree.tree c.requires.tree.is (some_at c.args.nodes.now c.args.top c.requires.tree.tree c.requires.tree.is c.if-top-eq-NIL.false) c.read-node.result c.read-node.ensures.node }), c.requires.some)))

pub returns-clause-place : goal.returns-clause-place
returns-clause-place g t c = λ s is. c.first_fit-2.ensures.place (top_open c.args.nodes.now c.args.top s is (some_at c.args.nodes.now c.args.top s is c.if-top-eq-NIL.false) c.read-node.result c.read-node.ensures.node).right (right_tree c.args.nodes.now c.args.top s is (some_at c.args.nodes.now c.args.top s is c.if-top-eq-NIL.false) c.read-node.result c.read-node.ensures.node) ∙ rw c.rounded_up.ensures (sym (gap_in_right c.args.nodes.now c.args.top s is (some_at c.args.nodes.now c.args.top s is c.if-top-eq-NIL.false) c.read-node.result c.read-node.ensures.node c.read.result c.args.from c.args.until c.args.bytes c.read.ensures.node c.requires.some (sym c.has_room.ensures ∙ c.if-has_room.false)))

pub returns-clause-cost : goal.returns-clause-cost
returns-clause-cost g t c = λ s is. omega (arith, c.first_fit-2.ensures.cost (top_open c.args.nodes.now c.args.top s is (some_at c.args.nodes.now c.args.top s is c.if-top-eq-NIL.false) c.read-node.result c.read-node.ensures.node).right (right_tree c.args.nodes.now c.args.top s is (some_at c.args.nodes.now c.args.top s is c.if-top-eq-NIL.false) c.read-node.result c.read-node.ensures.node), height_is c.args.nodes.now c.args.top s is (some_at c.args.nodes.now c.args.top s is c.if-top-eq-NIL.false) c.read-node.result c.read-node.ensures.node)
