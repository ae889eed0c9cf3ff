use Rattle.std.proofs.Common.{Some, sym, ap, ◌∙◌, arith}
use Rattle.al_run_tree.specs.Order.{found}
use Rattle.al_run_tree.specs.Table.{span_of}
use Rattle.al_run_tree.proofs.Reading.{leaf_at, some_at, top_open, left_tree, right_tree, height_is, left_lower, right_lower, found_left, found_right, found_here, found-leaf}
use Rattle.al_run_tree.proofs.search.+find.Goals as goal

pub returns-then-top-eq-NIL-clause-block : goal.returns-then-top-eq-NIL-clause-block
returns-then-top-eq-NIL-clause-block g t c = λ s is. sym (ap (found c.args.at) (leaf_at c.args.nodes.now c.args.top s is c.if-top-eq-NIL.true) ∙ found-leaf c.args.at)

pub find-requires : goal.find-requires
find-requires g t c κs within = (omega (arith, left_lower c.args.nodes.now c.args.top c.requires.tree c.requires.is (some_at c.args.nodes.now c.args.top c.requires.tree c.requires.is c.if-top-eq-NIL.false) c.read-node.result c.read-node.ensures.node), (within, (record { tree = (top_open c.args.nodes.now c.args.top c.requires.tree c.requires.is (some_at c.args.nodes.now c.args.top c.requires.tree c.requires.is c.if-top-eq-NIL.false) c.read-node.result c.read-node.ensures.node).left; is = left_tree c.args.nodes.now c.args.top c.requires.tree c.requires.is (some_at c.args.nodes.now c.args.top c.requires.tree c.requires.is c.if-top-eq-NIL.false) c.read-node.result c.read-node.ensures.node })))

pub returns-then-at-node-clause-block : goal.returns-then-at-node-clause-block
returns-then-at-node-clause-block g t c = λ s is. c.find.ensures.block (top_open c.args.nodes.now c.args.top s is (some_at c.args.nodes.now c.args.top s is c.if-top-eq-NIL.false) c.read-node.result c.read-node.ensures.node).left (left_tree c.args.nodes.now c.args.top s is (some_at c.args.nodes.now c.args.top s is c.if-top-eq-NIL.false) c.read-node.result c.read-node.ensures.node) ∙ sym (found_left c.args.nodes.now c.args.top s is (some_at c.args.nodes.now c.args.top s is c.if-top-eq-NIL.false) c.read-node.result c.read-node.ensures.node c.args.at c.if-at-node.true)

pub returns-then-at-node-clause-cost : goal.returns-then-at-node-clause-cost
returns-then-at-node-clause-cost g t c = λ s is. omega (arith, c.find.ensures.cost (top_open c.args.nodes.now c.args.top s is (some_at c.args.nodes.now c.args.top s is c.if-top-eq-NIL.false) c.read-node.result c.read-node.ensures.node).left (left_tree c.args.nodes.now c.args.top s is (some_at c.args.nodes.now c.args.top s is c.if-top-eq-NIL.false) c.read-node.result c.read-node.ensures.node), height_is c.args.nodes.now c.args.top s is (some_at c.args.nodes.now c.args.top s is c.if-top-eq-NIL.false) c.read-node.result c.read-node.ensures.node)

pub find-requires-then-node-at : goal.find-requires-then-node-at
find-requires-then-node-at g t c κs within = (omega (arith, right_lower c.args.nodes.now c.args.top c.requires.tree c.requires.is (some_at c.args.nodes.now c.args.top c.requires.tree c.requires.is c.if-top-eq-NIL.false) c.read-node.result c.read-node.ensures.node), (within, (record { tree = (top_open c.args.nodes.now c.args.top c.requires.tree c.requires.is (some_at c.args.nodes.now c.args.top c.requires.tree c.requires.is c.if-top-eq-NIL.false) c.read-node.result c.read-node.ensures.node).right; is = right_tree c.args.nodes.now c.args.top c.requires.tree c.requires.is (some_at c.args.nodes.now c.args.top c.requires.tree c.requires.is c.if-top-eq-NIL.false) c.read-node.result c.read-node.ensures.node })))

pub returns-then-node-at-clause-block : goal.returns-then-node-at-clause-block
returns-then-node-at-clause-block g t c = λ s is. c.find-then-node-at.ensures.block (top_open c.args.nodes.now c.args.top s is (some_at c.args.nodes.now c.args.top s is c.if-top-eq-NIL.false) c.read-node.result c.read-node.ensures.node).right (right_tree c.args.nodes.now c.args.top s is (some_at c.args.nodes.now c.args.top s is c.if-top-eq-NIL.false) c.read-node.result c.read-node.ensures.node) ∙ sym (found_right c.args.nodes.now c.args.top s is (some_at c.args.nodes.now c.args.top s is c.if-top-eq-NIL.false) c.read-node.result c.read-node.ensures.node c.args.at c.if-node-at.true)

pub returns-then-node-at-clause-cost : goal.returns-then-node-at-clause-cost
returns-then-node-at-clause-cost g t c = λ s is. omega (arith, c.find-then-node-at.ensures.cost (top_open c.args.nodes.now c.args.top s is (some_at c.args.nodes.now c.args.top s is c.if-top-eq-NIL.false) c.read-node.result c.read-node.ensures.node).right (right_tree c.args.nodes.now c.args.top s is (some_at c.args.nodes.now c.args.top s is c.if-top-eq-NIL.false) c.read-node.result c.read-node.ensures.node), height_is c.args.nodes.now c.args.top s is (some_at c.args.nodes.now c.args.top s is c.if-top-eq-NIL.false) c.read-node.result c.read-node.ensures.node)

pub returns-clause-block : goal.returns-clause-block
returns-clause-block g t c = λ s is. ap (λ b. Some (span_of b)) c.block.ensures ∙ sym (found_here c.args.nodes.now c.args.top s is (some_at c.args.nodes.now c.args.top s is c.if-top-eq-NIL.false) c.read-node.result c.read-node.ensures.node c.args.at (omega arith) (omega arith))
