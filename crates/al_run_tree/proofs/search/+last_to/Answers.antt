use Rattle.std.proofs.Common.{option_map, sym, ap, ◌∙◌, arith}
use Rattle.al_run_tree.specs.Order.{last_to}
use Rattle.al_run_tree.specs.Table.{span_of}
use Rattle.al_run_tree.proofs.Reading.{leaf_at, some_at, top_open, left_tree, right_tree, height_is, left_lower, right_lower, last_left, last_right, last-leaf, option_map-or}
use Rattle.al_run_tree.proofs.search.+last_to.Goals as goal

pub returns-then-top-eq-NIL-clause-block : goal.returns-then-top-eq-NIL-clause-block
returns-then-top-eq-NIL-clause-block g t c = λ s is. sym (ap (last_to c.args.at) (leaf_at c.args.nodes.now c.args.top s is c.if-top-eq-NIL.true) ∙ last-leaf c.args.at)

pub last_to-requires : goal.last_to-requires
last_to-requires g t c κs within = (omega (arith, left_lower c.args.nodes.now c.args.top c.requires.tree c.requires.is (some_at c.args.nodes.now c.args.top c.requires.tree c.requires.is c.if-top-eq-NIL.false) c.read-node.result c.read-node.ensures.node), (within, (record { tree = (top_open c.args.nodes.now c.args.top c.requires.tree c.requires.is (some_at c.args.nodes.now c.args.top c.requires.tree c.requires.is c.if-top-eq-NIL.false) c.read-node.result c.read-node.ensures.node).left; is = left_tree c.args.nodes.now c.args.top c.requires.tree c.requires.is (some_at c.args.nodes.now c.args.top c.requires.tree c.requires.is c.if-top-eq-NIL.false) c.read-node.result c.read-node.ensures.node })))

pub returns-then-at-node-clause-block : goal.returns-then-at-node-clause-block
returns-then-at-node-clause-block g t c = λ s is. c.last_to.ensures.block (top_open c.args.nodes.now c.args.top s is (some_at c.args.nodes.now c.args.top s is c.if-top-eq-NIL.false) c.read-node.result c.read-node.ensures.node).left (left_tree c.args.nodes.now c.args.top s is (some_at c.args.nodes.now c.args.top s is c.if-top-eq-NIL.false) c.read-node.result c.read-node.ensures.node) ∙ sym (last_left c.args.nodes.now c.args.top s is (some_at c.args.nodes.now c.args.top s is c.if-top-eq-NIL.false) c.read-node.result c.read-node.ensures.node c.args.at c.if-at-node.true)

pub returns-then-at-node-clause-cost : goal.returns-then-at-node-clause-cost
returns-then-at-node-clause-cost g t c = λ s is. omega (arith, c.last_to.ensures.cost (top_open c.args.nodes.now c.args.top s is (some_at c.args.nodes.now c.args.top s is c.if-top-eq-NIL.false) c.read-node.result c.read-node.ensures.node).left (left_tree c.args.nodes.now c.args.top s is (some_at c.args.nodes.now c.args.top s is c.if-top-eq-NIL.false) c.read-node.result c.read-node.ensures.node), height_is c.args.nodes.now c.args.top s is (some_at c.args.nodes.now c.args.top s is c.if-top-eq-NIL.false) c.read-node.result c.read-node.ensures.node)

pub last_to-requires-2 : goal.last_to-requires-2
last_to-requires-2 g t c κs within = (omega (arith, right_lower c.args.nodes.now c.args.top c.requires.tree c.requires.is (some_at c.args.nodes.now c.args.top c.requires.tree c.requires.is c.if-top-eq-NIL.false) c.read-node.result c.read-node.ensures.node), (within, (record { tree = (top_open c.args.nodes.now c.args.top c.requires.tree c.requires.is (some_at c.args.nodes.now c.args.top c.requires.tree c.requires.is c.if-top-eq-NIL.false) c.read-node.result c.read-node.ensures.node).right; is = right_tree c.args.nodes.now c.args.top c.requires.tree c.requires.is (some_at c.args.nodes.now c.args.top c.requires.tree c.requires.is c.if-top-eq-NIL.false) c.read-node.result c.read-node.ensures.node })))

pub returns-clause-block : goal.returns-clause-block
returns-clause-block g t c = λ s is. ap (option_map span_of) c.or.ensures ∙ option_map-or span_of c.last_to-2.result c.block.result ∙ rw (c.last_to-2.ensures.block (top_open c.args.nodes.now c.args.top s is (some_at c.args.nodes.now c.args.top s is c.if-top-eq-NIL.false) c.read-node.result c.read-node.ensures.node).right (right_tree c.args.nodes.now c.args.top s is (some_at c.args.nodes.now c.args.top s is c.if-top-eq-NIL.false) c.read-node.result c.read-node.ensures.node), c.block.ensures) (sym (last_right c.args.nodes.now c.args.top s is (some_at c.args.nodes.now c.args.top s is c.if-top-eq-NIL.false) c.read-node.result c.read-node.ensures.node c.args.at c.if-at-node.false))

pub returns-clause-cost : goal.returns-clause-cost
returns-clause-cost g t c = λ s is. omega (arith, c.last_to-2.ensures.cost (top_open c.args.nodes.now c.args.top s is (some_at c.args.nodes.now c.args.top s is c.if-top-eq-NIL.false) c.read-node.result c.read-node.ensures.node).right (right_tree c.args.nodes.now c.args.top s is (some_at c.args.nodes.now c.args.top s is c.if-top-eq-NIL.false) c.read-node.result c.read-node.ensures.node), height_is c.args.nodes.now c.args.top s is (some_at c.args.nodes.now c.args.top s is c.if-top-eq-NIL.false) c.read-node.result c.read-node.ensures.node)
