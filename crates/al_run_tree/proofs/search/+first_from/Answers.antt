use Rattle.std.proofs.Common.{option_map, sym, ap, ◌∙◌, arith}
use Rattle.al_run_tree.specs.Order.{first_from}
use Rattle.al_run_tree.specs.Table.{span_of}
use Rattle.al_run_tree.proofs.Reading.{leaf_at, some_at, top_open, left_tree, right_tree, height_is, left_lower, right_lower, first_left, first_right, first-leaf, option_map-or}
use Rattle.al_run_tree.proofs.search.+first_from.Goals as goal

pub returns-then-top-eq-NIL-clause-block : goal.returns-then-top-eq-NIL-clause-block
returns-then-top-eq-NIL-clause-block g t c = λ s is. sym (ap (first_from c.args.at) (leaf_at c.args.nodes.now c.args.top s is c.if-top-eq-NIL.true) ∙ first-leaf c.args.at)

pub first_from-requires : goal.first_from-requires
first_from-requires g t c κs within = (omega (arith, right_lower c.args.nodes.now c.args.top c.requires.tree c.requires.is (some_at c.args.nodes.now c.args.top c.requires.tree c.requires.is c.if-top-eq-NIL.false) c.read-node.result c.read-node.ensures.node), (within, (record { tree = (top_open c.args.nodes.now c.args.top c.requires.tree c.requires.is (some_at c.args.nodes.now c.args.top c.requires.tree c.requires.is c.if-top-eq-NIL.false) c.read-node.result c.read-node.ensures.node).right; is = right_tree c.args.nodes.now c.args.top c.requires.tree c.requires.is (some_at c.args.nodes.now c.args.top c.requires.tree c.requires.is c.if-top-eq-NIL.false) c.read-node.result c.read-node.ensures.node })))

pub returns-then-node-at-clause-block : goal.returns-then-node-at-clause-block
returns-then-node-at-clause-block g t c = λ s is. c.first_from.ensures.block (top_open c.args.nodes.now c.args.top s is (some_at c.args.nodes.now c.args.top s is c.if-top-eq-NIL.false) c.read-node.result c.read-node.ensures.node).right (right_tree c.args.nodes.now c.args.top s is (some_at c.args.nodes.now c.args.top s is c.if-top-eq-NIL.false) c.read-node.result c.read-node.ensures.node) ∙ sym (first_right c.args.nodes.now c.args.top s is (some_at c.args.nodes.now c.args.top s is c.if-top-eq-NIL.false) c.read-node.result c.read-node.ensures.node c.args.at c.if-node-at.true)

pub returns-then-node-at-clause-cost : goal.returns-then-node-at-clause-cost
returns-then-node-at-clause-cost g t c = λ s is. omega (arith, c.first_from.ensures.cost (top_open c.args.nodes.now c.args.top s is (some_at c.args.nodes.now c.args.top s is c.if-top-eq-NIL.false) c.read-node.result c.read-node.ensures.node).right (right_tree c.args.nodes.now c.args.top s is (some_at c.args.nodes.now c.args.top s is c.if-top-eq-NIL.false) c.read-node.result c.read-node.ensures.node), height_is c.args.nodes.now c.args.top s is (some_at c.args.nodes.now c.args.top s is c.if-top-eq-NIL.false) c.read-node.result c.read-node.ensures.node)

pub first_from-requires-2 : goal.first_from-requires-2
first_from-requires-2 g t c κs within = (omega (arith, left_lower c.args.nodes.now c.args.top c.requires.tree c.requires.is (some_at c.args.nodes.now c.args.top c.requires.tree c.requires.is c.if-top-eq-NIL.false) c.read-node.result c.read-node.ensures.node), (within, (record { tree = (top_open c.args.nodes.now c.args.top c.requires.tree c.requires.is (some_at c.args.nodes.now c.args.top c.requires.tree c.requires.is c.if-top-eq-NIL.false) c.read-node.result c.read-node.ensures.node).left; is = left_tree c.args.nodes.now c.args.top c.requires.tree c.requires.is (some_at c.args.nodes.now c.args.top c.requires.tree c.requires.is c.if-top-eq-NIL.false) c.read-node.result c.read-node.ensures.node })))

pub returns-clause-block : goal.returns-clause-block
returns-clause-block g t c = λ s is. ap (option_map span_of) c.or.ensures ∙ option_map-or span_of c.first_from-2.result c.block.result ∙ rw (c.first_from-2.ensures.block (top_open c.args.nodes.now c.args.top s is (some_at c.args.nodes.now c.args.top s is c.if-top-eq-NIL.false) c.read-node.result c.read-node.ensures.node).left (left_tree c.args.nodes.now c.args.top s is (some_at c.args.nodes.now c.args.top s is c.if-top-eq-NIL.false) c.read-node.result c.read-node.ensures.node), c.block.ensures) (sym (first_left c.args.nodes.now c.args.top s is (some_at c.args.nodes.now c.args.top s is c.if-top-eq-NIL.false) c.read-node.result c.read-node.ensures.node c.args.at c.if-node-at.false))

pub returns-clause-cost : goal.returns-clause-cost
returns-clause-cost g t c = λ s is. omega (arith, c.first_from-2.ensures.cost (top_open c.args.nodes.now c.args.top s is (some_at c.args.nodes.now c.args.top s is c.if-top-eq-NIL.false) c.read-node.result c.read-node.ensures.node).left (left_tree c.args.nodes.now c.args.top s is (some_at c.args.nodes.now c.args.top s is c.if-top-eq-NIL.false) c.read-node.result c.read-node.ensures.node), height_is c.args.nodes.now c.args.top s is (some_at c.args.nodes.now c.args.top s is c.if-top-eq-NIL.false) c.read-node.result c.read-node.ensures.node)
