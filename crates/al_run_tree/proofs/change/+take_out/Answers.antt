use Rattle.std.proofs.Common.{sym, ap, subst, arith}
use Rattle.al_run_tree.specs.Balance.{balanced, taken_out}
use Rattle.al_run_tree.specs.Table.{span_of, IsNow, HasSides, AreSides}
use Rattle.al_run_tree.proofs.Reading.{top_open, left_tree, right_tree, height_is, left_lower, right_lower, two}
use Rattle.al_run_tree.proofs.Growing.{there_some, take_left, take_right, there_left, there_right, take_sides_left, take_sides_right, taken_left, taken_right, taken_here, same_there}
use Rattle.al_run_tree.proofs.change.+take_out.Goals as goal

pub take_out-out-requires : goal.take_out-out-requires
take_out-out-requires g t c κs within = (omega (arith, left_lower c.args.nodes.now c.args.top c.requires.tree c.requires.is (there_some c.requires.tree c.args.at c.requires.there) c.read-node.result c.read-node.ensures.node), (within, take_left c.args.nodes.now c.args.top c.requires.tree c.requires.is (there_some c.requires.tree c.args.at c.requires.there) c.read-node.result c.read-node.ensures.node c.args.at c.if-at-node.true c.requires.there))

pub balance-rest-requires : goal.balance-rest-requires
balance-rest-requires g t c = subst (λ b. HasSides c.take_out-out.new.nodes c.args.top b c.take_out-out.result.rest c.read-node.result.right) (sym (ap span_of c.block.ensures)) (record { l = (taken_out c.args.at (top_open c.args.nodes.now c.args.top c.requires.tree c.requires.is (there_some c.requires.tree c.args.at c.requires.there) c.read-node.result c.read-node.ensures.node).left).rest; r = (top_open c.args.nodes.now c.args.top c.requires.tree c.requires.is (there_some c.requires.tree c.args.at c.requires.there) c.read-node.result c.read-node.ensures.node).right; are = (take_sides_left c.args.nodes.now c.args.top c.requires.tree c.requires.is (there_some c.requires.tree c.args.at c.requires.there) c.read-node.result c.read-node.ensures.node c.args.at c.if-at-node.true c.requires.there c.take_out-out.new.nodes c.take_out-out.result.index (span_of c.take_out-out.result.block) c.take_out-out.result.rest (c.take_out-out.ensures.tree (top_open c.args.nodes.now c.args.top c.requires.tree c.requires.is (there_some c.requires.tree c.args.at c.requires.there) c.read-node.result c.read-node.ensures.node).left (left_tree c.args.nodes.now c.args.top c.requires.tree c.requires.is (there_some c.requires.tree c.args.at c.requires.there) c.read-node.result c.read-node.ensures.node) (there_left c.args.nodes.now c.args.top c.requires.tree c.requires.is (there_some c.requires.tree c.args.at c.requires.there) c.read-node.result c.read-node.ensures.node c.args.at c.if-at-node.true c.requires.there))) })

pub returns-then-at-node-clause-tree : goal.returns-then-at-node-clause-tree
returns-then-at-node-clause-tree g t c = λ s is there.
    let sides = subst (λ b. AreSides c.take_out-out.new.nodes c.args.top b c.take_out-out.result.rest c.read-node.result.right (taken_out c.args.at (top_open c.args.nodes.now c.args.top s is (there_some s c.args.at there) c.read-node.result c.read-node.ensures.node).left).rest (top_open c.args.nodes.now c.args.top s is (there_some s c.args.at there) c.read-node.result c.read-node.ensures.node).right) (sym (ap span_of c.block.ensures)) (take_sides_left c.args.nodes.now c.args.top s is (there_some s c.args.at there) c.read-node.result c.read-node.ensures.node c.args.at c.if-at-node.true there c.take_out-out.new.nodes c.take_out-out.result.index (span_of c.take_out-out.result.block) c.take_out-out.result.rest (c.take_out-out.ensures.tree (top_open c.args.nodes.now c.args.top s is (there_some s c.args.at there) c.read-node.result c.read-node.ensures.node).left (left_tree c.args.nodes.now c.args.top s is (there_some s c.args.at there) c.read-node.result c.read-node.ensures.node) (there_left c.args.nodes.now c.args.top s is (there_some s c.args.at there) c.read-node.result c.read-node.ensures.node c.args.at c.if-at-node.true there))) in
    let now = subst (λ b. IsNow c.take_out-out.new.nodes c.balance-rest.new.nodes c.balance-rest.result (balanced (taken_out c.args.at (top_open c.args.nodes.now c.args.top s is (there_some s c.args.at there) c.read-node.result c.read-node.ensures.node).left).rest c.args.top b (top_open c.args.nodes.now c.args.top s is (there_some s c.args.at there) c.read-node.result c.read-node.ensures.node).right)) (ap span_of c.block.ensures) (c.balance-rest.ensures.tree (taken_out c.args.at (top_open c.args.nodes.now c.args.top s is (there_some s c.args.at there) c.read-node.result c.read-node.ensures.node).left).rest (top_open c.args.nodes.now c.args.top s is (there_some s c.args.at there) c.read-node.result c.read-node.ensures.node).right sides) in
    taken_left c.args.nodes.now c.args.top s is (there_some s c.args.at there) c.read-node.result c.read-node.ensures.node c.args.at c.if-at-node.true c.take_out-out.new.nodes c.balance-rest.new.nodes c.take_out-out.result.index (span_of c.take_out-out.result.block) c.take_out-out.result.rest c.balance-rest.result (c.take_out-out.ensures.tree (top_open c.args.nodes.now c.args.top s is (there_some s c.args.at there) c.read-node.result c.read-node.ensures.node).left (left_tree c.args.nodes.now c.args.top s is (there_some s c.args.at there) c.read-node.result c.read-node.ensures.node) (there_left c.args.nodes.now c.args.top s is (there_some s c.args.at there) c.read-node.result c.read-node.ensures.node c.args.at c.if-at-node.true there)) now

pub returns-then-at-node-clause-cost : goal.returns-then-at-node-clause-cost
returns-then-at-node-clause-cost g t c = λ s is. omega (arith, c.take_out-out.ensures.cost (top_open c.args.nodes.now c.args.top s is (there_some s c.args.at (same_there c.args.nodes.now c.args.top c.requires.tree s c.args.at c.requires.is is c.requires.there)) c.read-node.result c.read-node.ensures.node).left (left_tree c.args.nodes.now c.args.top s is (there_some s c.args.at (same_there c.args.nodes.now c.args.top c.requires.tree s c.args.at c.requires.is is c.requires.there)) c.read-node.result c.read-node.ensures.node), c.balance-rest.ensures.cost, height_is c.args.nodes.now c.args.top s is (there_some s c.args.at (same_there c.args.nodes.now c.args.top c.requires.tree s c.args.at c.requires.is is c.requires.there)) c.read-node.result c.read-node.ensures.node)

pub take_out-out-requires-then-node-at : goal.take_out-out-requires-then-node-at
take_out-out-requires-then-node-at g t c κs within = (omega (arith, right_lower c.args.nodes.now c.args.top c.requires.tree c.requires.is (there_some c.requires.tree c.args.at c.requires.there) c.read-node.result c.read-node.ensures.node), (within, take_right c.args.nodes.now c.args.top c.requires.tree c.requires.is (there_some c.requires.tree c.args.at c.requires.there) c.read-node.result c.read-node.ensures.node c.args.at c.if-node-at.true c.requires.there))

pub balance-rest-requires-then-node-at : goal.balance-rest-requires-then-node-at
balance-rest-requires-then-node-at g t c = subst (λ b. HasSides c.take_out-out-then-node-at.new.nodes c.args.top b c.read-node.result.left c.take_out-out-then-node-at.result.rest) (sym (ap span_of c.block-then-node-at.ensures)) (record { l = (top_open c.args.nodes.now c.args.top c.requires.tree c.requires.is (there_some c.requires.tree c.args.at c.requires.there) c.read-node.result c.read-node.ensures.node).left; r = (taken_out c.args.at (top_open c.args.nodes.now c.args.top c.requires.tree c.requires.is (there_some c.requires.tree c.args.at c.requires.there) c.read-node.result c.read-node.ensures.node).right).rest; are = (take_sides_right c.args.nodes.now c.args.top c.requires.tree c.requires.is (there_some c.requires.tree c.args.at c.requires.there) c.read-node.result c.read-node.ensures.node c.args.at c.if-node-at.true c.requires.there c.take_out-out-then-node-at.new.nodes c.take_out-out-then-node-at.result.index (span_of c.take_out-out-then-node-at.result.block) c.take_out-out-then-node-at.result.rest (c.take_out-out-then-node-at.ensures.tree (top_open c.args.nodes.now c.args.top c.requires.tree c.requires.is (there_some c.requires.tree c.args.at c.requires.there) c.read-node.result c.read-node.ensures.node).right (right_tree c.args.nodes.now c.args.top c.requires.tree c.requires.is (there_some c.requires.tree c.args.at c.requires.there) c.read-node.result c.read-node.ensures.node) (there_right c.args.nodes.now c.args.top c.requires.tree c.requires.is (there_some c.requires.tree c.args.at c.requires.there) c.read-node.result c.read-node.ensures.node c.args.at c.if-node-at.true c.requires.there))) })

pub returns-then-node-at-clause-tree : goal.returns-then-node-at-clause-tree
returns-then-node-at-clause-tree g t c = λ s is there.
    let sides = subst (λ b. AreSides c.take_out-out-then-node-at.new.nodes c.args.top b c.read-node.result.left c.take_out-out-then-node-at.result.rest (top_open c.args.nodes.now c.args.top s is (there_some s c.args.at there) c.read-node.result c.read-node.ensures.node).left (taken_out c.args.at (top_open c.args.nodes.now c.args.top s is (there_some s c.args.at there) c.read-node.result c.read-node.ensures.node).right).rest) (sym (ap span_of c.block-then-node-at.ensures)) (take_sides_right c.args.nodes.now c.args.top s is (there_some s c.args.at there) c.read-node.result c.read-node.ensures.node c.args.at c.if-node-at.true there c.take_out-out-then-node-at.new.nodes c.take_out-out-then-node-at.result.index (span_of c.take_out-out-then-node-at.result.block) c.take_out-out-then-node-at.result.rest (c.take_out-out-then-node-at.ensures.tree (top_open c.args.nodes.now c.args.top s is (there_some s c.args.at there) c.read-node.result c.read-node.ensures.node).right (right_tree c.args.nodes.now c.args.top s is (there_some s c.args.at there) c.read-node.result c.read-node.ensures.node) (there_right c.args.nodes.now c.args.top s is (there_some s c.args.at there) c.read-node.result c.read-node.ensures.node c.args.at c.if-node-at.true there))) in
    let now = subst (λ b. IsNow c.take_out-out-then-node-at.new.nodes c.balance-rest-then-node-at.new.nodes c.balance-rest-then-node-at.result (balanced (top_open c.args.nodes.now c.args.top s is (there_some s c.args.at there) c.read-node.result c.read-node.ensures.node).left c.args.top b (taken_out c.args.at (top_open c.args.nodes.now c.args.top s is (there_some s c.args.at there) c.read-node.result c.read-node.ensures.node).right).rest)) (ap span_of c.block-then-node-at.ensures) (c.balance-rest-then-node-at.ensures.tree (top_open c.args.nodes.now c.args.top s is (there_some s c.args.at there) c.read-node.result c.read-node.ensures.node).left (taken_out c.args.at (top_open c.args.nodes.now c.args.top s is (there_some s c.args.at there) c.read-node.result c.read-node.ensures.node).right).rest sides) in
    taken_right c.args.nodes.now c.args.top s is (there_some s c.args.at there) c.read-node.result c.read-node.ensures.node c.args.at c.if-node-at.true c.take_out-out-then-node-at.new.nodes c.balance-rest-then-node-at.new.nodes c.take_out-out-then-node-at.result.index (span_of c.take_out-out-then-node-at.result.block) c.take_out-out-then-node-at.result.rest c.balance-rest-then-node-at.result (c.take_out-out-then-node-at.ensures.tree (top_open c.args.nodes.now c.args.top s is (there_some s c.args.at there) c.read-node.result c.read-node.ensures.node).right (right_tree c.args.nodes.now c.args.top s is (there_some s c.args.at there) c.read-node.result c.read-node.ensures.node) (there_right c.args.nodes.now c.args.top s is (there_some s c.args.at there) c.read-node.result c.read-node.ensures.node c.args.at c.if-node-at.true there)) now

pub returns-then-node-at-clause-cost : goal.returns-then-node-at-clause-cost
returns-then-node-at-clause-cost g t c = λ s is. omega (arith, c.take_out-out-then-node-at.ensures.cost (top_open c.args.nodes.now c.args.top s is (there_some s c.args.at (same_there c.args.nodes.now c.args.top c.requires.tree s c.args.at c.requires.is is c.requires.there)) c.read-node.result c.read-node.ensures.node).right (right_tree c.args.nodes.now c.args.top s is (there_some s c.args.at (same_there c.args.nodes.now c.args.top c.requires.tree s c.args.at c.requires.is is c.requires.there)) c.read-node.result c.read-node.ensures.node), c.balance-rest-then-node-at.ensures.cost, height_is c.args.nodes.now c.args.top s is (there_some s c.args.at (same_there c.args.nodes.now c.args.top c.requires.tree s c.args.at c.requires.is is c.requires.there)) c.read-node.result c.read-node.ensures.node)

pub merge-rest-requires : goal.merge-rest-requires
merge-rest-requires g t c = record { l = (top_open c.args.nodes.now c.args.top c.requires.tree c.requires.is (there_some c.requires.tree c.args.at c.requires.there) c.read-node.result c.read-node.ensures.node).left; r = (top_open c.args.nodes.now c.args.top c.requires.tree c.requires.is (there_some c.requires.tree c.args.at c.requires.there) c.read-node.result c.read-node.ensures.node).right; are = two c.args.nodes.now c.args.top c.requires.tree c.requires.is (there_some c.requires.tree c.args.at c.requires.there) c.read-node.result c.read-node.ensures.node }

pub returns-clause-tree : goal.returns-clause-tree
returns-clause-tree g t c = λ s is there. taken_here c.args.nodes.now c.args.top s is (there_some s c.args.at there) c.read-node.result c.read-node.ensures.node c.args.at c.if-node-at.false c.if-at-node.false c.merge-rest.new.nodes (span_of c.block-2.result) c.merge-rest.result (ap span_of c.block-2.ensures) (c.merge-rest.ensures.tree (top_open c.args.nodes.now c.args.top s is (there_some s c.args.at there) c.read-node.result c.read-node.ensures.node).left (top_open c.args.nodes.now c.args.top s is (there_some s c.args.at there) c.read-node.result c.read-node.ensures.node).right (two c.args.nodes.now c.args.top s is (there_some s c.args.at there) c.read-node.result c.read-node.ensures.node))

pub returns-clause-cost : goal.returns-clause-cost
returns-clause-cost g t c = λ s is. omega (arith, c.merge-rest.ensures.cost (top_open c.args.nodes.now c.args.top s is (there_some s c.args.at (same_there c.args.nodes.now c.args.top c.requires.tree s c.args.at c.requires.is is c.requires.there)) c.read-node.result c.read-node.ensures.node).left (top_open c.args.nodes.now c.args.top s is (there_some s c.args.at (same_there c.args.nodes.now c.args.top c.requires.tree s c.args.at c.requires.is is c.requires.there)) c.read-node.result c.read-node.ensures.node).right (two c.args.nodes.now c.args.top s is (there_some s c.args.at (same_there c.args.nodes.now c.args.top c.requires.tree s c.args.at c.requires.is is c.requires.there)) c.read-node.result c.read-node.ensures.node), height_is c.args.nodes.now c.args.top s is (there_some s c.args.at (same_there c.args.nodes.now c.args.top c.requires.tree s c.args.at c.requires.is is c.requires.there)) c.read-node.result c.read-node.ensures.node)
