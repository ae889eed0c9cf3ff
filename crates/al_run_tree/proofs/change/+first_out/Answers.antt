use Rattle.std.proofs.Common.{sym, ap, subst, arith}
use Rattle.al_run_tree.specs.Balance.{balanced, first_out}
use Rattle.al_run_tree.specs.Table.{span_of, IsNow, HasSides, AreSides}
use Rattle.al_run_tree.proofs.Reading.{some_at, top_open, left_tree, height_is, left_lower}
use Rattle.al_run_tree.proofs.Growing.{out_end, out_first, out_sides, out_more, same_some}
use Rattle.al_run_tree.proofs.change.+first_out.Goals as goal

pub returns-then-node-eq-NIL-clause-tree : goal.returns-then-node-eq-NIL-clause-tree
returns-then-node-eq-NIL-clause-tree g t c = λ s is some. out_end c.args.nodes.now c.args.top s is some c.read-node.result c.read-node.ensures.node (span_of c.block.result) (ap span_of c.block.ensures) c.if-node-eq-NIL.true

pub first_out-out-requires : goal.first_out-out-requires
first_out-out-requires g t c κs within = (omega (arith, left_lower c.args.nodes.now c.args.top c.requires.tree c.requires.is c.requires.some c.read-node.result c.read-node.ensures.node), (within, out_first c.args.nodes.now c.args.top c.requires.tree c.requires.is c.requires.some c.read-node.result c.read-node.ensures.node c.if-node-eq-NIL.false))

pub balance-rest-requires : goal.balance-rest-requires
balance-rest-requires g t c = subst (λ b. HasSides c.first_out-out.new.nodes c.args.top b c.first_out-out.result.rest c.read-node.result.right) (sym (ap span_of c.block-2.ensures)) (record { l = (first_out (top_open c.args.nodes.now c.args.top c.requires.tree c.requires.is c.requires.some c.read-node.result c.read-node.ensures.node).left).rest; r = (top_open c.args.nodes.now c.args.top c.requires.tree c.requires.is c.requires.some c.read-node.result c.read-node.ensures.node).right; are = (out_sides c.args.nodes.now c.args.top c.requires.tree c.requires.is c.requires.some c.read-node.result c.read-node.ensures.node c.if-node-eq-NIL.false c.first_out-out.new.nodes c.first_out-out.result.index (span_of c.first_out-out.result.block) c.first_out-out.result.rest (c.first_out-out.ensures.tree (top_open c.args.nodes.now c.args.top c.requires.tree c.requires.is c.requires.some c.read-node.result c.read-node.ensures.node).left (left_tree c.args.nodes.now c.args.top c.requires.tree c.requires.is c.requires.some c.read-node.result c.read-node.ensures.node) (some_at c.args.nodes.now c.read-node.result.left (top_open c.args.nodes.now c.args.top c.requires.tree c.requires.is c.requires.some c.read-node.result c.read-node.ensures.node).left (left_tree c.args.nodes.now c.args.top c.requires.tree c.requires.is c.requires.some c.read-node.result c.read-node.ensures.node) c.if-node-eq-NIL.false))) })

pub returns-clause-tree : goal.returns-clause-tree
returns-clause-tree g t c = λ s is some.
    let sides = subst (λ b. AreSides c.first_out-out.new.nodes c.args.top b c.first_out-out.result.rest c.read-node.result.right (first_out (top_open c.args.nodes.now c.args.top s is some c.read-node.result c.read-node.ensures.node).left).rest (top_open c.args.nodes.now c.args.top s is some c.read-node.result c.read-node.ensures.node).right) (sym (ap span_of c.block-2.ensures)) (out_sides c.args.nodes.now c.args.top s is some c.read-node.result c.read-node.ensures.node c.if-node-eq-NIL.false c.first_out-out.new.nodes c.first_out-out.result.index (span_of c.first_out-out.result.block) c.first_out-out.result.rest (c.first_out-out.ensures.tree (top_open c.args.nodes.now c.args.top s is some c.read-node.result c.read-node.ensures.node).left (left_tree c.args.nodes.now c.args.top s is some c.read-node.result c.read-node.ensures.node) (some_at c.args.nodes.now c.read-node.result.left (top_open c.args.nodes.now c.args.top s is some c.read-node.result c.read-node.ensures.node).left (left_tree c.args.nodes.now c.args.top s is some c.read-node.result c.read-node.ensures.node) c.if-node-eq-NIL.false))) in
    let now = subst (λ b. IsNow c.first_out-out.new.nodes c.balance-rest.new.nodes c.balance-rest.result (balanced (first_out (top_open c.args.nodes.now c.args.top s is some c.read-node.result c.read-node.ensures.node).left).rest c.args.top b (top_open c.args.nodes.now c.args.top s is some c.read-node.result c.read-node.ensures.node).right)) (ap span_of c.block-2.ensures) (c.balance-rest.ensures.tree (first_out (top_open c.args.nodes.now c.args.top s is some c.read-node.result c.read-node.ensures.node).left).rest (top_open c.args.nodes.now c.args.top s is some c.read-node.result c.read-node.ensures.node).right sides) in
    out_more c.args.nodes.now c.args.top s is some c.read-node.result c.read-node.ensures.node c.if-node-eq-NIL.false c.first_out-out.new.nodes c.balance-rest.new.nodes c.first_out-out.result.index (span_of c.first_out-out.result.block) c.first_out-out.result.rest c.balance-rest.result (c.first_out-out.ensures.tree (top_open c.args.nodes.now c.args.top s is some c.read-node.result c.read-node.ensures.node).left (left_tree c.args.nodes.now c.args.top s is some c.read-node.result c.read-node.ensures.node) (some_at c.args.nodes.now c.read-node.result.left (top_open c.args.nodes.now c.args.top s is some c.read-node.result c.read-node.ensures.node).left (left_tree c.args.nodes.now c.args.top s is some c.read-node.result c.read-node.ensures.node) c.if-node-eq-NIL.false)) now

pub returns-then-node-eq-NIL-clause-cost : goal.returns-then-node-eq-NIL-clause-cost
returns-then-node-eq-NIL-clause-cost g t c = λ s is. omega (arith, height_is c.args.nodes.now c.args.top s is (same_some c.args.nodes.now c.args.top c.requires.tree s c.requires.is is c.requires.some) c.read-node.result c.read-node.ensures.node)

pub returns-clause-cost : goal.returns-clause-cost
returns-clause-cost g t c = λ s is. omega (arith, c.first_out-out.ensures.cost (top_open c.args.nodes.now c.args.top s is (same_some c.args.nodes.now c.args.top c.requires.tree s c.requires.is is c.requires.some) c.read-node.result c.read-node.ensures.node).left (left_tree c.args.nodes.now c.args.top s is (same_some c.args.nodes.now c.args.top c.requires.tree s c.requires.is is c.requires.some) c.read-node.result c.read-node.ensures.node), c.balance-rest.ensures.cost, height_is c.args.nodes.now c.args.top s is (same_some c.args.nodes.now c.args.top c.requires.tree s c.requires.is is c.requires.some) c.read-node.result c.read-node.ensures.node)
