use Rattle.std.proofs.Common.{sym, ap, subst, arith}
use Rattle.al_run_tree.specs.Tree.{Leaf}
use Rattle.al_run_tree.specs.Balance.{balanced, inserted}
use Rattle.al_run_tree.specs.Table.{span_of, IsNow, HasSides, AreSides}
use Rattle.al_run_tree.proofs.Reading.{some_at, top_open, left_tree, right_tree, height_is, left_lower, right_lower}
use Rattle.al_run_tree.proofs.Growing.{leaf_sides, leaf_now, fresh_left, fresh_right, insert_left, insert_right, now_left, now_right}
use Rattle.al_run_tree.proofs.change.+insert.Goals as goal

pub join-requires : goal.join-requires
join-requires g t c = record { l = Leaf; r = Leaf; are = (leaf_sides c.args.nodes.now c.args.top c.args.new (span_of c.args.block) c.requires.tree c.requires.is c.requires.some c.requires.within c.requires.low) }

pub returns-then-top-eq-NIL-clause-tree : goal.returns-then-top-eq-NIL-clause-tree
returns-then-top-eq-NIL-clause-tree g t c = λ s is fresh. leaf_now c.args.nodes.now c.join.new.self c.args.top c.args.new (span_of c.args.block) s is c.if-top-eq-NIL.true (c.join.ensures.tree Leaf Leaf (leaf_sides c.args.nodes.now c.args.top c.args.new (span_of c.args.block) c.requires.tree c.requires.is c.requires.some c.requires.within c.requires.low))

pub insert-left-requires : goal.insert-left-requires
insert-left-requires g t c κs within = (omega (arith, left_lower c.args.nodes.now c.args.top c.requires.tree c.requires.is (some_at c.args.nodes.now c.args.top c.requires.tree c.requires.is c.if-top-eq-NIL.false) c.read-node.result c.read-node.ensures.node), (within, record { tree = (top_open c.args.nodes.now c.args.top c.requires.tree c.requires.is (some_at c.args.nodes.now c.args.top c.requires.tree c.requires.is c.if-top-eq-NIL.false) c.read-node.result c.read-node.ensures.node).left; is = left_tree c.args.nodes.now c.args.top c.requires.tree c.requires.is (some_at c.args.nodes.now c.args.top c.requires.tree c.requires.is c.if-top-eq-NIL.false) c.read-node.result c.read-node.ensures.node; fresh = fresh_left c.args.nodes.now c.args.top c.requires.tree c.requires.is (some_at c.args.nodes.now c.args.top c.requires.tree c.requires.is c.if-top-eq-NIL.false) c.read-node.result c.read-node.ensures.node c.args.new (span_of c.args.block) c.requires.fresh; some = c.requires.some; within = c.requires.within; low = c.requires.low }))

pub balance-requires : goal.balance-requires
balance-requires g t c = subst (λ b. HasSides c.insert-left.new.nodes c.args.top b c.insert-left.result c.read-node.result.right) (sym (ap span_of c.block.ensures)) (record { l = (inserted c.args.new (span_of c.args.block) (top_open c.args.nodes.now c.args.top c.requires.tree c.requires.is (some_at c.args.nodes.now c.args.top c.requires.tree c.requires.is c.if-top-eq-NIL.false) c.read-node.result c.read-node.ensures.node).left); r = (top_open c.args.nodes.now c.args.top c.requires.tree c.requires.is (some_at c.args.nodes.now c.args.top c.requires.tree c.requires.is c.if-top-eq-NIL.false) c.read-node.result c.read-node.ensures.node).right; are = (insert_left c.args.nodes.now c.args.top c.requires.tree c.requires.is (some_at c.args.nodes.now c.args.top c.requires.tree c.requires.is c.if-top-eq-NIL.false) c.read-node.result c.read-node.ensures.node c.args.new (span_of c.args.block) c.requires.fresh c.insert-left.new.nodes c.insert-left.result (c.insert-left.ensures.tree (top_open c.args.nodes.now c.args.top c.requires.tree c.requires.is (some_at c.args.nodes.now c.args.top c.requires.tree c.requires.is c.if-top-eq-NIL.false) c.read-node.result c.read-node.ensures.node).left (left_tree c.args.nodes.now c.args.top c.requires.tree c.requires.is (some_at c.args.nodes.now c.args.top c.requires.tree c.requires.is c.if-top-eq-NIL.false) c.read-node.result c.read-node.ensures.node) (fresh_left c.args.nodes.now c.args.top c.requires.tree c.requires.is (some_at c.args.nodes.now c.args.top c.requires.tree c.requires.is c.if-top-eq-NIL.false) c.read-node.result c.read-node.ensures.node c.args.new (span_of c.args.block) c.requires.fresh))) })

pub returns-then-block-node-clause-tree : goal.returns-then-block-node-clause-tree
returns-then-block-node-clause-tree g t c = λ s is fresh.
    let sides = subst (λ b. AreSides c.insert-left.new.nodes c.args.top b c.insert-left.result c.read-node.result.right (inserted c.args.new (span_of c.args.block) (top_open c.args.nodes.now c.args.top s is (some_at c.args.nodes.now c.args.top s is c.if-top-eq-NIL.false) c.read-node.result c.read-node.ensures.node).left) (top_open c.args.nodes.now c.args.top s is (some_at c.args.nodes.now c.args.top s is c.if-top-eq-NIL.false) c.read-node.result c.read-node.ensures.node).right) (sym (ap span_of c.block.ensures)) (insert_left c.args.nodes.now c.args.top s is (some_at c.args.nodes.now c.args.top s is c.if-top-eq-NIL.false) c.read-node.result c.read-node.ensures.node c.args.new (span_of c.args.block) fresh c.insert-left.new.nodes c.insert-left.result (c.insert-left.ensures.tree (top_open c.args.nodes.now c.args.top s is (some_at c.args.nodes.now c.args.top s is c.if-top-eq-NIL.false) c.read-node.result c.read-node.ensures.node).left (left_tree c.args.nodes.now c.args.top s is (some_at c.args.nodes.now c.args.top s is c.if-top-eq-NIL.false) c.read-node.result c.read-node.ensures.node) (fresh_left c.args.nodes.now c.args.top s is (some_at c.args.nodes.now c.args.top s is c.if-top-eq-NIL.false) c.read-node.result c.read-node.ensures.node c.args.new (span_of c.args.block) fresh))) in
    let now = subst (λ b. IsNow c.insert-left.new.nodes c.balance.new.nodes c.balance.result (balanced (inserted c.args.new (span_of c.args.block) (top_open c.args.nodes.now c.args.top s is (some_at c.args.nodes.now c.args.top s is c.if-top-eq-NIL.false) c.read-node.result c.read-node.ensures.node).left) c.args.top b (top_open c.args.nodes.now c.args.top s is (some_at c.args.nodes.now c.args.top s is c.if-top-eq-NIL.false) c.read-node.result c.read-node.ensures.node).right)) (ap span_of c.block.ensures) (c.balance.ensures.tree (inserted c.args.new (span_of c.args.block) (top_open c.args.nodes.now c.args.top s is (some_at c.args.nodes.now c.args.top s is c.if-top-eq-NIL.false) c.read-node.result c.read-node.ensures.node).left) (top_open c.args.nodes.now c.args.top s is (some_at c.args.nodes.now c.args.top s is c.if-top-eq-NIL.false) c.read-node.result c.read-node.ensures.node).right sides) in
    now_left c.args.nodes.now c.args.top s is (some_at c.args.nodes.now c.args.top s is c.if-top-eq-NIL.false) c.read-node.result c.read-node.ensures.node c.args.new (span_of c.args.block) fresh c.if-block-node.true c.insert-left.new.nodes c.balance.new.nodes c.insert-left.result c.balance.result (c.insert-left.ensures.tree (top_open c.args.nodes.now c.args.top s is (some_at c.args.nodes.now c.args.top s is c.if-top-eq-NIL.false) c.read-node.result c.read-node.ensures.node).left (left_tree c.args.nodes.now c.args.top s is (some_at c.args.nodes.now c.args.top s is c.if-top-eq-NIL.false) c.read-node.result c.read-node.ensures.node) (fresh_left c.args.nodes.now c.args.top s is (some_at c.args.nodes.now c.args.top s is c.if-top-eq-NIL.false) c.read-node.result c.read-node.ensures.node c.args.new (span_of c.args.block) fresh)) now

pub returns-then-block-node-clause-cost : goal.returns-then-block-node-clause-cost
returns-then-block-node-clause-cost g t c = λ s is. omega (arith, c.insert-left.ensures.cost (top_open c.args.nodes.now c.args.top s is (some_at c.args.nodes.now c.args.top s is c.if-top-eq-NIL.false) c.read-node.result c.read-node.ensures.node).left (left_tree c.args.nodes.now c.args.top s is (some_at c.args.nodes.now c.args.top s is c.if-top-eq-NIL.false) c.read-node.result c.read-node.ensures.node), c.balance.ensures.cost, height_is c.args.nodes.now c.args.top s is (some_at c.args.nodes.now c.args.top s is c.if-top-eq-NIL.false) c.read-node.result c.read-node.ensures.node)

pub insert-right-requires : goal.insert-right-requires
insert-right-requires g t c κs within = (omega (arith, right_lower c.args.nodes.now c.args.top c.requires.tree c.requires.is (some_at c.args.nodes.now c.args.top c.requires.tree c.requires.is c.if-top-eq-NIL.false) c.read-node.result c.read-node.ensures.node), (within, record { tree = (top_open c.args.nodes.now c.args.top c.requires.tree c.requires.is (some_at c.args.nodes.now c.args.top c.requires.tree c.requires.is c.if-top-eq-NIL.false) c.read-node.result c.read-node.ensures.node).right; is = right_tree c.args.nodes.now c.args.top c.requires.tree c.requires.is (some_at c.args.nodes.now c.args.top c.requires.tree c.requires.is c.if-top-eq-NIL.false) c.read-node.result c.read-node.ensures.node; fresh = fresh_right c.args.nodes.now c.args.top c.requires.tree c.requires.is (some_at c.args.nodes.now c.args.top c.requires.tree c.requires.is c.if-top-eq-NIL.false) c.read-node.result c.read-node.ensures.node c.args.new (span_of c.args.block) c.requires.fresh; some = c.requires.some; within = c.requires.within; low = c.requires.low }))

pub balance-requires-2 : goal.balance-requires-2
balance-requires-2 g t c = subst (λ b. HasSides c.insert-right.new.nodes c.args.top b c.read-node.result.left c.insert-right.result) (sym (ap span_of c.block-2.ensures)) (record { l = (top_open c.args.nodes.now c.args.top c.requires.tree c.requires.is (some_at c.args.nodes.now c.args.top c.requires.tree c.requires.is c.if-top-eq-NIL.false) c.read-node.result c.read-node.ensures.node).left; r = (inserted c.args.new (span_of c.args.block) (top_open c.args.nodes.now c.args.top c.requires.tree c.requires.is (some_at c.args.nodes.now c.args.top c.requires.tree c.requires.is c.if-top-eq-NIL.false) c.read-node.result c.read-node.ensures.node).right); are = (insert_right c.args.nodes.now c.args.top c.requires.tree c.requires.is (some_at c.args.nodes.now c.args.top c.requires.tree c.requires.is c.if-top-eq-NIL.false) c.read-node.result c.read-node.ensures.node c.args.new (span_of c.args.block) c.requires.fresh c.insert-right.new.nodes c.insert-right.result (c.insert-right.ensures.tree (top_open c.args.nodes.now c.args.top c.requires.tree c.requires.is (some_at c.args.nodes.now c.args.top c.requires.tree c.requires.is c.if-top-eq-NIL.false) c.read-node.result c.read-node.ensures.node).right (right_tree c.args.nodes.now c.args.top c.requires.tree c.requires.is (some_at c.args.nodes.now c.args.top c.requires.tree c.requires.is c.if-top-eq-NIL.false) c.read-node.result c.read-node.ensures.node) (fresh_right c.args.nodes.now c.args.top c.requires.tree c.requires.is (some_at c.args.nodes.now c.args.top c.requires.tree c.requires.is c.if-top-eq-NIL.false) c.read-node.result c.read-node.ensures.node c.args.new (span_of c.args.block) c.requires.fresh))) })

pub returns-clause-tree : goal.returns-clause-tree
returns-clause-tree g t c = λ s is fresh.
    let sides = subst (λ b. AreSides c.insert-right.new.nodes c.args.top b c.read-node.result.left c.insert-right.result (top_open c.args.nodes.now c.args.top s is (some_at c.args.nodes.now c.args.top s is c.if-top-eq-NIL.false) c.read-node.result c.read-node.ensures.node).left (inserted c.args.new (span_of c.args.block) (top_open c.args.nodes.now c.args.top s is (some_at c.args.nodes.now c.args.top s is c.if-top-eq-NIL.false) c.read-node.result c.read-node.ensures.node).right)) (sym (ap span_of c.block-2.ensures)) (insert_right c.args.nodes.now c.args.top s is (some_at c.args.nodes.now c.args.top s is c.if-top-eq-NIL.false) c.read-node.result c.read-node.ensures.node c.args.new (span_of c.args.block) fresh c.insert-right.new.nodes c.insert-right.result (c.insert-right.ensures.tree (top_open c.args.nodes.now c.args.top s is (some_at c.args.nodes.now c.args.top s is c.if-top-eq-NIL.false) c.read-node.result c.read-node.ensures.node).right (right_tree c.args.nodes.now c.args.top s is (some_at c.args.nodes.now c.args.top s is c.if-top-eq-NIL.false) c.read-node.result c.read-node.ensures.node) (fresh_right c.args.nodes.now c.args.top s is (some_at c.args.nodes.now c.args.top s is c.if-top-eq-NIL.false) c.read-node.result c.read-node.ensures.node c.args.new (span_of c.args.block) fresh))) in
    let now = subst (λ b. IsNow c.insert-right.new.nodes c.balance-2.new.nodes c.balance-2.result (balanced (top_open c.args.nodes.now c.args.top s is (some_at c.args.nodes.now c.args.top s is c.if-top-eq-NIL.false) c.read-node.result c.read-node.ensures.node).left c.args.top b (inserted c.args.new (span_of c.args.block) (top_open c.args.nodes.now c.args.top s is (some_at c.args.nodes.now c.args.top s is c.if-top-eq-NIL.false) c.read-node.result c.read-node.ensures.node).right))) (ap span_of c.block-2.ensures) (c.balance-2.ensures.tree (top_open c.args.nodes.now c.args.top s is (some_at c.args.nodes.now c.args.top s is c.if-top-eq-NIL.false) c.read-node.result c.read-node.ensures.node).left (inserted c.args.new (span_of c.args.block) (top_open c.args.nodes.now c.args.top s is (some_at c.args.nodes.now c.args.top s is c.if-top-eq-NIL.false) c.read-node.result c.read-node.ensures.node).right) sides) in
    now_right c.args.nodes.now c.args.top s is (some_at c.args.nodes.now c.args.top s is c.if-top-eq-NIL.false) c.read-node.result c.read-node.ensures.node c.args.new (span_of c.args.block) fresh c.if-block-node.false c.insert-right.new.nodes c.balance-2.new.nodes c.insert-right.result c.balance-2.result (c.insert-right.ensures.tree (top_open c.args.nodes.now c.args.top s is (some_at c.args.nodes.now c.args.top s is c.if-top-eq-NIL.false) c.read-node.result c.read-node.ensures.node).right (right_tree c.args.nodes.now c.args.top s is (some_at c.args.nodes.now c.args.top s is c.if-top-eq-NIL.false) c.read-node.result c.read-node.ensures.node) (fresh_right c.args.nodes.now c.args.top s is (some_at c.args.nodes.now c.args.top s is c.if-top-eq-NIL.false) c.read-node.result c.read-node.ensures.node c.args.new (span_of c.args.block) fresh)) now

pub returns-clause-cost : goal.returns-clause-cost
returns-clause-cost g t c = λ s is. omega (arith, c.insert-right.ensures.cost (top_open c.args.nodes.now c.args.top s is (some_at c.args.nodes.now c.args.top s is c.if-top-eq-NIL.false) c.read-node.result c.read-node.ensures.node).right (right_tree c.args.nodes.now c.args.top s is (some_at c.args.nodes.now c.args.top s is c.if-top-eq-NIL.false) c.read-node.result c.read-node.ensures.node), c.balance-2.ensures.cost, height_is c.args.nodes.now c.args.top s is (some_at c.args.nodes.now c.args.top s is c.if-top-eq-NIL.false) c.read-node.result c.read-node.ensures.node)
