use Rattle.std.proofs.Common.{refl, ap, arith}
use Rattle.al_run_tree.specs.declared.node.Node.{Node}
use Rattle.al_run_tree.specs.Table.{block_of, span_of}
use Rattle.al_run_tree.proofs.Held.{held-within}
use Rattle.al_run_tree.proofs.Turning.{single_right-a, single_right-b, single_right-c, double_right-a, double_right-b, double_right-c, double_right-d, child-outer_right, child-inner_right}
use Rattle.al_run_tree.proofs.balance.turn_right.Goals as goal

pub read-top-requires : goal.read-top-requires
read-top-requires g c = rw c.requires.are.left_is (held-within c.args.nodes.now c.requires.l c.requires.are.left_holds)

pub read-outer-requires : goal.read-outer-requires
read-outer-requires g c = child-outer_right c.args.nodes.now c.args.index (span_of c.args.block) c.args.left c.args.right c.requires.l c.requires.r c.requires.are c.requires.leans c.read-top.result c.read-top.ensures.node (block_of c.read-top.result) refl

pub read-inner-requires : goal.read-inner-requires
read-inner-requires g c = child-inner_right c.args.nodes.now c.args.index (span_of c.args.block) c.args.left c.args.right c.requires.l c.requires.r c.requires.are c.requires.leans c.read-top.result c.read-top.ensures.node (block_of c.read-top.result) refl

pub join-requires : goal.join-requires
join-requires g c = single_right-a c.args.nodes.now c.args.index (span_of c.args.block) c.args.left c.args.right c.requires.l c.requires.r c.requires.are c.requires.leans c.read-top.result c.read-top.ensures.node (block_of c.read-top.result) refl

pub join-requires-then-inner-outer : goal.join-requires-then-inner-outer
join-requires-then-inner-outer g c = single_right-b c.args.nodes.now c.args.index (span_of c.args.block) c.args.left c.args.right c.requires.l c.requires.r c.requires.are c.requires.leans c.read-top.result c.read-top.ensures.node (span_of c.block.result) (ap span_of c.block.ensures) c.join.new.self c.join.ensures.tree

pub returns-then-inner-outer-clause-tree : goal.returns-then-inner-outer-clause-tree
returns-then-inner-outer-clause-tree g c = λ l r s leans.
    let inner = ap (λ (x : Node). x.height) c.read-inner.ensures.node in let outer = ap (λ (x : Node). x.height) c.read-outer.ensures.node in
    single_right-c c.args.nodes.now c.args.index (span_of c.args.block) c.args.left c.args.right l r s leans c.read-top.result c.read-top.ensures.node (span_of c.block.result) (ap span_of c.block.ensures) c.join.new.self c.join-then-inner-outer.new.self c.join.ensures.tree c.join-then-inner-outer.ensures.tree (omega (arith, inner, outer, c.if-inner-outer.true))

pub join-requires-2 : goal.join-requires-2
join-requires-2 g c =
    let inner = ap (λ (x : Node). x.height) c.read-inner.ensures.node in let outer = ap (λ (x : Node). x.height) c.read-outer.ensures.node in
    double_right-a c.args.nodes.now c.args.index (span_of c.args.block) c.args.left c.args.right c.requires.l c.requires.r c.requires.are c.requires.leans c.read-top.result c.read-top.ensures.node (span_of c.block-2.result) (ap span_of c.block-2.ensures) (omega (arith, inner, outer, c.if-inner-outer.false)) c.read-inner.result c.read-inner.ensures.node (block_of c.read-inner.result) refl

pub join-requires-3 : goal.join-requires-3
join-requires-3 g c =
    let inner = ap (λ (x : Node). x.height) c.read-inner.ensures.node in let outer = ap (λ (x : Node). x.height) c.read-outer.ensures.node in
    double_right-b c.args.nodes.now c.args.index (span_of c.args.block) c.args.left c.args.right c.requires.l c.requires.r c.requires.are c.requires.leans c.read-top.result c.read-top.ensures.node (span_of c.block-2.result) (ap span_of c.block-2.ensures) (omega (arith, inner, outer, c.if-inner-outer.false)) c.read-inner.result c.read-inner.ensures.node (block_of c.read-inner.result) refl c.join-2.new.self c.join-2.ensures.tree

pub join-requires-4 : goal.join-requires-4
join-requires-4 g c =
    let inner = ap (λ (x : Node). x.height) c.read-inner.ensures.node in let outer = ap (λ (x : Node). x.height) c.read-outer.ensures.node in
    double_right-c c.args.nodes.now c.args.index (span_of c.args.block) c.args.left c.args.right c.requires.l c.requires.r c.requires.are c.requires.leans c.read-top.result c.read-top.ensures.node (span_of c.block-2.result) (ap span_of c.block-2.ensures) (omega (arith, inner, outer, c.if-inner-outer.false)) c.read-inner.result c.read-inner.ensures.node (span_of c.block-3.result) (ap span_of c.block-3.ensures) c.join-2.new.self c.join-2.ensures.tree c.join-3.new.self c.join-3.ensures.tree

pub returns-clause-tree : goal.returns-clause-tree
returns-clause-tree g c = λ l r s leans.
    let inner = ap (λ (x : Node). x.height) c.read-inner.ensures.node in let outer = ap (λ (x : Node). x.height) c.read-outer.ensures.node in
    double_right-d c.args.nodes.now c.args.index (span_of c.args.block) c.args.left c.args.right l r s leans c.read-top.result c.read-top.ensures.node (span_of c.block-2.result) (ap span_of c.block-2.ensures) (omega (arith, inner, outer, c.if-inner-outer.false)) c.read-inner.result c.read-inner.ensures.node (span_of c.block-3.result) (ap span_of c.block-3.ensures) c.join-2.new.self c.join-2.ensures.tree c.join-3.new.self c.join-3.ensures.tree c.join-4.new.self c.join-4.ensures.tree
