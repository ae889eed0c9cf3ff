use Rattle.std.proofs.Common.{refl, sym, ap, subst, ◌∙◌, arith}
use Rattle.al_run_tree.specs.declared.node.Node.{Node}
use Rattle.al_run_tree.specs.Table.{span_of, IsNow}
use Rattle.al_run_tree.proofs.Held.{held-within}
use Rattle.al_run_tree.proofs.Turning.{left-height, right-height, balanced-right, balanced-left, balanced-even}
use Rattle.al_run_tree.proofs.balance.balance.Goals as goal

pub read-low-requires : goal.read-low-requires
read-low-requires g c = rw c.requires.are.left_is (held-within c.args.nodes.now c.requires.l c.requires.are.left_holds)

pub read-high-requires : goal.read-high-requires
read-high-requires g c = rw c.requires.are.right_is (held-within c.args.nodes.now c.requires.r c.requires.are.right_holds)

pub overflow_add-high : goal.overflow_add-high
overflow_add-high g c =
    let low = ap (λ (x : Node). x.height) c.read-low.ensures.node ∙ left-height c.args.nodes.now c.args.index (span_of c.args.block) c.args.left c.args.right c.requires.l c.requires.r c.requires.are in
    let high = ap (λ (x : Node). x.height) c.read-high.ensures.node ∙ right-height c.args.nodes.now c.args.index (span_of c.args.block) c.args.left c.args.right c.requires.l c.requires.r c.requires.are in
    omega (arith, high, c.requires.are.right_short)

pub overflow_add-low : goal.overflow_add-low
overflow_add-low g c =
    let low = ap (λ (x : Node). x.height) c.read-low.ensures.node ∙ left-height c.args.nodes.now c.args.index (span_of c.args.block) c.args.left c.args.right c.requires.l c.requires.r c.requires.are in
    let high = ap (λ (x : Node). x.height) c.read-high.ensures.node ∙ right-height c.args.nodes.now c.args.index (span_of c.args.block) c.args.left c.args.right c.requires.l c.requires.r c.requires.are in
    omega (arith, low, c.requires.are.left_short)

pub turn_right-requires : goal.turn_right-requires
turn_right-requires g c =
    let low = ap (λ (x : Node). x.height) c.read-low.ensures.node ∙ left-height c.args.nodes.now c.args.index (span_of c.args.block) c.args.left c.args.right c.requires.l c.requires.r c.requires.are in
    let high = ap (λ (x : Node). x.height) c.read-high.ensures.node ∙ right-height c.args.nodes.now c.args.index (span_of c.args.block) c.args.left c.args.right c.requires.l c.requires.r c.requires.are in
    record { l = c.requires.l; r = c.requires.r; are = c.requires.are; leans = omega (arith, low, high, c.if-high-low.true) }

pub turn_left-requires : goal.turn_left-requires
turn_left-requires g c =
    let low = ap (λ (x : Node). x.height) c.read-low.ensures.node ∙ left-height c.args.nodes.now c.args.index (span_of c.args.block) c.args.left c.args.right c.requires.l c.requires.r c.requires.are in
    let high = ap (λ (x : Node). x.height) c.read-high.ensures.node ∙ right-height c.args.nodes.now c.args.index (span_of c.args.block) c.args.left c.args.right c.requires.l c.requires.r c.requires.are in
    record { l = c.requires.l; r = c.requires.r; are = c.requires.are; leans = omega (arith, low, high, c.if-low-high.true) }

pub returns-then-high-low-clause-tree : goal.returns-then-high-low-clause-tree
returns-then-high-low-clause-tree g c = λ l r s.
    let low = ap (λ (x : Node). x.height) c.read-low.ensures.node ∙ left-height c.args.nodes.now c.args.index (span_of c.args.block) c.args.left c.args.right l r s in
    let high = ap (λ (x : Node). x.height) c.read-high.ensures.node ∙ right-height c.args.nodes.now c.args.index (span_of c.args.block) c.args.left c.args.right l r s in
    subst (λ w. IsNow c.args.nodes.now c.turn_right.new.nodes c.turn_right.result w) (sym (balanced-right l c.args.index (span_of c.args.block) r (omega (arith, low, high, c.if-high-low.true)))) (c.turn_right.ensures.tree l r s (omega (arith, low, high, c.if-high-low.true)))

pub returns-then-low-high-clause-tree : goal.returns-then-low-high-clause-tree
returns-then-low-high-clause-tree g c = λ l r s.
    let low = ap (λ (x : Node). x.height) c.read-low.ensures.node ∙ left-height c.args.nodes.now c.args.index (span_of c.args.block) c.args.left c.args.right l r s in
    let high = ap (λ (x : Node). x.height) c.read-high.ensures.node ∙ right-height c.args.nodes.now c.args.index (span_of c.args.block) c.args.left c.args.right l r s in
    subst (λ w. IsNow c.args.nodes.now c.turn_left.new.nodes c.turn_left.result w) (sym (balanced-left l c.args.index (span_of c.args.block) r (omega (arith, low, high, c.if-low-high.true)))) (c.turn_left.ensures.tree l r s (omega (arith, low, high, c.if-low-high.true)))

pub returns-clause-tree : goal.returns-clause-tree
returns-clause-tree g c = λ l r s.
    let low = ap (λ (x : Node). x.height) c.read-low.ensures.node ∙ left-height c.args.nodes.now c.args.index (span_of c.args.block) c.args.left c.args.right l r s in
    let high = ap (λ (x : Node). x.height) c.read-high.ensures.node ∙ right-height c.args.nodes.now c.args.index (span_of c.args.block) c.args.left c.args.right l r s in
    subst (λ w. IsNow c.args.nodes.now c.join.new.self c.args.index w) (sym (balanced-even l c.args.index (span_of c.args.block) r (omega (arith, low, high, c.if-high-low.false)) (omega (arith, low, high, c.if-low-high.false)))) (record { became = c.join.ensures.tree l r s; top_is = refl })
