use Rattle.std.proofs.Common.{ap, ◌∙◌, arith}
use Rattle.al_run_tree.specs.declared.node.Node.{Node}
use Rattle.al_run_tree.specs.Table.{span_of}
use Rattle.al_run_tree.proofs.Held.{held-within, joins}
use Rattle.al_run_tree.proofs.Turning.{left-height, right-height}
use Rattle.al_run_tree.proofs.nodes.Nodes.join.Goals as goal

pub read-high-requires : goal.read-high-requires
read-high-requires g c = rw c.requires.are.right_is (held-within c.args.self.now c.requires.r c.requires.are.right_holds)

pub over-requires-clause-left_short : goal.over-requires-clause-left_short
over-requires-clause-left_short g c =
    let height = ap (λ (x : Node). x.height) c.read-low.ensures.node ∙ left-height c.args.self.now c.args.index (span_of c.args.block) c.args.left c.args.right c.requires.l c.requires.r c.requires.are in
    omega (arith, height, c.requires.are.left_short)

pub over-requires-clause-right_short : goal.over-requires-clause-right_short
over-requires-clause-right_short g c =
    let height = ap (λ (x : Node). x.height) c.read-high.ensures.node ∙ right-height c.args.self.now c.args.index (span_of c.args.block) c.args.left c.args.right c.requires.l c.requires.r c.requires.are in
    omega (arith, height, c.requires.are.right_short)

pub returns-clause-tree : goal.returns-clause-tree
returns-clause-tree g c = λ l r s. joins c.args.self.now c.write.new.self c.args.index (span_of c.args.block) c.args.left c.args.right l r s (rw (c.over.ensures, c.read-low.ensures.node, c.read-high.ensures.node) at c.write.ensures.written)
