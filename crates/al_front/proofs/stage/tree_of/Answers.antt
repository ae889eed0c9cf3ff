use Rattle.std.proofs.Common.{◌≡◌, Result, Ok, ap}
use Rattle.std.proofs.lemmas.Result.{err_from_is_err_and}
use Rattle.al_tree.specs.declared.item.Tree.{Tree}
use Rattle.al_tree.specs.declared.fault.ParseStop.{ParseStop}
use Rattle.al_front.proofs.Trees.{tree_of_tokens, treeless_refuses, treeless_only}
use Rattle.al_front.proofs.stage.tree_of.Goals as goal

pub returns-in_err-tree-clause-refused : goal.returns-in_err-tree-clause-refused
returns-in_err-tree-clause-refused c =
    let p = err_from_is_err_and c.from_residual-in_err-tree.result c.from_residual-in_err-tree.ensures.1 in
    treeless_refuses c.args.text.now c.in_ok-tokens.tokens c.in_ok-tokens.ensures.text c.from_residual-in_err-tree.result p.0 p.1 _ p.2 c.requires c.in_ok-tokens.ensures.tokens
    c.in_err-tree.ensures.fault c.in_err-tree.ensures.whole

pub returns-in_err-tree-clause-whole : goal.returns-in_err-tree-clause-whole
returns-in_err-tree-clause-whole c =
    let p = err_from_is_err_and c.from_residual-in_err-tree.result c.from_residual-in_err-tree.ensures.1 in
    treeless_only c.args.text.now c.in_ok-tokens.tokens c.in_ok-tokens.ensures.text c.from_residual-in_err-tree.result p.0 p.1 _ p.2 c.in_ok-tokens.ensures.only c.in_err-tree.ensures.whole

pub returns-clause-whole : goal.returns-clause-whole
returns-clause-whole c = λ tree read some.
    let tokens = tree_of_tokens c.args.text.now c.in_ok-tokens.tokens c.in_ok-tokens.ensures.text tree c.in_ok-tokens.ensures.only read in
    let e : ◌≡◌ {A = Result Tree ParseStop} (Ok c.in_ok-tree.tree) (Ok tree) = c.in_ok-tree.ensures.whole tree tokens (λ e. cc) in
    let same : c.in_ok-tree.tree ≡ tree = cc in
    ap Ok same
