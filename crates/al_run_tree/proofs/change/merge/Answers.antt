use Rattle.std.proofs.Common.{arith}
use Rattle.al_run_tree.specs.Balance.{first_out}
use Rattle.al_run_tree.specs.Table.{span_of}
use Rattle.al_run_tree.proofs.Reading.{some_at}
use Rattle.al_run_tree.proofs.Growing.{merge_none, merge_first, merge_sides, merge_now}
use Rattle.al_run_tree.proofs.change.merge.Goals as goal

pub returns-then-right-eq-NIL-clause-tree : goal.returns-then-right-eq-NIL-clause-tree
returns-then-right-eq-NIL-clause-tree g c = λ l r two. merge_none c.args.nodes.now c.args.left c.args.right l r two c.if-right-eq-NIL.true

pub first_out-out-requires : goal.first_out-out-requires
first_out-out-requires g c = merge_first c.args.nodes.now c.args.left c.args.right c.requires.l c.requires.r c.requires.are c.if-right-eq-NIL.false

pub balance-requires : goal.balance-requires
balance-requires g c = record { l = c.requires.l; r = (first_out c.requires.r).rest; are = (merge_sides c.args.nodes.now c.args.left c.args.right c.requires.l c.requires.r c.requires.are c.if-right-eq-NIL.false c.first_out-out.new.nodes c.first_out-out.result.index (span_of c.first_out-out.result.block) c.first_out-out.result.rest (c.first_out-out.ensures.tree c.requires.r c.requires.are.right_is (some_at c.args.nodes.now c.args.right c.requires.r c.requires.are.right_is c.if-right-eq-NIL.false))) }

pub returns-clause-tree : goal.returns-clause-tree
returns-clause-tree g c = λ l r two. merge_now c.args.nodes.now c.args.left c.args.right l r two c.if-right-eq-NIL.false c.first_out-out.new.nodes c.balance.new.nodes c.first_out-out.result.index (span_of c.first_out-out.result.block) c.first_out-out.result.rest c.balance.result (c.first_out-out.ensures.tree r two.right_is (some_at c.args.nodes.now c.args.right r two.right_is c.if-right-eq-NIL.false)) (c.balance.ensures.tree l (first_out r).rest (merge_sides c.args.nodes.now c.args.left c.args.right l r two c.if-right-eq-NIL.false c.first_out-out.new.nodes c.first_out-out.result.index (span_of c.first_out-out.result.block) c.first_out-out.result.rest (c.first_out-out.ensures.tree r two.right_is (some_at c.args.nodes.now c.args.right r two.right_is c.if-right-eq-NIL.false))))

pub returns-clause-cost : goal.returns-clause-cost
returns-clause-cost g c = λ l r two. omega (arith, c.first_out-out.ensures.cost r two.right_is, c.balance.ensures.cost)
