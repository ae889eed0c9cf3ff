use Rattle.std.proofs.Common.{◌≡◌, ◌≤◌, ◌%◌, ◌++◌, ℕ, List, ap, arith}
use Rattle.al_step_text.proofs.BlocksAre.{lines_all, next_is, one_more, all_put}
use Rattle.al_step_text.proofs.block.put_blocks.Goals as goal

pub loop-block-init : goal.loop-block-init
loop-block-init c = λ laid. ap (λ (l : List ℕ). c.args.out.now ++ l) (lines_all _ c.args.store.now.blocks _ laid)

pub overflow_add-from : goal.overflow_add-from
overflow_add-from c =
    let h : (c.loop-block.from ≤ c.in-Some.block.0) × (c.in-Some.block.0 % 8 ≡ 0) = next_is _ _ _ _ _ c.in-Some.ensures.laid c.in-Some.ensures.next in
    omega arith

pub loop-block-preserved : goal.loop-block-preserved
loop-block-preserved c =
    λ laid. one_more c.loop-block.from _ c.args.store.now.blocks _ c.in-Some.block _ _ _ laid c.in-Some.ensures.next c.in_ok-put_block.ensures (c.loop-block.invariant laid)

pub loop-block-smaller : goal.loop-block-smaller
loop-block-smaller c =
    let h : (c.loop-block.from ≤ c.in-Some.block.0) × (c.in-Some.block.0 % 8 ≡ 0) = next_is _ _ _ _ _ c.in-Some.ensures.laid c.in-Some.ensures.next in
    omega arith

pub returns : goal.returns
returns c = all_put c.loop-block.from c.args.store.now.blocks _ _ c.in_default.ensures.next (c.loop-block.invariant c.in_default.ensures.laid)
