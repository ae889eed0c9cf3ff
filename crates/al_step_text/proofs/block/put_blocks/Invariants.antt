use Rattle.std.proofs.Common.{◌≡◌, ◌+◌, ◌++◌, ◌-◌}
use Rattle.std.specs.List.{flat_map}
use Rattle.al_event.specs.Store.{region_base, spans_of}
use Rattle.al_region.specs.Region.{IsLaid}
use Rattle.al_step_text.specs.StepText.{block_line}
use Rattle.al_step_text.proofs.BlocksAre.{lines_from}
use Rattle.al_step_text.proofs.block.put_blocks.Given as goal

-- blocks that lie one after another are put one after another
abbrev pub invariant-loop-block : goal.invariant-loop-block
invariant-loop-block l =
    IsLaid region_base (spans_of l.store.blocks) (region_base + l.store.region) → l.out ++ lines_from l.from l.store.blocks ≡ l.fn.out ++ flat_map block_line l.store.blocks

abbrev pub decreases-loop-block : goal.decreases-loop-block
decreases-loop-block l = 4294967296 - l.from
