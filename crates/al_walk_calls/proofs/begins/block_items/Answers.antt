use Rattle.std.proofs.Common.{◌∙◌, ap, map}
use Rattle.al_control.specs.Models.{item_of}
use Rattle.al_walk_calls.proofs.BegunFrames.{no_block_work, some_block_work}
use Rattle.al_walk_calls.proofs.Onward.{goes}
use Rattle.al_walk_calls.proofs.begins.block_items.Goals as goal

pub returns-then-any_shared : goal.returns-then-any_shared
returns-then-any_shared c =
    goes c.takes_block.result (map item_of) _ _
    (some_block_work c.args.f.now.line c.args.f.now.locals c.as_slice.result.now c.as_slice.ensures.value c.if-any_shared.ensures) c.takes_block.ensures

pub returns-else-any_shared : goal.returns-else-any_shared
returns-else-any_shared c =
    ap (map item_of) c.new.ensures ∙ no_block_work c.args.f.now.line c.args.f.now.locals c.as_slice.result.now c.as_slice.ensures.value c.if-any_shared.ensures
