use Rattle.std.proofs.Common.{[], ◌∷◌}
use Rattle.al_meaning.specs.Calls.{only}
use Rattle.al_meaning.specs.Here.{moves}
use Rattle.al_meaning.specs.Items.{Replace}
use Rattle.al_control.specs.Models.{here_of, next_of}
use Rattle.al_walk_calls.proofs.Choices.{block_given, no_block}
use Rattle.al_walk_calls.proofs.Onward.{goes}
use Rattle.al_walk_calls.proofs.calls.replaces.Goals as goal

pub returns-then-has_block : goal.returns-then-has_block
returns-then-has_block c =
    let h = here_of c.args.h in
    let work = Replace c.args.function c.args.words ∷ [] in
    goes c.frees_block.result next_of _ _ (block_given h work (moves (only h work)) c.if-has_block.ensures) c.frees_block.ensures

pub returns-else-has_block : goal.returns-else-has_block
returns-else-has_block c =
    let h = here_of c.args.h in
    let work = Replace c.args.function c.args.words ∷ [] in
    goes c.moves_only.result next_of _ _ (no_block h work (moves (only h work)) c.if-has_block.ensures) c.moves_only.ensures
