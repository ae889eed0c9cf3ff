use Rattle.std.proofs.Common.{[], ◌∷◌}
use Rattle.al_meaning.specs.Calls.{only}
use Rattle.al_meaning.specs.Here.{control_at}
use Rattle.al_meaning.specs.Items.{CountReturn, Leave}
use Rattle.al_world.specs.Turns.{Turns}
use Rattle.al_control.specs.Models.{here_of, next_of}
use Rattle.al_walk_calls.proofs.Choices.{block_given, no_block}
use Rattle.al_walk_calls.proofs.Onward.{goes}
use Rattle.al_walk_calls.proofs.ends.ends.Goals as goal

pub returns-then-has_block : goal.returns-then-has_block
returns-then-has_block c =
    let h = here_of c.args.h in
    goes c.frees_block.result next_of _ _
    (block_given h (CountReturn c.args.given ∷ []) (Turns h.line (control_at (only h (Leave c.args.given ∷ []))) h.privates) c.if-has_block.ensures)
    c.frees_block.ensures

pub returns-else-has_block : goal.returns-else-has_block
returns-else-has_block c =
    let h = here_of c.args.h in
    goes c.turns_only.result next_of _ _
    (no_block h (CountReturn c.args.given ∷ []) (Turns h.line (control_at (only h (Leave c.args.given ∷ []))) h.privates) c.if-has_block.ensures)
    c.turns_only.ensures
