use Rattle.std.proofs.Common.{[], ◌∷◌}
use Rattle.al_meaning.specs.Execute.{optionally}
use Rattle.al_control.specs.Models.{work_of}
use Rattle.al_walk_loops.proofs.Goings.{goes_both}
use Rattle.al_walk_loops.proofs.loops.optional_then.Goals as goal

pub returns : goal.returns
returns c =
    goes_both c.moves.result (optionally c.args.e.now) (work_of c.args.work ∷ []) c.args.h c.in_ok-h.h c.in_ok-with_optional.field-0
    c.in_ok-h.ensures c.in_ok-with_optional.ensures c.moves.ensures
