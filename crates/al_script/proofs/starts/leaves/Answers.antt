use Rattle.std.proofs.Common.{List, length, ap, ◌∙◌}
use Rattle.al_world.specs.Procs.{ProcState}
use Rattle.al_world.specs.World.{TaskName}
use Rattle.al_script.proofs.Ends.{changed_length}
use Rattle.al_script.proofs.starts.leaves.Goals as goal

pub returns-clause-count : goal.returns-clause-count
returns-clause-count c =
    ap (λ (q : List (ProcState TaskName)). length q) c.in_ok-leaves_ready.ensures ∙ changed_length _ _ _
