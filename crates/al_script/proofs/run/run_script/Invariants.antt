use Rattle.std.proofs.Common.{◌≡◌, [], take, Some}
use Rattle.al_world.specs.Step.{opening, run}
use Rattle.al_script.specs.Scripts.{scripts}
use Rattle.al_script.specs.Worlds.{world_of}
use Rattle.al_script.proofs.run.run_script.Given as goal

-- the world is the run along the entries so far
abbrev pub invariant-loop-at : goal.invariant-loop-at
invariant-loop-at l =
    run (scripts l.script) (take l.at l.schedule) (Some (opening (scripts l.script) l.region [] l.start)) ≡ Some (world_of l.script l.world)
