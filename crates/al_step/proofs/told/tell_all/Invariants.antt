use Rattle.std.proofs.Common.{◌≡◌, map, drop}
use Rattle.al_world.specs.World.{told}
use Rattle.al_meaning.specs.Meaning.{source}
use Rattle.al_script.specs.Worlds.{message_of}
use Rattle.al_tasks.specs.Tables.{tasks_of}
use Rattle.al_step.proofs.told.tell_all.Given as goal

abbrev pub invariant-loop-message : goal.invariant-loop-message
invariant-loop-message l = told (source l.p) (map message_of l.messages) (tasks_of l.fn.tasks) ≡ told (source l.p) (map message_of (drop l.message-index l.messages)) (tasks_of l.tasks)
