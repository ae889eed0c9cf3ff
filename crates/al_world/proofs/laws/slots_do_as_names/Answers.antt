use Rattle.std.specs.Prelude.{nat_eq}
use Rattle.al_world.specs.World.{TaskName, same_task, same_talker}
use Rattle.al_world.proofs.Renaming.{talks_are_renamed, procs_are_renamed}
use Rattle.al_world.proofs.laws.slots_do_as_names.Goals as goal

pub returns-clause-talks : goal.returns-clause-talks
returns-clause-talks c = λ name_of book agrees. talks_are_renamed name_of nat_eq same_talker book agrees

pub returns-clause-procs : goal.returns-clause-procs
returns-clause-procs c = λ name_of proc_of procs agrees. procs_are_renamed name_of nat_eq same_task proc_of (λ (u : TaskName). u.proc) procs agrees
