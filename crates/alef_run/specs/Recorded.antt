-- What a replay of a recorded schedule comes to.
use Rattle.std.specs.Prelude.{◌≡◌, ◌⊎◌}
use Rattle.al_base.specs.declared.over.Over.{Over}
use Rattle.al_host.specs.Outside.{WhereTold}
use Rattle.al_words.specs.declared.job.Job.{Job}
use Rattle.al_world.specs.World.{Shared}
use Rattle.al_typed.specs.declared.program.Program.{Program}
use Rattle.alef_texts.specs.Call.{Call}
use Rattle.alef_texts.specs.Outside.{GetsAll}
use Rattle.alef_run.specs.Meant.{IsRunTo}
use Rattle.alef_run.specs.RecordMode.{unseen}
use Rattle.alef_texts.specs.declared.report.End.{End}
use Rattle.alef_texts.specs.declared.report.End.TheVariants.{Ran, ReadFault, WriteFault, NoMemory}

-- the replay ends as the recorded run did, its schedule is the recorded one, and it wrote what that run put out
pub record IsAsRecorded (p : Program) (job : Job) (recorded replayed : Call) (over : Over) (end : End) : Type 0 where
  pub end_is : end ≡ Ran over
  pub schedule : replayed.schedule ≡ recorded.schedule
  pub world : Shared
  pub run : IsRunTo p job (unseen recorded) world
  pub wrote : WhereTold (GetsAll world.output) replayed.got_before replayed.got_after

-- so it is, unless the world outside had a fault or memory ran out
abbrev pub ReplaysAsRecorded : Program → Job → (recorded replayed : Call) → Over → End → Type 0
ReplaysAsRecorded p job recorded replayed over end =
    IsAsRecorded p job recorded replayed over end ⊎ ((end ≡ ReadFault) ⊎ ((end ≡ WriteFault) ⊎ (end ≡ NoMemory)))
