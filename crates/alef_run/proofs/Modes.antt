-- The modes `replay`, `record` and `sample`: from why a call ends as it does to which end each cause has.
use Rattle.std.proofs.Common.{◌≡◌, ℕ, ◌≤◌, List, Option, Some}
use Rattle.std.specs.Prelude.{◌⊎◌, IsSome}
use Rattle.al_base.specs.declared.over.Over.{Over}
use Rattle.al_event.specs.declared.entry.Entry.{Entry}
use Rattle.al_host.specs.Outside.{Faulted}
use Rattle.al_trace.specs.Schedule.{IsSchedule}
use Rattle.al_words.specs.declared.job.Mode.TheVariants.{Replay, Recorded, Sample}
use Rattle.al_words.specs.declared.job.Job.{Job}
use Rattle.al_sample.specs.Sample.{sample_text}
use Rattle.al_typed.specs.declared.program.Program.{Program}
use Rattle.al_typed.specs.Measures.{IsWithin}
use Rattle.al_meaning.specs.Meaning.{run}
use Rattle.al_front.specs.Accepted.{IsAccepted, IsRefused}
use Rattle.al_front.specs.declared.refused.Refused.{Refused as Reason}
use Rattle.al_show.specs.Walks.{IsRefused as IsEntryRefused}
use Rattle.alef_texts.specs.Call.{Call, LacksText, text_in}
use Rattle.alef_texts.specs.CheckMode.{HasProgram}
use Rattle.alef_texts.specs.Load.{IsBadSchedule}
use Rattle.alef_texts.specs.StepMode.{bytes_of_region}
use Rattle.alef_texts.specs.declared.report.ScheduleFault.{ScheduleFault}
use Rattle.alef_texts.specs.declared.report.End.{End}
use Rattle.alef_texts.specs.declared.report.End.TheVariants.{Ran, ReadFault, Refused, BadSchedule, BadEntry, NoMemory}
use Rattle.alef_run.specs.Meant.{EndsAsMeant}
use Rattle.alef_run.specs.MeantAlong.{ReplaysAsMeant}
use Rattle.alef_run.specs.Modes.{EndsBy, built}
use Rattle.alef_run.specs.RecordMode.{unseen}
use Rattle.alef_run.proofs.Causes.{ends_replay, ends_record, ends_sample}
use Rattle.alef_run.proofs.MeaningsAlong.{replay_as_meant, bad_entry_replay, complete_replay}
use Rattle.alef_run.proofs.Records.{refused_record, complete_record, record_as_meant}
use Rattle.alef_run.proofs.Replays.{refused_replay, missing_schedule_replay, bad_schedule_replay}
use Rattle.alef_run.proofs.Samples.{complete_sample}

module _ (call : Call) (end : End) (o : Option Job) (job : Job) (e : EndsBy o call end) (b : built o ≡ Some job) where
  pub sample_end_is : job.mode ≡ Sample → HasProgram (sample_text job.number) → (Faulted call.out_before call.out_after → ⊥) → ((over : Over) × (end ≡ Ran over)) ⊎ (end ≡ NoMemory)
  sample_end_is mode has calm = complete_sample job call has calm end (ends_sample call end o job e b mode)

  module _ (text : List ℕ) where
    pub record_refused : job.mode ≡ Recorded → text_in call.told job.file ≡ Some text → (HasProgram text → ⊥) → ((r : Reason) × (end ≡ Refused r) × IsRefused text r) ⊎ ((end ≡ ReadFault) ⊎ (end ≡ NoMemory))
    record_refused mode is none = refused_record job call text is none end (ends_record call end o job e b mode)

    pub record_complete : job.mode ≡ Recorded → text_in call.told job.file ≡ Some text → HasProgram text → (Faulted call.host_before call.host_after → ⊥) → (Faulted call.out_before call.out_after → ⊥)
        → ((over : Over) × (end ≡ Ran over)) ⊎ (end ≡ NoMemory)
    record_complete mode is has calm calm' = complete_record job call text is has calm calm' end (ends_record call end o job e b mode)

    pub record_meant : job.region ≤ 256 → (p : Program) → job.mode ≡ Recorded → text_in call.told job.file ≡ Some text → IsAccepted text p → IsWithin p → EndsAsMeant p job (unseen call) end
    record_meant few p mode is accepted within = record_as_meant job call text is few p accepted within end (ends_record call end o job e b mode)

    pub replay_refused : job.mode ≡ Replay → text_in call.told job.file ≡ Some text → (HasProgram text → ⊥) → ((r : Reason) × (end ≡ Refused r) × IsRefused text r) ⊎ ((end ≡ ReadFault) ⊎ (end ≡ NoMemory))
    replay_refused mode is none = refused_replay job call text is none end (ends_replay call end o job e b mode)

    pub replay_missing : job.mode ≡ Replay → text_in call.told job.file ≡ Some text → HasProgram text → LacksText call.told job.schedule → (end ≡ ReadFault) ⊎ (end ≡ NoMemory)
    replay_missing mode is has m = missing_schedule_replay job call text is has m end (ends_replay call end o job e b mode)

    module _ (schedule : List ℕ) where
      pub replay_bad_schedule : (fault : ScheduleFault) → job.mode ≡ Replay → text_in call.told job.file ≡ Some text → HasProgram text → text_in call.told job.schedule ≡ Some schedule → IsBadSchedule fault schedule
          → (end ≡ BadSchedule fault) ⊎ ((end ≡ ReadFault) ⊎ (end ≡ NoMemory))
      replay_bad_schedule fault mode is has named bad = bad_schedule_replay job call text is has.0 has.1 has.2 schedule named fault bad end (ends_replay call end o job e b mode)

      module _ (few : job.region ≤ 256) (p : Program) (h : List Entry) where
        pub replay_meant : job.mode ≡ Replay → text_in call.told job.file ≡ Some text → IsAccepted text p → IsWithin p → text_in call.told job.schedule ≡ Some schedule → IsSchedule schedule h
            → ReplaysAsMeant p job h call end
        replay_meant mode is accepted within named entries =
            replay_as_meant job call few text is p accepted within schedule named h entries end (ends_replay call end o job e b mode)

        pub replay_bad_entry : (k : ℕ) → job.mode ≡ Replay → text_in call.told job.file ≡ Some text → IsAccepted text p → IsWithin p → text_in call.told job.schedule ≡ Some schedule → IsSchedule schedule h
            → IsEntryRefused p (bytes_of_region job) h k → (Faulted call.host_before call.host_after → ⊥) → (Faulted call.out_before call.out_after → ⊥) → (end ≡ BadEntry k) ⊎ (end ≡ NoMemory)
        replay_bad_entry k mode is accepted within named entries refused calm calm' =
            bad_entry_replay job call few text is p accepted within schedule named h entries calm calm' k refused end (ends_replay call end o job e b mode)

        pub replay_complete : job.mode ≡ Replay → text_in call.told job.file ≡ Some text → IsAccepted text p → IsWithin p → text_in call.told job.schedule ≡ Some schedule → IsSchedule schedule h
            → IsSome (run p (bytes_of_region job) h) → (Faulted call.host_before call.host_after → ⊥) → (Faulted call.out_before call.out_after → ⊥) → ((over : Over) × (end ≡ Ran over)) ⊎ (end ≡ NoMemory)
        replay_complete mode is accepted within named entries some calm calm' =
            complete_replay job call few text is p accepted within schedule named h entries calm calm' some end (ends_replay call end o job e b mode)
