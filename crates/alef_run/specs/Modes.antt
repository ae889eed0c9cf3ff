-- Why a call of the command ends as it does, by the job that its words name.
use Rattle.std.specs.Prelude.{◌≡◌, ℕ, ◌⊎◌, Bool, true, false, if◌then◌else◌, List, Option, Some, None}
use Rattle.al_words.specs.Job.{job_of}
use Rattle.al_words.specs.declared.job.Mode.{Mode}
use Rattle.al_words.specs.declared.job.Mode.TheVariants.{Run, Replay, Recorded, Build, Exec, Check, Sample, Race, Step, Link}
use Rattle.al_words.specs.declared.job.Job.{Job}
use Rattle.rv_isa.specs.declared.image.Contents.{Contents}
use Rattle.al_core.specs.History.{line_of}
use Rattle.alef_texts.specs.Call.{Call, IsUnread, DidNothing}
use Rattle.alef_run.specs.RunMode.{EndsRun}
use Rattle.alef_run.specs.ReplayMode.{EndsReplay}
use Rattle.alef_run.specs.RecordMode.{EndsRecord}
use Rattle.alef_run.specs.BuildMode.{EndsBuild}
use Rattle.alef_run.specs.ExecMode.{EndsExec, comes_to}
use Rattle.alef_texts.specs.CheckMode.{EndsCheck}
use Rattle.alef_run.specs.SampleMode.{EndsSample}
use Rattle.alef_texts.specs.StepMode.{EndsStep}
use Rattle.alef_texts.specs.declared.report.End.{End}
use Rattle.alef_texts.specs.declared.report.End.TheVariants.{Words, NoMemory}

-- the modes that the command does by now
abbrev pub is_built : Mode → Bool
is_built Run = true
is_built Exec = true
is_built Check = true
is_built Replay = true
is_built Recorded = true
is_built Build = true
is_built Sample = true
is_built Race = false
is_built Step = true
is_built Link = false

abbrev pub built : Option Job → Option Job
built None = None
built (Some job) = if is_built job.mode then Some job else None

-- The job that the words name. Those of a mode that is yet to come name none.
abbrev pub job_by : List (List ℕ) → Option Job
job_by words = built (job_of words)

-- the words name no job: nothing was done
abbrev pub EndsIdle : Call → End → Type 0
EndsIdle call end = ((end ≡ Words) ⊎ (end ≡ NoMemory)) × IsUnread call × DidNothing call

abbrev pub EndsIn : Mode → Job → Call → End → Type 0
EndsIn Run job call end = EndsRun job call end
EndsIn Exec job call end = EndsExec job call end
EndsIn Check job call end = EndsCheck job.file call end
EndsIn Replay job call end = EndsReplay job call end
EndsIn Recorded job call end = EndsRecord job call end
EndsIn Build job call end = EndsBuild job.file call end
EndsIn Sample job call end = EndsSample job call end
EndsIn Race job call end = EndsIdle call end
EndsIn Step job call end = EndsStep job call end
EndsIn Link job call end = EndsIdle call end

abbrev pub EndsBy : Option Job → Call → End → Type 0
EndsBy None call end = EndsIdle call end
EndsBy (Some job) call end = EndsIn job.mode job call end

-- why a call ends as it does, and what it did
abbrev pub Ends : (words : List (List ℕ)) → Call → End → Type 0
Ends words call end = EndsBy (job_of words) call end

-- the line of the text in which the image that ran trapped, else 0
abbrev pub line_by : Option Job → Option Contents → Call → ℕ
line_by (Some job) (Some image) call = line_of (comes_to image job call)
line_by _ _ call = 0

abbrev pub line_in : (words : List (List ℕ)) → Call → ℕ
line_in words call = line_by (job_of words) call.image call
