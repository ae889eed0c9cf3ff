-- The mode `step`: the source world of a text after the first entries of a schedule is shown.
use Rattle.std.specs.Prelude.{◌≡◌, ℕ, ◌*◌, ◌<◌, ◌≤◌, ◌⊎◌, List, [], length, take, Option, Some, None, Result, Ok, Err}
use Rattle.al_event.specs.declared.entry.Entry.{Entry}
use Rattle.al_host.specs.Outside.{Content, Faulted, WhereTold}
use Rattle.al_words.specs.declared.job.Job.{Job}
use Rattle.al_typed.specs.declared.program.Program.{Program}
use Rattle.al_typed.specs.Measures.{IsWithin}
use Rattle.al_front.specs.Accepted.{IsAccepted, IsRefused as IsTextRefused}
use Rattle.al_front.specs.declared.refused.FrontStop.{FrontStop}
use Rattle.al_front.specs.declared.refused.FrontStop.TheVariants as front
use Rattle.al_show.specs.declared.walking.ShowStop.{ShowStop}
use Rattle.al_show.specs.declared.walking.ShowStop.TheVariants as show
use Rattle.al_show.specs.Walks.{IsRefused, IsShown}
use Rattle.alef_texts.specs.Call.{Call, IsRead, WasRead, DidNothing, HostFails, LacksText, LeavesRest, text_in}
use Rattle.alef_texts.specs.CheckMode.{most_of_text}
use Rattle.alef_texts.specs.Load.{KeepsTexts, IsBadSchedule, IsItsSchedule}
use Rattle.alef_texts.specs.Outside.{GetsAll, GetsPart}
use Rattle.alef_texts.specs.declared.report.End.{End}
use Rattle.alef_texts.specs.declared.report.End.TheVariants.{Ran, Made, Words, ReadFault, Refused, BadImage, BadSchedule, BadEntry, BadNumber, WriteFault, NoMemory}

-- the bytes of the shared region of a job
abbrev pub bytes_of_region : Job → ℕ
bytes_of_region job = job.region * 0x100000

-- the entries to step along
abbrev pub first_of : Job → List Entry → List Entry
first_of job h = take job.number h

-- ---- what was read

-- The host has the text of a job. It is accepted, within the limits, with this program.
pub record HasText (file : List ℕ) (p : Program) (told : Option Content) : Type 0 where
  pub found : LacksText told file → ⊥
  pub accepted : (text : List ℕ) → text_in told file ≡ Some text → IsAccepted text p
  pub within : IsWithin p

-- the host has the schedule of a job too, with these entries, which was read to its end
pub record HasBoth (job : Job) (p : Program) (h : List Entry) (call : Call) : Type 0 where
  pub program : HasText job.file p call.told
  pub found : LacksText call.told job.schedule → ⊥
  pub entries : (text : List ℕ) → text_in call.told job.schedule ≡ Some text → IsItsSchedule text h
  pub left : (text : List ℕ) → text_in call.told job.schedule ≡ Some text → LeavesRest [] call.told_after
  pub calm : call.host_after ≡ call.host_before

-- the same, where there are enough entries
abbrev pub HasEnough : Job → Program → List Entry → Call → Type 0
HasEnough job p h call = HasBoth job p h call × (job.number ≤ length h)

-- the host has the schedule of a job too, which is none
pub record HasBadSchedule (job : Job) (call : Call) : Type 0 where
  pub program : Program
  pub text : HasText job.file program call.told
  pub found : LacksText call.told job.schedule → ⊥

-- the host has the text of a job, which is accepted, within the limits, and tells its texts, of which the schedule of the job is none
pub record HasNoSchedule (job : Job) (call : Call) : Type 0 where
  pub program : Program
  pub text : HasText job.file program call.told
  pub lacks : LacksText call.told job.schedule

-- ---- what was made

-- of what a call makes, all but entries
pub record MadeNothing (call : Call) : Type 0 where
  pub work : call.work ≡ 0
  pub image : call.image ≡ None

-- the sink got nothing and had no fault
pub record WroteNothing (call : Call) : Type 0 where
  pub got : call.got_after ≡ call.got_before
  pub calm : call.out_after ≡ call.out_before

-- this is the text of the world after the first entries, which are permitted
pub record DidStep (job : Job) (p : Program) (h : List Entry) (text : List ℕ) (call : Call) : Type 0 where
  pub read : HasEnough job p h call
  pub shown : IsShown p (bytes_of_region job) (first_of job h) text
  pub schedule : call.schedule ≡ first_of job h
  pub rest : MadeNothing call

-- entry k is the first that is not permitted
pub record DidStepTo (job : Job) (p : Program) (h : List Entry) (k : ℕ) (call : Call) : Type 0 where
  pub read : HasEnough job p h call
  pub refused : IsRefused p (bytes_of_region job) (first_of job h) k
  pub schedule : call.schedule ≡ take k (first_of job h)
  pub rest : MadeNothing call
  pub wrote : WroteNothing call

-- ---- ends

-- Why `step FILE SCHEDULE` ends as it does, and what it did: the text is looked at first, then the schedule, then how many entries it
-- has, then the entries one after the other.
abbrev pub EndsStep : Job → Call → End → Type 0
EndsStep job call Made =
    (p : Program) × (h : List Entry) × (text : List ℕ)
    × DidStep job p h text call × WhereTold (GetsAll text) call.got_before call.got_after × (call.out_after ≡ call.out_before)
EndsStep job call WriteFault =
    (p : Program) × (h : List Entry) × (text : List ℕ)
    × DidStep job p h text call × WhereTold (GetsPart text) call.got_before call.got_after × Faulted call.out_before call.out_after
EndsStep job call (BadEntry k) = (p : Program) × (h : List Entry) × DidStepTo job p h k call
EndsStep job call (BadNumber n) =
    (p : Program) × (h : List Entry) × HasBoth job p h call × (n ≡ length h) × (n < job.number) × DidNothing call
EndsStep job call (BadSchedule fault) =
    HasBadSchedule job call × ((text : List ℕ) → text_in call.told job.schedule ≡ Some text → IsBadSchedule fault text)
    × (call.host_after ≡ call.host_before) × DidNothing call
EndsStep job call (Refused reason) =
    WasRead job.file most_of_text call × ((text : List ℕ) → text_in call.told job.file ≡ Some text → IsTextRefused text reason) × DidNothing call
EndsStep job call ReadFault =
    (HostFails job.file call.told call.host_before call.host_after ⊎ HasNoSchedule job call) × DidNothing call
EndsStep job call NoMemory = (call.host_after ≡ call.host_before) × DidNothing call
EndsStep job call (Ran over) = ⊥
EndsStep job call Words = ⊥
EndsStep job call (BadImage fault) = ⊥

-- ---- stages

-- the text of that name was read, and is accepted, within the limits
pub record IsProgramRead (file : List ℕ) (p : Program) (told told_after : Option Content) (faults faults_after : ℕ) : Type 0 where
  pub text : HasText file p told
  pub same : KeepsTexts told told_after
  pub calm : faults_after ≡ faults

-- what the front end found of the text of that name, which was read
abbrev pub IsFound : List ℕ → Result Program FrontStop → (told told_after : Option Content) → (faults faults_after : ℕ) → Type 0
IsFound file (Ok p) told told_after faults faults_after = IsProgramRead file p told told_after faults faults_after
IsFound file (Err (front.Refused reason)) told told_after faults faults_after =
    IsRead file most_of_text told told_after faults faults_after × ((text : List ℕ) → text_in told file ≡ Some text → IsTextRefused text reason)
IsFound file (Err front.NoMemory) told told_after faults faults_after = faults_after ≡ faults

-- how a call ends that shows no world
abbrev pub end_of_show : ShowStop → End
end_of_show (show.NotPermitted k) = BadEntry k
end_of_show show.NoMemory = NoMemory

-- how many of the entries to step along were made
abbrev pub made_of : End → (count : ℕ) → ℕ
made_of Made count = count
made_of WriteFault count = count
made_of (BadEntry k) count = k
made_of _ count = 0

-- what showing the world after these entries comes to, and what a sink got
abbrev pub EndsShow : Program → (region : ℕ) → List Entry → End → Option (List ℕ) → Option (List ℕ) → ℕ → ℕ → Type 0
EndsShow p region h Made before after faults faults' =
    (text : List ℕ) × IsShown p region h text × WhereTold (GetsAll text) before after × (faults' ≡ faults)
EndsShow p region h WriteFault before after faults faults' =
    (text : List ℕ) × IsShown p region h text × WhereTold (GetsPart text) before after × Faulted faults faults'
EndsShow p region h (BadEntry k) before after faults faults' = IsRefused p region h k × (after ≡ before) × (faults' ≡ faults)
EndsShow p region h NoMemory before after faults faults' = (after ≡ before) × (faults' ≡ faults)
EndsShow p region h (Refused reason) before after faults faults' = ⊥
EndsShow p region h (Ran over) before after faults faults' = ⊥
EndsShow p region h Words before after faults faults' = ⊥
EndsShow p region h ReadFault before after faults faults' = ⊥
EndsShow p region h (BadImage fault) before after faults faults' = ⊥
EndsShow p region h (BadSchedule fault) before after faults faults' = ⊥
EndsShow p region h (BadNumber count) before after faults faults' = ⊥
