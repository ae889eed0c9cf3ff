-- The reading of a text or an image.
use Rattle.std.specs.Prelude.{◌≡◌, ℕ, ◌≤◌, ◌⊎◌, List, [], ◌++◌, length, Option, Some, Err}
use Rattle.al_event.specs.declared.entry.Entry.{Entry}
use Rattle.al_host.specs.Outside.{Content, Faulted, WhereTold}
use Rattle.al_trace.specs.Schedule.{IsSchedule, IsBadLine, IsTooLong}
use Rattle.rv_image.specs.Reading.{reading}
use Rattle.rv_image.specs.Front.{enough_of}
use Rattle.alef_texts.specs.Call.{IsRead, HostFails, LacksText, LeavesRest, text_in}
use Rattle.alef_texts.specs.declared.report.ScheduleFault.{ScheduleFault}
use Rattle.alef_texts.specs.declared.report.ScheduleFault.TheVariants as bad
use Rattle.alef_texts.specs.declared.report.End.{End}
use Rattle.alef_texts.specs.declared.report.End.TheVariants.{Ran, Made, Words, ReadFault, Refused, BadImage, BadSchedule, BadEntry, BadNumber, WriteFault, NoMemory}

-- more bytes were read behind those that there were: until there were so many, or to the end of what was left
pub record ReadsOn (most : ℕ) (old new : List ℕ) (before after : Content) : Type 0 where
  pub part : List ℕ
  pub bytes : new ≡ old ++ part
  pub left : before.left ≡ part ++ after.left
  pub within : length new ≤ most
  pub end : (length new ≡ most) ⊎ (after.left ≡ [])
  pub same : after.texts ≡ before.texts

-- why reading on stopped
abbrev pub StopsReading : End → (faults faults_after : ℕ) → Type 0
StopsReading end faults faults_after = ((end ≡ ReadFault) × Faulted faults faults_after) ⊎ ((end ≡ NoMemory) × (faults_after ≡ faults))

-- why there is no image of that name
abbrev pub LacksImage : List ℕ → End → (told told_after : Option Content) → (faults faults_after : ℕ) → Type 0
LacksImage file ReadFault told told_after faults faults_after = HostFails file told faults faults_after
LacksImage file (BadImage fault) told told_after faults faults_after =
    IsRead file enough_of told told_after faults faults_after × ((text : List ℕ) → text_in told file ≡ Some text → reading text ≡ Err fault)
LacksImage file NoMemory told told_after faults faults_after = faults_after ≡ faults
LacksImage file Made told told_after faults faults_after = ⊥
LacksImage file Words told told_after faults faults_after = ⊥
LacksImage file (BadSchedule bad) told told_after faults faults_after = ⊥
LacksImage file (BadEntry number) told told_after faults faults_after = ⊥
LacksImage file (BadNumber count) told told_after faults faults_after = ⊥
LacksImage file (Refused reason) told told_after faults faults_after = ⊥
LacksImage file WriteFault told told_after faults faults_after = ⊥
LacksImage file (Ran over) told told_after faults faults_after = ⊥

-- ---- a schedule

-- bytes are no schedule for this
abbrev pub IsBadSchedule : ScheduleFault → List ℕ → Type 0
IsBadSchedule (bad.Line line) text = IsBadLine line text
IsBadSchedule bad.TooLong text = IsTooLong text

-- the text is that of these entries, and of no others
pub record IsItsSchedule (text : List ℕ) (h : List Entry) : Type 0 where
  pub is : IsSchedule text h
  pub only : (other : List Entry) → IsSchedule text other → other ≡ h

-- the host has a text of that name and had no fault; the text is that of these entries, and was read to its end
pub record IsScheduleRead (file : List ℕ) (h : List Entry) (told told_after : Option Content) (faults faults_after : ℕ) : Type 0 where
  pub text : (text : List ℕ) → text_in told file ≡ Some text → IsItsSchedule text h
  pub left : (text : List ℕ) → text_in told file ≡ Some text → LeavesRest [] told_after
  pub found : LacksText told file → ⊥
  pub calm : faults_after ≡ faults

-- the host has a text of that name and had no fault; the text is no schedule
pub record IsBadlyRead (file : List ℕ) (fault : ScheduleFault) (told : Option Content) (faults faults_after : ℕ) : Type 0 where
  pub text : (text : List ℕ) → text_in told file ≡ Some text → IsBadSchedule fault text
  pub found : LacksText told file → ⊥
  pub calm : faults_after ≡ faults

-- why there is no schedule of that name
abbrev pub LacksSchedule : List ℕ → End → (told : Option Content) → (faults faults_after : ℕ) → Type 0
LacksSchedule file ReadFault told faults faults_after = HostFails file told faults faults_after
LacksSchedule file (BadSchedule fault) told faults faults_after = IsBadlyRead file fault told faults faults_after
LacksSchedule file NoMemory told faults faults_after = faults_after ≡ faults
LacksSchedule file (BadImage fault) told faults faults_after = ⊥
LacksSchedule file (BadEntry number) told faults faults_after = ⊥
LacksSchedule file (BadNumber count) told faults faults_after = ⊥
LacksSchedule file Made told faults faults_after = ⊥
LacksSchedule file Words told faults faults_after = ⊥
LacksSchedule file (Refused reason) told faults faults_after = ⊥
LacksSchedule file WriteFault told faults faults_after = ⊥
LacksSchedule file (Ran over) told faults faults_after = ⊥

-- ---- a text

-- a host has the same texts as before
abbrev pub KeepsTexts : Option Content → Option Content → Type 0
KeepsTexts before after = WhereTold (λ (a b : Content). b.texts ≡ a.texts) before after

-- why the bytes of the text of that name were not read
abbrev pub LacksBytes : List ℕ → End → (told : Option Content) → (faults faults_after : ℕ) → Type 0
LacksBytes file end told faults faults_after =
    ((end ≡ ReadFault) × HostFails file told faults faults_after) ⊎ ((end ≡ NoMemory) × (faults_after ≡ faults))
