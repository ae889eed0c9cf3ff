-- The reading of a schedule, and texts that stay.
use Rattle.std.proofs.Common.{◌≡◌, ℕ, List, [], Option, Some, None, Ok, Result, ◌∙◌, subst}
use Rattle.std.specs.Global.{Vec}
use Rattle.al_event.specs.declared.entry.Entry.{Entry}
use Rattle.al_host.specs.Outside.{Content, WhereTold, Finds}
use Rattle.al_trace.specs.declared.stop.TraceStop.{TraceStop}
use Rattle.al_trace.specs.Schedule.{IsSchedule, IsReading, Answers}
use Rattle.alef_texts.specs.Call.{LeavesRest, text_in}
use Rattle.alef_texts.specs.Load.{ReadsOn, KeepsTexts, IsBadSchedule, IsScheduleRead, IsBadlyRead}
use Rattle.alef_texts.specs.declared.report.ScheduleFault.{ScheduleFault}
use Rattle.alef_texts.proofs.Loading.{found_there, same_text}
use Rattle.alef_texts.proofs.Told.{told_then}

pub kept_texts : (name none bytes : List ℕ) (most : ℕ) (o o1 o2 : Option Content) → WhereTold (Finds name) o o1 → WhereTold (ReadsOn most none bytes) o1 o2 → KeepsTexts o o2
kept_texts name none bytes most o o1 o2 f r = told_then (Finds name) (ReadsOn most none bytes) (λ (a b : Content). b.texts ≡ a.texts) o o1 o2 (λ a b c p q. q.same ∙ p.same) f r

-- ---- a schedule

-- what was said of the text that was left once it was found
module _ (name : List ℕ) (P : List ℕ → Type 0) where
  pub found_left : (o o1 o2 : Option Content) → WhereTold (Finds name) o o1 → WhereTold (λ (before after : Content). P before.left) o1 o2 → (text : List ℕ) → text_in o name ≡ Some text → P text
  found_left (Some a) (Some b) (Some c) f r text is = subst P (same_text _ _ _ f.text is) r
  found_left (Some a) (Some b) None f r text is = absurd r
  found_left (Some a) None o2 f r text is = absurd f
  found_left None o1 o2 f r text is = absurd (cc)

nothing_left : (name : List ℕ) (o o1 o2 : Option Content) → WhereTold (Finds name) o o1 → WhereTold (λ (before after : Content). after.left ≡ []) o1 o2 → (text : List ℕ) → text_in o name ≡ Some text → LeavesRest [] o2
nothing_left name (Some a) (Some b) (Some c) f r text is = r
nothing_left name (Some a) (Some b) None f r text is = absurd r
nothing_left name (Some a) None o2 f r text is = absurd f
nothing_left name None o1 o2 f r text is = absurd (cc)

module _ (name : List ℕ) (o o1 o2 : Option Content) (faults middle faults_after : ℕ) (f : WhereTold (Finds name) o o1) (calm : middle ≡ faults) (still : faults_after ≡ middle) where
  pub schedule_read : (v : Vec Entry) → WhereTold (λ (before after : Content). IsSchedule before.left v.items) o1 o2
      → WhereTold (λ (before after : Content). (reading : Result (List Entry) TraceStop) → IsReading before.left reading → Answers (Ok v) reading) o1 o2
      → WhereTold (λ (before after : Content). after.left ≡ []) o1 o2 → IsScheduleRead name v.items o o2 faults faults_after
  schedule_read v is only left = record {
    text = λ text named. record {
      is = found_left name (λ text. IsSchedule text v.items) o o1 o2 f is text named;
      only = λ other it.
          let e = found_left name (λ text. (reading : Result (List Entry) TraceStop) → IsReading text reading → Answers (Ok v) reading) o o1 o2 f only text named (Ok other) it in cc;
    };
    left = nothing_left name o o1 o2 f left;
    found = found_there name o o1 f;
    calm = still ∙ calm;
  }

  pub badly_read : (fault : ScheduleFault) → WhereTold (λ (before after : Content). IsBadSchedule fault before.left) o1 o2 → IsBadlyRead name fault o faults faults_after
  badly_read fault is = record {
    text = found_left name (IsBadSchedule fault) o o1 o2 f is;
    found = found_there name o o1 f;
    calm = still ∙ calm;
  }
