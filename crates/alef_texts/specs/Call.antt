-- What a call of the command found outside, and what it made.
use Rattle.std.specs.Prelude.{◌≡◌, ℕ, ◌⊎◌, List, [], drop, Option, Some, None, option_map}
use Rattle.std.specs.declared.sync.Arc.{Arc}
use Rattle.std.specs.declared.alloc.Global.{Global}
use Rattle.al_event.specs.declared.entry.Entry.{Entry}
use Rattle.al_host.specs.Outside.{Content, Faulted, WhereTold, text_under}
use Rattle.rv_isa.specs.declared.image.Contents.{Contents}
use Rattle.alef_texts.specs.Outside.{GetsAll, GetsPart}
use Rattle.alef_texts.specs.declared.report.Report.{Report}

-- What the host and the sink told, and how many faults both had, before the call and after it, and what it made.
pub record Call : Type 0 where
  pub told : Option Content
  pub told_after : Option Content
  pub host_before : ℕ
  pub host_after : ℕ
  pub got_before : Option (List ℕ)
  pub got_after : Option (List ℕ)
  pub out_before : ℕ
  pub out_after : ℕ
  pub schedule : List Entry
  pub work : ℕ
  -- what the image that ran contains
  pub image : Option Contents

abbrev pub call_by : (told told_after : Option Content) (host_before host_after : ℕ) (got_before got_after : Option (List ℕ)) (out_before out_after : ℕ) → Report → Call
call_by told told_after host_before host_after got_before got_after out_before out_after report = record {
  told = told;
  told_after = told_after;
  host_before = host_before;
  host_after = host_after;
  got_before = got_before;
  got_after = got_after;
  out_before = out_before;
  out_after = out_after;
  schedule = report.schedule;
  work = report.work;
  image = option_map (λ (image : Arc Contents Global). image.value) report.image;
}

-- ---- texts

-- the text of that name, where the host tells its texts
abbrev pub text_in : Option Content → List ℕ → Option (List ℕ)
text_in None file = None
text_in (Some content) file = text_under file content.texts

-- a host that tells its texts lacks that name
abbrev pub LacksText : Option Content → List ℕ → Type 0
LacksText None file = ⊥
LacksText (Some content) file = text_under file content.texts ≡ None

-- this is left to read of the text that a host found
abbrev pub LeavesRest : List ℕ → Option Content → Type 0
LeavesRest rest None = ⊥
LeavesRest rest (Some content) = content.left ≡ rest

-- The host has a text of that name and had no fault. The text was read to its end, or as many bytes of it as are to be read
-- at most, which it may say itself.
pub record IsRead (file : List ℕ) (most : List ℕ → ℕ) (told told_after : Option Content) (faults faults_after : ℕ) : Type 0 where
  pub whole : (text : List ℕ) → text_in told file ≡ Some text → LeavesRest (drop (most text) text) told_after
  pub found : LacksText told file → ⊥
  pub calm : faults_after ≡ faults

-- the same of a call
abbrev pub WasRead : List ℕ → (List ℕ → ℕ) → Call → Type 0
WasRead file most call = IsRead file most call.told call.told_after call.host_before call.host_after

-- nothing was asked of the host
pub record IsUnread (call : Call) : Type 0 where
  pub told : call.told_after ≡ call.told
  pub calm : call.host_after ≡ call.host_before

-- the host had a fault, or it tells its texts and lacks that name
abbrev pub HostFails : List ℕ → Option Content → (faults faults_after : ℕ) → Type 0
HostFails file told faults faults_after = Faulted faults faults_after ⊎ LacksText told file

-- ---- what was written

-- nothing was made or written, and the sink had no fault
pub record DidNothing (call : Call) : Type 0 where
  pub schedule : call.schedule ≡ []
  pub work : call.work ≡ 0
  pub image : call.image ≡ None
  pub got : call.got_after ≡ call.got_before
  pub calm : call.out_after ≡ call.out_before

-- the log got the line, or a first part of it where it had a fault
abbrev pub LogGets : List ℕ → Option (List ℕ) → Option (List ℕ) → ℕ → ℕ → Type 0
LogGets line before after faults faults' =
    WhereTold (GetsAll line) before after ⊎ (WhereTold (GetsPart line) before after × Faulted faults faults')
