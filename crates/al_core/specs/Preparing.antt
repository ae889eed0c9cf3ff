-- An action in two steps: what may lack memory or is not permitted comes first, and the tasks follow.
use Rattle.std.specs.Prelude.{◌≡◌, ℕ, ◌<◌, true, false, List, [], ◌∷◌, length, Option, Some, None}
use Rattle.al_base.specs.declared.over.Over.{Over}
use Rattle.al_base.specs.declared.over.Over.TheVariants.{Stopped, Trapped}
use Rattle.al_event.specs.declared.act.Branch.{Branch}
use Rattle.al_event.specs.declared.act.Start.{Start}
use Rattle.al_event.specs.declared.act.Act.{Act}
use Rattle.al_event.specs.declared.act.Act.TheVariants as acts
use Rattle.rv_isa.specs.declared.image.Contents.{Contents}
use Rattle.al_world.specs.Channels.{has_bad, ready}
use Rattle.al_world.specs.Procs.{first_ready, is_full}
use Rattle.al_world.specs.Actions.{performs}
use Rattle.rv_exec.specs.declared.run.Hart.{Hart}
use Rattle.rv_exec.specs.declared.run.Held.{Held}
use Rattle.rv_exec.specs.declared.run.Asked.{Asked}
use Rattle.rv_exec.specs.Answers.{CanAnswer}
use Rattle.rv_exec.specs.Machine.{started}
use Rattle.rv_exec.specs.Shown.{hart_of as machine_of, privates_of, bytes_of}
use Rattle.al_core.specs.declared.order.Stop.{Stop}
use Rattle.al_core.specs.declared.order.Stop.TheVariants as stops
use Rattle.al_core.specs.declared.order.Begun.{Begun}
use Rattle.al_core.specs.declared.order.Prepared.{Prepared}
use Rattle.al_core.specs.declared.order.Prepared.TheVariants as prepared
use Rattle.task_book.specs.Table.{Table, home_of, is_away}
use Rattle.task_book.specs.Lending.{TakesAnswer, with_held}
use Rattle.task_book.specs.Starting.{StartsProc}
use Rattle.al_core.specs.Stands.{task_at}
use Rattle.al_core.specs.Acting.{Machinery, Posed, IsDone}

-- how an action of a proc ends the world, at this entry
abbrev pub over_by : (proc entry : ℕ) → Stop → Over
over_by proc entry (stops.Trap trap) = Trapped trap proc entry
over_by proc entry (stops.Status status) = Stopped status

abbrev pub over_from : (proc entry : ℕ) → Option Stop → Option Over
over_from proc entry None = None
over_from proc entry (Some stop) = Some (over_by proc entry stop)

-- of a task that was posed
abbrev pub over_of : {image : Contents} {slot : ℕ} {act : Act} {m : Machinery} → Posed image slot act m → Option Stop → Option Over
over_of {image} {slot} {act} {m} P stop = over_from (task_at P.name slot).proc P.shared.entries stop

-- the words of an answer of at most one
abbrev pub word_in : Option ℕ → List ℕ
word_in None = []
word_in (Some word) = word ∷ []

abbrev pub with_table : Table → Machinery → Machinery
with_table table m = record m { table = table }

-- a table to which a held task has come home
abbrev pub with_home : Held → Machinery → Machinery
with_home held m = with_table (with_held held m.table) m

-- ---- what was made for what starts

-- a task at its start
pub record IsStarted (image : Contents) (start : Start) (hart : Hart) : Type 0 where
  pub is : machine_of hart ≡ started image start.code start.words

-- a task at its start, with new private globals
pub record IsBegun (image : Contents) (start : Start) (begun : Begun) : Type 0 where
  pub hart : machine_of begun.hart ≡ started image start.code start.words
  pub bytes : bytes_of begun.privates ≡ image.privates
  pub zeros : (n : ℕ) → privates_of begun.privates n ≡ 0

abbrev pub AreBegun : Contents → List Start → List Begun → Type 0
AreBegun image [] [] = Unit {0}
AreBegun image (start ∷ starts) (begun ∷ more) = IsBegun image start begun × AreBegun image starts more
AreBegun image starts begun = ⊥

-- a talk that goes under this pick
pub record GoesBy (m : Machinery) (pick : ℕ) (act : Act) : Type 0 where
  pub branches : List Branch
  pub is : act ≡ acts.Talk branches
  pub usable : has_bad m.book.book branches ≡ false
  pub within : pick < length (ready m.book.book branches)

-- a talk of which no branch can go
pub record WaitsBy (m : Machinery) (act : Act) : Type 0 where
  pub branches : List Branch
  pub is : act ≡ acts.Talk branches
  pub usable : has_bad m.book.book branches ≡ false
  pub none : ready m.book.book branches ≡ []

-- there is room for a task that starts, and this is its hart
pub record TaskBy (image : Contents) (m : Machinery) (act : Act) (hart : Hart) : Type 0 where
  pub start : Start
  pub is : act ≡ acts.Task start
  pub room : is_full m.table.procs 1 ≡ false
  pub started : IsStarted image start hart

pub record ProcBy (image : Contents) (m : Machinery) (act : Act) (begun : Begun) : Type 0 where
  pub start : Start
  pub is : act ≡ acts.Proc start
  pub room : is_full m.table.procs 1 ≡ false
  pub begins : IsBegun image start begun

pub record ParBy (image : Contents) (m : Machinery) (act : Act) (all : List Begun) : Type 0 where
  pub starts : List Start
  pub is : act ≡ acts.Par starts
  pub room : is_full m.table.procs (length starts) ≡ false
  pub begin : AreBegun image starts all

-- procs began one after another that the task in a slot waits for
abbrev pub StartsAll : ℕ → List Begun → Table → Table → Type 0
StartsAll slot [] s after = after ≡ s
StartsAll slot (begun ∷ more) s after =
    (between : Table) × StartsProc (Some slot) begun.hart begun.privates (length s.procs) s between × StartsAll slot more between after

-- ---- what is left to do

-- what was prepared, with these parts now, leads to what the action does to a machinery in which a task waits for its answer
abbrev pub Finishes : (image : Contents) (slot : ℕ) (act : Act) (m : Machinery) → Posed image slot act m → (pick : ℕ) → Prepared → Machinery → Type 0
Finishes image slot act m P pick (prepared.Answer word) parts =
    CanAnswer act (word_in word) × ((after : Table) → TakesAnswer m.table slot (word_in word) after → IsDone image slot act m P pick None (with_table after parts))
Finishes image slot act m P pick (prepared.Stop stop) parts =
    IsDone image slot act m P pick (over_of P (Some stop)) (with_table m.table parts)
Finishes image slot act m P pick prepared.Goes parts = (with_table m.table parts ≡ m) × GoesBy m pick act
Finishes image slot act m P pick prepared.Waits parts = (with_table m.table parts ≡ m) × (pick ≡ 0) × WaitsBy m act
Finishes image slot act m P pick (prepared.Task hart) parts = (with_table m.table parts ≡ m) × (pick ≡ 0) × TaskBy image m act hart
Finishes image slot act m P pick (prepared.Proc begun) parts = (with_table m.table parts ≡ m) × (pick ≡ 0) × ProcBy image m act begun
Finishes image slot act m P pick (prepared.Par begun) parts = (with_table m.table parts ≡ m) × (pick ≡ 0) × ParBy image m act begun.items
Finishes image slot act m P pick prepared.End parts = (with_table m.table parts ≡ m) × (pick ≡ 0) × (act ≡ acts.End)

-- the table stays, and whatever harts are in it, this is what is left to do
pub record Prepares (image : Contents) (act : Act) (pick : ℕ) (m : Machinery) (what : Prepared) (parts : Machinery) : Type 0 where
  pub table : parts.table ≡ m.table
  pub finishes : (slot : ℕ) (table : Table) → table.procs ≡ m.table.procs → (P : Posed image slot act (with_table table m)) → Finishes image slot act (with_table table m) P pick what parts

-- ---- what the calls need

-- a task in a slot waits for the answer to its action
pub record IsPosed (act : Act) (slot : ℕ) (m : Machinery) : Type 0 where
  pub image : Contents
  pub posed : Posed image slot act m

-- an action that is not permitted under this pick, and is under pick 0
pub record NeedsPick (act : Act) (pick : ℕ) (m : Machinery) : Type 0 where
  pub some : 0 < pick
  pub none : (image : Contents) (slot : ℕ) (table : Table) (P : Posed image slot act (with_table table m)) → performs P.shared (task_at P.name slot) act pick ≡ None

abbrev pub IsNoTalk : Act → Type 0
IsNoTalk (acts.Talk branches) = ⊥
IsNoTalk act = Unit {0}

-- the task in a slot is home and waits, and this is left to do
pub record IsLeft (slot proc : ℕ) (act : Act) (pick : ℕ) (what : Prepared) (now : Machinery) : Type 0 where
  pub image : Contents
  pub before : Machinery
  pub posed : Posed image slot act before
  pub table : now.table ≡ before.table
  pub home : home_of before.table slot ≡ proc
  pub left : Finishes image slot act before posed pick what now

-- what a task asked came back, whose proc is away
pub record IsHomed (image : Contents) (asked : Asked) (m : Machinery) : Type 0 where
  pub slot : ℕ
  pub first : first_ready m.table.procs asked.held.proc ≡ Some slot
  pub away : is_away m.table asked.held.proc ≡ true
  pub home : home_of (with_held asked.held m.table) slot ≡ asked.held.proc
  pub posed : Posed image slot asked.act (with_home asked.held m)
