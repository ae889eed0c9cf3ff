-- What goes out to a worker, and what comes back from one.
use Rattle.std.specs.Prelude.{◌≡◌, ℕ, ◌≤◌, take, length, Some}
use Rattle.al_event.specs.declared.act.Act.{Act}
use Rattle.al_event.specs.declared.act.Act.TheVariants.{NewChan, Proc, Task, Par, Print}
use Rattle.rv_exec.specs.declared.run.Held.{Held}
use Rattle.rv_exec.specs.declared.run.Asked.{Asked}
use Rattle.rv_exec.specs.Machine.{ask}
use Rattle.rv_exec.specs.Shown.{hart_of, privates_of, bytes_of, asked_of, WaitsFor}
use Rattle.al_core.specs.declared.answers.Next.{Next}
use Rattle.al_core.specs.declared.answers.Next.TheVariants.{Held as NextHeld, Others}
use Rattle.al_core.specs.declared.answers.After.{After}
use Rattle.al_core.specs.declared.answers.After.TheVariants.{Held as AfterHeld, Idle, Over as AfterOver}
use Rattle.al_core.specs.History.{History, next_ask, loan_of}

-- this is lent to the worker: the first ready task of the proc of its loan as the run has it after the entries that there were
-- then, or further on in the same stretch, so that it asks the same next
pub record IsLent (h : History) (worker : ℕ) (held : Held) : Type 0 where
  pub since : ℕ
  pub loan : loan_of h worker ≡ Some (record { proc = held.proc; since = since })
  pub within : since ≤ length h.entries
  pub asks : next_ask h (take since h.entries) held.proc ≡ Some (ask h.image (hart_of held.hart) (privates_of held.privates))
  pub bytes : bytes_of held.privates ≡ h.image.privates

-- this is what a task asked that was lent to the worker
pub record IsAsked (h : History) (worker : ℕ) (asked : Asked) : Type 0 where
  pub since : ℕ
  pub loan : loan_of h worker ≡ Some (record { proc = asked.held.proc; since = since })
  pub within : since ≤ length h.entries
  pub asks : next_ask h (take since h.entries) asked.held.proc ≡ Some (asked_of h.image asked)
  pub waits : WaitsFor asked.held.hart asked.act
  pub bytes : bytes_of asked.held.privates ≡ h.image.privates

abbrev pub IfHeld : Next → (Held → Type 0) → Type 0
IfHeld (NextHeld held) P = P held
IfHeld next P = Unit {0}

abbrev pub OnOthers : Next → Type 0 → Type 0
OnOthers Others P = P
OnOthers next P = Unit {0}

abbrev pub UnlessHeld : Next → Type 0 → Type 0
UnlessHeld (NextHeld held) P = Unit {0}
UnlessHeld next P = P

-- by what came of an action
abbrev pub MatchAfter : After → (Held → Type 0) → (idle over : Type 0) → Type 0
MatchAfter (AfterHeld held) P idle over = P held
MatchAfter Idle P idle over = idle
MatchAfter AfterOver P idle over = over

-- an action that may take memory
abbrev pub TakesMemory : Act → Type 0
TakesMemory (NewChan capacity words) = Unit {0}
TakesMemory (Proc start) = Unit {0}
TakesMemory (Task start) = Unit {0}
TakesMemory (Par starts) = Unit {0}
TakesMemory (Print text) = Unit {0}
TakesMemory act = ⊥
