-- What reading a host's text to its end does.
use Rattle.std.specs.Prelude.{◌≡◌, ◌≤◌, ℕ, List, [], ◌++◌, Result, Ok, Err}
use Rattle.al_host.specs.Outside.{Content, Faulted}
use Rattle.al_trace.specs.declared.stop.TraceStop.{TraceStop}
use Rattle.al_trace.specs.declared.stop.TraceStop.TheVariants.{ReadFault, BadLine, TooLong, NoMemory}
use Rattle.al_trace.specs.Schedule.{StopsAt}

-- all that was left came behind what was read
pub record ReadsAll (old new : List ℕ) (before after : Content) : Type 0 where
  pub text : new ≡ old ++ before.left
  pub end : after.left ≡ []
  pub same : after.texts ≡ before.texts

-- what reading stopped at is so of what was read with what was left
pub record StopsIn (stop : TraceStop) (old : List ℕ) (before after : Content) : Type 0 where
  pub stops : StopsAt stop (old ++ before.left)
  pub same : after.texts ≡ before.texts

-- a fault of the host is answered only where its count rose, which never falls
abbrev pub FaultCounts : {A : Type 0} → Result A TraceStop → ℕ → ℕ → Type 0
FaultCounts (Err ReadFault) before after = (before ≤ after) × Faulted before after
FaultCounts (Err (BadLine k)) before after = after ≡ before
FaultCounts (Err TooLong) before after = after ≡ before
FaultCounts (Err NoMemory) before after = after ≡ before
FaultCounts (Ok x) before after = after ≡ before
