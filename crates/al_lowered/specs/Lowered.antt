-- What a program is lowered to.
use Rattle.std.specs.Prelude.{ℕ, ◌≡◌, ◌≢◌, List}
use Rattle.al_event.specs.declared.act.Start.{Start}
use Rattle.al_typed.specs.declared.program.Program.{Program}
use Rattle.al_meaning.specs.Places.{fresh_privates}
use Rattle.al_meaning.specs.Tasks.{Answer, Unfinished}
use Rattle.al_meaning.specs.Meant.{task_told}
use Rattle.al_ir.specs.declared.ir.Ir.{Ir}
use Rattle.al_ir.specs.Meaning.{ask, resume, start}
use Rattle.al_ir.specs.Meaning as operations
use Rattle.al_lowered.specs.After.{after}
use Rattle.al_lowered.specs.Rules.{IsGood, AreGood, IsPrivate, IsKnownStart, rules}

-- The meaning of each start is good, and its operations ask what it says, unless it leaves that open.
pub record Lowered (p : Program) (ir : Ir) : Type 0 where
  pub asks : (n : ℕ) (s : Start) (u : List ℕ) (answers : List Answer) → IsKnownStart p s → IsPrivate p u → AreGood (rules p) answers → IsGood (rules p) (task_told p n s u answers) × (task_told p n s u answers ≢ Unfinished → after (ask ir) resume (ask ir (start ir s) u) answers ≡ task_told p n s u answers)
  pub privates : fresh_privates p ≡ operations.fresh_privates ir
  pub fresh : IsPrivate p (fresh_privates p)
