-- What harts have to do that stand for the tasks of a program of operations.
use Rattle.std.specs.Prelude.{ℕ, ◌<◌, ◌≤◌, ◌^◌, List, length}
use Rattle.std.specs.List.{AllByRecursion}
use Rattle.al_event.specs.declared.act.Start.{Start}
use Rattle.al_ir.specs.declared.ir.Ir.{Ir}
use Rattle.al_ir.specs.Control.{Slots, Control}
use Rattle.al_ir.specs.Meaning.{tasks, start, resume}
use Rattle.al_ir.specs.Step.{private_step}
use Rattle.rv_isa.specs.declared.image.Contents.{Contents}
use Rattle.rv_exec.specs.Hart.{Hart}
use Rattle.rv_exec.specs.Calls.{Privates}
use Rattle.rv_exec.specs.Machine.{started}
use Rattle.rv_code.specs.Runs.{Fine}
use Rattle.rv_match.specs.Following.{Going, Follows}
use Rattle.rv_match.specs.Places.{Places, full}
use Rattle.rv_match.specs.Match.{Private, Plain, Match}
use Rattle.rv_match.specs.Sense.{Sensible}

-- The image has code for each operation, wherever it is come to, and for the start of each function that is started. The
-- operations have a meaning for all tasks that there are.
pub record Followed (ir : Ir) (image : Contents) (IsStart : Start → Type 0) : Type 1 where
  pub small : length image.code ≤ 2 ^ 23
  pub places : Places
  pub live : (f pc unit t : ℕ) → Type 0
  pub Midway : (f pc unit : ℕ) → Slots → (sp : ℕ) → Hart → Type 0
  pub Good : Control → Type 0
  pub IsPrivate : List ℕ → Type 0
  pub sensible : Sensible (tasks ir) Good IsPrivate IsStart
  pub follows : (left : ℕ) (c : Control) (u : List ℕ) (h : Hart) (p : Privates) → Plain ir image places live Midway left c h → Private ir u p → Fine h p → Follows image resume (Private ir) (Match ir image places live Midway) full left h p (private_step ir c u)
  pub words : (s : Start) → IsStart s → AllByRecursion (λ w. w < 2 ^ 32) s.words
  pub begins : (s : Start) → IsStart s → Going image resume (Private ir) (Match ir image places live Midway) full (start ir s) (started image s.code s.words)
