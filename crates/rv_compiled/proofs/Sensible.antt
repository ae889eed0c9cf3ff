-- The operations of a lowered program have a meaning for all tasks that the program has.
use Rattle.std.proofs.Common.{◌≡◌, ℕ, ◌+◌, ◌*◌, List, [], ◌∷◌, length, sym, subst, le_refl}
use Rattle.std.specs.Prelude.{if◌then◌else◌}
use Rattle.al_world.specs.Control.{fitted}
use Rattle.al_typed.specs.declared.program.Program.{Program}
use Rattle.al_meaning.specs.Items.{most_turns}
use Rattle.al_meaning.specs.Meant.{task_told}
use Rattle.al_meaning.specs.Tasks.{Answer, Outcome, Over}
use Rattle.al_meaning.proofs.Finishing.{leave_nothing_open}
use Rattle.al_ir.specs.declared.ir.Ir.{Ir}
use Rattle.al_ir.specs.Control.{Control}
use Rattle.al_ir.specs.Meaning.{ask, resume, tasks}
use Rattle.al_ir.specs.Meaning as operations
use Rattle.al_sense.specs.Sense.{IsReal}
use Rattle.al_sense.proofs.Statements.{task_real}
use Rattle.al_lowered.specs.After.{after}
use Rattle.al_lowered.specs.Lowered.{Lowered}
use Rattle.al_lowered.specs.Rules.{AreGood, IsGood, IsKnownStart, IsPrivate, rules}
use Rattle.rv_match.specs.Sense.{Sensible}

module _ (p : Program) (ir : Ir) where
  abbrev IsFine : Outcome → Type 0
  IsFine o = IsGood (rules p) o × IsReal o

  -- all that the control asks from here on has a meaning
  abbrev pub Good : Control → Type 0
  Good c = (u : List ℕ) (answers : List Answer) → IsPrivate p u → AreGood (rules p) answers → IsFine (after (ask ir) resume (ask ir c u) answers)

  pub sensible : Lowered p ir → Sensible (tasks ir) Good (IsPrivate p) (IsKnownStart p)
  sensible low = record {
    acts = λ c u good private. (good u [] private tt).1;
    known = λ c u good private. (good u [] private tt).0.1;
    privates = λ c u good private. (good u [] private tt).0.0;
    resumes = λ c u words good private goes v answers others fine.
        subst (λ b. IsFine (if b then Over else after (ask ir) resume (ask ir (resume (ask ir c u).control (fitted (ask ir c u).act words)) v) answers)) goes
        (good u (record { words = words; privates = v } ∷ answers) private (others, fine));
    starts = λ start known u answers private fine.
        let n = most_turns + most_turns * length answers in
        let x = low.asks n start u answers known private fine in
        let same : after (ask ir) resume (ask ir (operations.start ir start) u) answers ≡ task_told p n start u answers = x.1 (leave_nothing_open p n start u answers (le_refl n)) in
        subst IsFine (sym same) (x.0, task_real p n start u answers);
    fresh = subst (IsPrivate p) low.privates low.fresh;
  }
