-- A program whose functions do what they mean is lowered.
use Rattle.std.proofs.Common.{◌≡◌}
use Rattle.al_typed.specs.declared.program.Program.{Program}
use Rattle.al_meaning.specs.Items.{most_turns}
use Rattle.al_meaning.specs.Places.{fresh_privates}
use Rattle.al_ir.specs.declared.ir.Ir.{Ir}
use Rattle.al_ir.specs.Step.{private_step}
use Rattle.al_ir.specs.Meaning.{control_weight, resume, start}
use Rattle.al_ir.specs.Meaning as operations
use Rattle.al_ir.proofs.Lighter.{lighter}
use Rattle.al_lowered.specs.Lowered.{Lowered}
use Rattle.al_lowered.specs.Rules.{IsPrivate, rules}
use Rattle.al_lowered.proofs.Does.{task_does}
use Rattle.al_lower_steps.specs.Given.{HasFrames}
use Rattle.al_lower_steps.proofs.Functions.{FunctionsDo, started_does}

pub lowered : (p : Program) (ir : Ir) → HasFrames p ir → FunctionsDo p ir (rules p) → fresh_privates p ≡ operations.fresh_privates ir → IsPrivate p (fresh_privates p) → Lowered p ir
lowered p ir has functions same fresh = record {
  asks = λ n s u answers known private good.
      task_does (private_step ir) (control_weight ir) resume (lighter ir) (rules p) (start ir s) u answers private good
      (started_does p ir (rules p) has functions n s known.function known.at known.words (record { left = most_turns; privates = u; answers = answers }));
  privates = same;
  fresh = fresh;
}
