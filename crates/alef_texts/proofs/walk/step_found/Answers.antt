use Rattle.std.proofs.Common.{subst}
use Rattle.std.specs.Prelude.{Result}
use Rattle.al_typed.specs.declared.program.Program.{Program}
use Rattle.al_front.specs.declared.refused.FrontStop.{FrontStop}
use Rattle.alef_texts.specs.StepMode.{IsFound}
use Rattle.alef_texts.proofs.walk.step_found.Goals as goal

pub returns-in-Ok-clause-end : goal.returns-in-Ok-clause-end
returns-in-Ok-clause-end g c = λ told faults read.
    let F : Result Program FrontStop → Type 0 = λ found. IsFound c.args.job.now.file found told (g.H.Host.content c.args.host.now) faults (g.H.Host.faults c.args.host.now) in
    c.step_along.ensures.end told faults (subst F c.in-Ok.is read)
