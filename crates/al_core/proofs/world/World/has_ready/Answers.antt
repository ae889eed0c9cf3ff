use Rattle.std.proofs.Common.{sym, ap, ◌∙◌}
use Rattle.std.specs.Prelude.{is_some}
use Rattle.al_core.proofs.Turning.{ready_is}
use Rattle.al_core.proofs.world.World.has_ready.Goals as goal

pub returns : goal.returns
returns c = rw (← c.self.view_is) (λ live. c.is_some.ensures ∙ ap is_some c.first.ensures ∙ sym (ready_is _ _ c.self.invariant.stands live c.args.proc))
