use Rattle.al_core.proofs.Turning.{copy_lent, asked_lent, later_lent}
use Rattle.al_core.proofs.world.World.run.Goals as goal

pub stretch-requires : goal.stretch-requires
stretch-requires c = rw (c.deref.ensures) ((rw (← c.self.view_is) at c.requires).bytes)

pub returns-in-Err-clause-refused : goal.returns-in-Err-clause-refused
returns-in-Err-clause-refused c = c.requires

pub returns-in-Ok-stretch-clause-kept : goal.returns-in-Ok-stretch-clause-kept
returns-in-Ok-stretch-clause-kept c = copy_lent c.args.self.now c.args.worker c.args.held c.in-Ok.kept c.requires c.in-Ok.ensures.hart c.in-Ok.ensures.privates c.in-Ok.ensures.bytes c.in-Ok.ensures.proc

pub returns-in-Ok-stretch-clause-asked : goal.returns-in-Ok-stretch-clause-asked
returns-in-Ok-stretch-clause-asked c =
    rw (← c.self.view_is) (asked_lent _ c.args.worker c.args.held c.in-Ok-stretch.asked (rw (← c.self.view_is) at c.requires) (rw c.deref.ensures at c.in-Ok-stretch.ensures.asked) c.in-Ok-stretch.ensures.takes c.in-Ok-stretch.ensures.proc c.in-Ok-stretch.ensures.bytes)

pub returns-in-Err-stretch-clause-refused : goal.returns-in-Err-stretch-clause-refused
returns-in-Err-stretch-clause-refused c =
    rw (← c.self.view_is) (later_lent _ c.args.worker c.args.held c.in-Err-stretch.refused.0 (rw (← c.self.view_is) at c.requires) (rw c.deref.ensures at c.in-Err-stretch.ensures.later) c.in-Err-stretch.ensures.later_proc c.in-Err-stretch.ensures.later_bytes)
