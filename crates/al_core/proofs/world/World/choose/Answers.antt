use Rattle.al_core.proofs.Turning.{choose_some, choose_none, choose_away}
use Rattle.al_core.proofs.world.World.choose.Goals as goal

pub returns-clause-some : goal.returns-clause-some
returns-clause-some c = rw (← c.self.view_is) (choose_some _ _ c.self.invariant.stands (rw (← c.self.view_is) at c.requires) c.ready_proc.result c.ready_proc.ensures.some)

pub returns-clause-none : goal.returns-clause-none
returns-clause-none c = rw (← c.self.view_is) (choose_none _ _ c.self.invariant.stands c.most-most.ensures.sound (rw (← c.self.view_is) at c.requires) c.ready_proc.result c.ready_proc.ensures.none)

pub returns-clause-away : goal.returns-clause-away
returns-clause-away c = rw (← c.self.view_is) (choose_away _ _ c.self.invariant.stands c.most-most.ensures.sound (rw (← c.self.view_is) at c.requires) c.ready_proc.result c.ready_proc.ensures.none)
