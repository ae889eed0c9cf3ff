use Rattle.std.proofs.Common.{◌∙◌, refl}
use Rattle.al_core.proofs.Turning.{lend_can, lend_stands, lend_lent, lend_proc}
use Rattle.al_core.proofs.world.World.lend.Goals as goal

pub lend-held-requires : goal.lend-held-requires
lend-held-requires c = lend_can _ _ c.self.invariant.stands c.most-most.ensures.sound (rw (← c.self.view_is) at c.requires.live) c.args.proc (rw (← c.self.view_is) at c.requires.free)

pub invariant_of-self : goal.invariant_of-self
invariant_of-self c = record {
  stands = rw (c.lend-held.ensures.away, c.from.ensures, c.len.ensures ∙ c.self.inside.entries.ok.0) (lend_stands _ _ c.self.invariant.stands c.args.worker c.args.proc c.lend-held.result c.lend-held.ensures.held c.most-most.ensures.sound c.requires.small (rw (← c.self.view_is) at c.requires.idle) (rw (← c.self.view_is) at c.requires.live) (rw (← c.self.view_is) at c.requires.room));
  room = c.self.invariant.room;
}

pub returns-clause-lent : goal.returns-clause-lent
returns-clause-lent c = rw (c.from.ensures, c.len.ensures ∙ c.self.inside.entries.ok.0, ← c.self.view_is) refl

pub returns-clause-held : goal.returns-clause-held
returns-clause-held c = rw (c.from.ensures, c.len.ensures ∙ c.self.inside.entries.ok.0) (lend_lent _ _ c.self.invariant.stands c.args.worker c.args.proc c.lend-held.result c.lend-held.ensures.held c.most-most.ensures.sound c.requires.small (rw (← c.self.view_is) at c.requires.idle) (rw (← c.self.view_is) at c.requires.live) (rw (← c.self.view_is) at c.requires.room))

pub returns-clause-proc : goal.returns-clause-proc
returns-clause-proc c = lend_proc _ _ c.self.invariant.stands c.args.worker c.args.proc c.lend-held.result c.lend-held.ensures.held c.most-most.ensures.sound c.requires.small (rw (← c.self.view_is) at c.requires.idle) (rw (← c.self.view_is) at c.requires.live) (rw (← c.self.view_is) at c.requires.room)
