use Rattle.al_store.proofs.Lives.{spans_of-lives}
use Rattle.al_store.proofs.store.Store.next_block.Goals as goal

pub returns-clause-laid : goal.returns-clause-laid
returns-clause-laid c = rw (← c.self.view_is, spans_of-lives c.self.inside.memory.items c.self.inside.region.blocks c.self.invariant.held) c.self.invariant.sound.laid

pub returns-clause-next : goal.returns-clause-next
returns-clause-next c = rw (← c.self.view_is, spans_of-lives c.self.inside.memory.items c.self.inside.region.blocks c.self.invariant.held) c.next_block.ensures
