use Rattle.al_core.proofs.Prepared.{pause, terminate, traps, prepared_for}
use Rattle.al_core.proofs.machinery.Machinery.prepare_act.Goals as goal

pub returns-in-Load-clause-prepared : goal.returns-in-Load-clause-prepared
returns-in-Load-clause-prepared c = rw (c.in-Load.is) (c.load.ensures c.args.image.now)

pub returns-in-Store-clause-prepared : goal.returns-in-Store-clause-prepared
returns-in-Store-clause-prepared c = rw (c.in-Store.is) (c.store.ensures c.args.image.now)

pub returns-in-Alloc-clause-prepared : goal.returns-in-Alloc-clause-prepared
returns-in-Alloc-clause-prepared c = rw (c.in-Alloc.is) (c.alloc_block.ensures c.args.image.now)

pub returns-in-Free-clause-prepared : goal.returns-in-Free-clause-prepared
returns-in-Free-clause-prepared c = rw (c.in-Free.is) (c.free_block.ensures c.args.image.now)

pub returns-in-FreeChan-clause-prepared : goal.returns-in-FreeChan-clause-prepared
returns-in-FreeChan-clause-prepared c = rw (c.in-FreeChan.is) (c.give_up.ensures c.args.image.now)

pub returns-in-CanRecv-clause-prepared : goal.returns-in-CanRecv-clause-prepared
returns-in-CanRecv-clause-prepared c = rw (c.in-CanRecv.is) (c.can_recv.ensures c.args.image.now)

pub returns-in-CanSend-clause-prepared : goal.returns-in-CanSend-clause-prepared
returns-in-CanSend-clause-prepared c = rw (c.in-CanSend.is) (c.can_send.ensures c.args.image.now)

pub returns-in-NewChan-clause-prepared : goal.returns-in-NewChan-clause-prepared
returns-in-NewChan-clause-prepared c = rw (c.in-NewChan.is) (prepared_for c.make_channel.result c.args.image.now _ _ _ c.make_channel.ensures.made)

pub returns-in-Print-clause-prepared : goal.returns-in-Print-clause-prepared
returns-in-Print-clause-prepared c = rw (c.in-Print.is, ← c.as_slice-in-Print.ensures.value) (prepared_for c.print.result c.args.image.now _ _ _ c.print.ensures.shown)

pub returns-in-Terminate-clause-prepared : goal.returns-in-Terminate-clause-prepared
returns-in-Terminate-clause-prepared c = rw (c.in-Terminate.is, c.stopped.ensures) (terminate c.args.image.now c.args.self.now _)

pub returns-in-Pause-clause-prepared : goal.returns-in-Pause-clause-prepared
returns-in-Pause-clause-prepared c = rw (c.in-Pause.is) (pause c.args.image.now c.args.self.now)

pub returns-in-Trap-clause-prepared : goal.returns-in-Trap-clause-prepared
returns-in-Trap-clause-prepared c = rw (c.in-Trap.is) (traps c.args.image.now c.args.self.now _)
