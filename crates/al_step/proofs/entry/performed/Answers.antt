use Rattle.al_script.specs.Worlds.{shared_of}
use Rattle.al_step.proofs.Worlds.{not_none}
use Rattle.al_step.proofs.entry.performed.Goals as goal

pub unreachable-requires : goal.unreachable-requires
unreachable-requires c =
    not_none c.args.made.now c.in_ok-done.done (shared_of c.args.made.now c.args.state) c.args.task c.args.act c.args.pick c.in-None.is c.in_ok-done.ensures c.requires.in_range
