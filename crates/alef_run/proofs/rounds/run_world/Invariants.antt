use Rattle.std.proofs.Common.{◌-◌, length}
use Rattle.alef_run.proofs.Between.{Between}
use Rattle.alef_run.proofs.rounds.run_world.Given as goal

abbrev pub invariant-loop-alloc : goal.invariant-loop-alloc
invariant-loop-alloc g l =
    Between l.fn.world.image l.workers l.fn.world.region l.limit l.world l.made (g.K.Sink.got l.initial.out) (g.K.Sink.got l.out) (g.K.Sink.faults l.initial.out) (g.K.Sink.faults l.out)

abbrev pub decreases-loop-alloc : goal.decreases-loop-alloc
decreases-loop-alloc g l = l.limit - length l.world.entries
