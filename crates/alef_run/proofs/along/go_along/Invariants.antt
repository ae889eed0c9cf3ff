use Rattle.std.proofs.Common.{◌-◌, length}
use Rattle.alef_run.proofs.Alongs.{Going}
use Rattle.alef_run.proofs.along.go_along.Given as goal

abbrev pub invariant-loop-all : goal.invariant-loop-all
invariant-loop-all g l =
    Going l.fn.world.image l.fn.world.region l.entries l.world l.made (g.K.Sink.got l.initial.out) (g.K.Sink.got l.out) (g.K.Sink.faults l.initial.out) (g.K.Sink.faults l.out)

abbrev pub decreases-loop-all : goal.decreases-loop-all
decreases-loop-all g l = length l.entries - length l.world.entries
