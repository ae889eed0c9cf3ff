use Rattle.std.proofs.Common.{◌-◌, length}
use Rattle.rv_regs.proofs.Least.{Round}
use Rattle.rv_regs.proofs.marks.widen.Given as goal

abbrev pub invariant-loop-behind : goal.invariant-loop-behind
invariant-loop-behind l = Round l.ir l.slot l.code l.initial.live l.changed l.live (length l.code - l.behind)
