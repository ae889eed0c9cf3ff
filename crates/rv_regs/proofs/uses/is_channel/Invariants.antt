use Rattle.std.proofs.Common.{◌≡◌, drop}
use Rattle.rv_regs.specs.Uses.{channels}
use Rattle.rv_regs.specs.Marks.{is_in}
use Rattle.rv_regs.proofs.uses.is_channel.Given as goal

abbrev pub invariant-loop-b : goal.invariant-loop-b
invariant-loop-b l = is_in l.slot (channels l.branches) ≡ is_in l.slot (channels (drop l.b-index l.branches))
