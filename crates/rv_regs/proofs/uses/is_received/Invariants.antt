use Rattle.std.proofs.Common.{◌≡◌, drop}
use Rattle.rv_regs.specs.Uses.{received}
use Rattle.rv_regs.specs.Marks.{is_in}
use Rattle.rv_regs.proofs.uses.is_received.Given as goal

abbrev pub invariant-loop-b : goal.invariant-loop-b
invariant-loop-b l = is_in l.slot (received l.got l.branches) ≡ is_in l.slot (received l.got (drop l.b-index l.branches))
