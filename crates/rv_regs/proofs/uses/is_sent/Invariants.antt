use Rattle.std.proofs.Common.{◌≡◌, drop}
use Rattle.rv_regs.specs.Uses.{sent_by}
use Rattle.rv_regs.specs.Marks.{is_in}
use Rattle.rv_regs.proofs.uses.is_sent.Given as goal

abbrev pub invariant-loop-b : goal.invariant-loop-b
invariant-loop-b l = is_in l.slot (sent_by l.branches) ≡ is_in l.slot (sent_by (drop l.b-index l.branches))
