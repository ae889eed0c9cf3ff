use Rattle.std.proofs.Common.{◌≡◌, ◌+◌, ◌^◌, ◌≤◌, ◌++◌}
use Rattle.rv_regs.specs.Homes.{home_at}
use Rattle.rv_form.specs.Flow.{pass}
use Rattle.rv_emit_calls.proofs.calls.pass.Given as goal

abbrev pub invariant-loop-left : goal.invariant-loop-left
invariant-loop-left l = record {
  slots : l.slot + l.left ≤ 2 ^ 20;
  words : l.word + l.left ≤ 2 ^ 20;
  code : l.code.items ++ pass (home_at l.homes) l.slot l.word l.left ≡ l.fn.code.items ++ pass (home_at l.homes) l.from l.to l.count;
}

abbrev pub decreases-loop-left : goal.decreases-loop-left
decreases-loop-left l = l.left
