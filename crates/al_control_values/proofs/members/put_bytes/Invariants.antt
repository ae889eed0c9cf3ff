use Rattle.std.proofs.Common.{◌≡◌, ◌-◌, ◌++◌}
use Rattle.al_event.specs.Store.{bytes_of}
use Rattle.al_control_values.proofs.members.put_bytes.Given as goal

abbrev pub invariant-loop : goal.invariant-loop
invariant-loop l = l.out ++ bytes_of (l.size - l.counter) l.left ≡ l.fn.out ++ bytes_of l.size l.word
