use Rattle.std.proofs.Common.{◌≡◌, ◌+◌, ◌*◌, ◌++◌}
use Rattle.al_typed.specs.Layout.{moved}
use Rattle.al_typed.proofs.Placing.{union_units}
use Rattle.al_typed.proofs.unit_list.put_union.Given as goal

abbrev pub invariant-loop : goal.invariant-loop
invariant-loop l = record {
  out : l.out ≡ l.fn.out ++ moved l.at (union_units l.align l.counter);
  next : l.next ≡ l.at + l.counter * l.align;
}
