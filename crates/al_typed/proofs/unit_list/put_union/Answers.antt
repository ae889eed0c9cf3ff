use Rattle.std.proofs.Common.{refl}
use Rattle.al_typed.proofs.Placing.{next_element, union_more}
use Rattle.al_typed.proofs.unit_list.put_union.Goals as goal

pub loop-preserved : goal.loop-preserved
loop-preserved c = record {
  out =
      union_more c.args.out.now c.loop.out c.put_unit.new.out c.args.at c.loop.next c.loop.counter c.args.align c.loop.invariant.out
      c.loop.invariant.next c.in_ok-put_unit.ensures;
  next = next_element c.args.at c.loop.next c.loop.counter c.args.align c.args.align c.loop.invariant.next refl;
}
