use Rattle.std.proofs.Common.{arith}
use Rattle.al_rounds.proofs.Later.{later_on, loans_on, ended_so}
use Rattle.al_rounds.proofs.one_worker.go_on.Goals as goal

pub returns-in_err-after-clause-later : goal.returns-in_err-after-clause-later
returns-in_err-after-clause-later g c = later_on 0 c.args.world.now c.loop.world c.turn.new.world c.loop.invariant.later c.turn.ensures.later

pub returns-in-Idle : goal.returns-in-Idle
returns-in-Idle g c = record {
  later = later_on 0 c.args.world.now c.loop.world c.turn.new.world c.loop.invariant.later c.turn.ensures.later;
  others = loans_on 0 c.args.world.now c.loop.world c.turn.new.world c.loop.invariant.others c.turn.ensures.others;
  some = let i = c.loop.invariant.more in let o = c.in_ok-after.ensures.one in omega (arith, i, o);
  idle = ended_so c.in_ok-after.after _ _ c.in-Idle.is c.in_ok-after.ensures.after;
}

pub loop-preserved : goal.loop-preserved
loop-preserved g c =
    let a = rw c.in-Held.is at c.in_ok-after.ensures.after in
    record {
      later = later_on 0 c.args.world.now c.loop.world c.turn.new.world c.loop.invariant.later c.turn.ensures.later;
      others = loans_on 0 c.args.world.now c.loop.world c.turn.new.world c.loop.invariant.others c.turn.ensures.others;
      lent = a.0;
      live = a.1;
      more = let i = c.loop.invariant.more in let o = c.in_ok-after.ensures.one in omega (arith, i, o);
    }
