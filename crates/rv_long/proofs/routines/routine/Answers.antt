use Rattle.rv_long.proofs.Contracts.{all_computes, all_straight, all_in_range, few}
use Rattle.rv_long.proofs.routines.routine.Goals as goal

pub returns-clause-computes : goal.returns-clause-computes
returns-clause-computes c = all_computes c.args.op _ c.in_ok-lines.ensures

pub returns-clause-straight : goal.returns-clause-straight
returns-clause-straight c = all_straight c.args.op _ c.in_ok-lines.ensures

pub returns-clause-in_range : goal.returns-clause-in_range
returns-clause-in_range c = all_in_range c.args.op _ c.in_ok-lines.ensures

pub returns-clause-few : goal.returns-clause-few
returns-clause-few c = few c.args.op _ c.in_ok-lines.ensures
