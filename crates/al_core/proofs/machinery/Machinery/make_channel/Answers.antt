use Rattle.al_core.proofs.Prepared.{make_ok}
use Rattle.al_core.proofs.machinery.Machinery.make_channel.Goals as goal

pub returns-clause-made : goal.returns-clause-made
returns-clause-made c = λ image. rw (← c.self.view_is) (make_ok image _ c.args.capacity c.args.words c.in_ok-number.number c.make.new.self c.in_ok-number.ensures.made c.in_ok-number.ensures.number)
