use Rattle.std.proofs.Common.{◌∙◌}
use Rattle.al_core.proofs.Prepared.{recv_ok, recv_err, word_is}
use Rattle.al_core.proofs.machinery.Machinery.can_recv.Goals as goal

pub returns-in-Ok : goal.returns-in-Ok
returns-in-Ok c = λ image. rw (← c.self.view_is) (recv_ok image _ c.args.chan c.in-Ok.answer c.from.result c.in-Ok.ensures.ok (c.from.ensures ∙ word_is c.in-Ok.answer))

pub returns-in-Err : goal.returns-in-Err
returns-in-Err c = λ image. rw (← c.self.view_is, c.trap_of.ensures) (recv_err image _ c.args.chan _ c.in-Err.ensures.err)
